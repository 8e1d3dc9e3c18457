use Rattle.std.proofs.lemmas.Result.{IfOk-weaker}
use Rattle.preprocessor.proofs.lemmas.Finding.{statements_are_named}
use Rattle.preprocessor.proofs.Counting.{stays_stopped, scanned_counted}
use Rattle.preprocessor.proofs.numbering.Numbering.add_source.Goals as goal

pub returns-then-is_too_large : goal.returns-then-is_too_large
returns-then-is_too_large c = IfOk-weaker c.add_too_large.result _ _ (λ next counts files numbers. counts files c.args.source.now (c.is_too_large.ensures.large c.if-is_too_large.true) numbers) c.add_too_large.ensures

pub returns-then-self : goal.returns-then-self
returns-then-self c = λ files numbers. stays_stopped files _ c.args.self c.if-self.true numbers

pub add_all-requires : goal.add_all-requires
add_all-requires c = statements_are_named c.args.file.now c.args.source.now _ c.in_ok-found.ensures

pub returns : goal.returns
returns c =
    IfOk-weaker c.add_all.result _ _
    (λ next holds. scanned_counted c.args.file.now c.args.source.now c.in_ok-found.found.items c.args.self next c.if-self.false (c.is_too_large.ensures.small c.if-is_too_large.false) c.in_ok-found.ensures holds)
    c.add_all.ensures
