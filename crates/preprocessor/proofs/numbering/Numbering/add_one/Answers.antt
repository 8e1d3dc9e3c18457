use Rattle.std.proofs.Common.{◌∷◌, []}
use Rattle.std.proofs.lemmas.Result.{IfOk-weaker}
use Rattle.preprocessor.proofs.Holding.{still_stopped}
use Rattle.preprocessor.proofs.lemmas.Finding.{statement_held, bad_held}
use Rattle.preprocessor.proofs.numbering.Numbering.add_one.Goals as goal

pub returns-then-self : goal.returns-then-self
returns-then-self c = λ before finding is held. still_stopped before (finding ∷ []) c.args.self c.if-self.true held

pub returns-in-Statement : goal.returns-in-Statement
returns-in-Statement c =
    IfOk-weaker c.add_message.result _ _ (λ next holds. statement_held c.args.one c.in-Statement.statement c.message_of.result c.args.self next c.in-Statement.is c.message_of.ensures holds) c.add_message.ensures

pub returns-in-Bad : goal.returns-in-Bad
returns-in-Bad c = IfOk-weaker c.add_refusal.result _ _ (λ next holds. bad_held c.args.one c.in-Bad.bad c.args.self next c.in-Bad.is holds) c.add_refusal.ensures
