use Rattle.std.proofs.Common.{refl, sym, subst}
use Rattle.std.proofs.lemmas.List.{append-nil}
use Rattle.source_scan.specs.declared.found.Found.{Found}
use Rattle.preprocessor.specs.Findings.{bad_refusal}
use Rattle.code_inject.specs.Outcomes.{Outcome, IsOutcome}
use Rattle.code_inject.proofs.Gathered.{holds_more}
use Rattle.code_inject.proofs.outcomes.Outcomes.add.Goals as goal

pub returns-in_ok-push-in-Bad : goal.returns-in_ok-push-in-Bad
returns-in_ok-push-in-Bad c = λ before.
    let outcome : Outcome = Outcome.refused (bad_refusal c.in-Bad.bad) in
    holds_more c.args.dictionary.now before c.args.one outcome c.args.self.now _ (subst (λ (one : Found). IsOutcome c.args.dictionary.now one outcome) (sym c.in-Bad.is) refl) (sym (append-nil c.args.self.now.rewrites.items)) c.in_ok-push-in-Bad.ensures.items
