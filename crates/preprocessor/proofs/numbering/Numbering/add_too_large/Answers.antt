use Rattle.std.proofs.Common.{List, ℕ, ◌++◌, ◌∷◌, [], subst}
use Rattle.std.proofs.lemmas.Result.{IfOk-weaker}
use Rattle.preprocessor.specs.Findings.{Finding, large_refusal}
use Rattle.preprocessor.specs.Numbering.{HoldsFindings}
use Rattle.preprocessor.proofs.Counting.{stays_stopped, large_counted}
use Rattle.preprocessor.proofs.numbering.Numbering.add_too_large.Goals as goal

pub returns-then-self : goal.returns-then-self
returns-then-self c = λ files source large numbers. stays_stopped files _ c.args.self c.if-self.true numbers

pub returns : goal.returns
returns c =
    IfOk-weaker c.add_refusal.result _ _
    (λ next holds. large_counted c.args.file.now c.args.self next c.if-self.false (λ before held. subst (λ (name : List ℕ). HoldsFindings (before ++ Finding.refused (large_refusal name) ∷ []) next) c.in_ok-from_slice.ensures (holds before held)))
    c.add_refusal.ensures
