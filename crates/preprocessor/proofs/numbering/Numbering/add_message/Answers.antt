use Rattle.std.proofs.Common.{ℕ, ◌∷◌, [], ◌++◌, List, Err, refl, sym, ap, subst, ◌∙◌}
use Rattle.preprocessor.specs.declared.numbering.Numbering.{Numbering}
use Rattle.preprocessor.specs.declared.refusal.RefusalCause.TheVariants as causes
use Rattle.preprocessor.specs.Findings.Finding.{stated}
use Rattle.preprocessor.specs.Numbering.{HoldsFindings}
use Rattle.preprocessor.proofs.Holding.{stated_held, excess_held, is_no_excess}
use Rattle.preprocessor.proofs.numbering.Numbering.add_message.Goals as goal
use Rattle.preprocessor.proofs.numbering.Numbering.add_message.Goals.{in-Ok+in-Some, in-Err-TooMany+in_ok-push-in-Err-TooMany}

pub returns : goal.returns
returns c = λ before held. elim c.match-add.branch [
  | in-Ok+in-Some w ↦
      let number = w.in-Some.ensures.1 in
      subst (λ (next : Numbering). HoldsFindings (before ++ stated c.args.message ∷ []) next) (sym w.self-is)
      (stated_held before c.args.message c.args.self _ w.in-Ok.field-0 c.requires w.in-Ok.ensures.ok (λ new full. is_no_excess c.add.result w.in-Ok.field-0 w.in-Ok.is (c.add.ensures.too_many.1 (new, full))) number refl refl held)
  | in-Err-TooMany+in_ok-push-in-Err-TooMany w ↦
      let excess = w.in-Err-TooMany.ensures.too_many.0 (ap Err w.in-Err-TooMany.field-0-is) in
      let items = w.in_ok-push-in-Err-TooMany.ensures.items in
      subst (λ (next : Numbering). HoldsFindings (before ++ stated c.args.message ∷ []) next) (sym w.self-is)
      (excess_held before c.args.message c.args.self _ c.requires excess.0 excess.1 w.in-Err-TooMany.ensures.err refl (items ∙ ap (λ (file : List ℕ). c.args.self.refusals.items ++ record { file = file; line = c.args.message.line; cause = causes.TooMany } ∷ []) (c.in_ok-from_slice.ensures ∙ c.as_slice.ensures)) refl held)
]
