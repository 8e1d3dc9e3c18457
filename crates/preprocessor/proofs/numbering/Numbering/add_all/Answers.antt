use Rattle.std.proofs.Common.{◌≡◌, ◌∷◌, [], ◌++◌, List, length, sym, ap, subst, ◌∙◌, append_assoc, arith}
use Rattle.std.specs.List.{AllByRecursion}
use Rattle.std.specs.Vec.Iter.{into_iter_items}
use Rattle.preprocessor.specs.Findings.{Finding, IsNamed}
use Rattle.preprocessor.specs.Numbering.{HoldsFindings}
use Rattle.preprocessor.proofs.lemmas.Finding.{findings_split}
use Rattle.preprocessor.proofs.numbering.Numbering.add_all.Goals as goal

pub loop-one-preserved : goal.loop-one-preserved
loop-one-preserved c =
    let at = c.loop-one in
    let one = c.in-Some.one in
    let steps : into_iter_items at.one-iterator ≡ one ∷ into_iter_items c.next.new.self = c.in-Some.ensures.steps.0 in
    record {
      parted = append_assoc at.yielded (one ∷ []) _ ∙ rw (← steps) at.invariant.parted;
      named = (subst (AllByRecursion IsNamed) steps at.invariant.named).1;
      holds = λ before findings are held.
          let split = findings_split at.yielded one findings are in
          subst (λ (list : List Finding). HoldsFindings list c.in_ok-numbering.numbering) (append_assoc before split.0 (split.1 ∷ []) ∙ ap (λ (list : List Finding). before ++ list) (sym split.2))
          (c.in_ok-numbering.ensures (before ++ split.0) split.1 split.4 (at.invariant.holds before split.0 split.3 held));
      counted =
          let was = at.invariant.counted in
          let gone = c.in-Some.ensures.steps.1 in
          let short = ap length steps in
          omega arith;
    }
