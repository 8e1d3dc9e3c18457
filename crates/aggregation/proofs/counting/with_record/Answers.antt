use Rattle.std.proofs.Common.{ℤ, List, [], ◌∷◌, Option, FitsSigned, ap, sym, subst, ◌∙◌, rules}
use Rattle.std.specs.List.{cons_option}
use Rattle.std.proofs.lemmas.Int.{to_z-of_z}
use mir.Syntax.{w128}
use Rattle.aggregation.specs.Totals.{Adds}
use Rattle.aggregation.proofs.Sums.{adds_none}
use Rattle.aggregation.proofs.counting.with_record.Goals as goal

pub returns-in-Some : goal.returns-in-Some
returns-in-Some c =
    let fits : FitsSigned w128 c.in-Some.number = search rules in
    let same = ap (λ (n : ℤ). n ∷ []) (to_z-of_z w128 c.in-Some.number fits) in
    subst (λ (numbers : List ℤ). Adds c.args.totals c.with.result numbers 1) (same ∙ ap (λ (found : Option ℤ). cons_option found []) c.in-Some.ensures.number) c.with.ensures

pub returns-in-None : goal.returns-in-None
returns-in-None c = adds_none c.args.totals _ 1 c.requires.within (ap (λ (found : Option ℤ). cons_option found []) (sym c.in-None.ensures.number))
