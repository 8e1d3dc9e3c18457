use Rattle.std.proofs.Common.{◌≡◌, Some, FitsSigned, to_z, of_z, sym, ◌∙◌, rules}
use Rattle.std.specs.Int.{int_min, int_max}
use Rattle.std.proofs.lemmas.Int.{to_z-of_z}
use mir.Syntax.{w128}
use Rattle.aggregation.proofs.Sums.{range_more, range_first}
use Rattle.aggregation.proofs.totals.widened.Goals as goal

pub returns-in-Some : goal.returns-in-Some
returns-in-Some c numbers is =
    let low_fits : FitsSigned w128 c.in-Some.least = search rules in
    let high_fits : FitsSigned w128 c.in-Some.greatest = search rules in
    let number = to_z-of_z w128 c.args.number c.ranges.number in
    let low : to_z w128 (of_z w128 c.min.result) ≡ int_min c.in-Some.least c.args.number =
    to_z-of_z w128 c.min.result (record { sfits = c.min.type_inv }) ∙ c.min.ensures.value ∙ (λ i. int_min (to_z-of_z w128 c.in-Some.least low_fits i) (number i)) in
    let high : to_z w128 (of_z w128 c.max.result) ≡ int_max c.in-Some.greatest c.args.number =
    to_z-of_z w128 c.max.result (record { sfits = c.max.type_inv }) ∙ c.max.ensures.value ∙ (λ i. int_max (to_z-of_z w128 c.in-Some.greatest high_fits i) (number i)) in
    (λ i. Some (low i, high i)) ∙ range_more numbers c.in-Some.least c.in-Some.greatest c.args.number (sym c.in-Some.is ∙ is)

pub returns-in-None : goal.returns-in-None
returns-in-None c numbers is =
    let same = to_z-of_z w128 c.args.number c.ranges.number in
    (λ i. Some (same i, same i)) ∙ range_first numbers c.args.number (sym c.in-None.is ∙ is)
