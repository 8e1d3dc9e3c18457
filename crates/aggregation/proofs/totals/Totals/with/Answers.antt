use Rattle.std.proofs.Common.{◌++◌, ◌∷◌, ◌≤◌, [], ℤ, FitsSigned, to_z, of_z, refl, ap, ◌∙◌, rules, arith}
use Rattle.std.specs.Prelude.{◌+ℤ◌}
use Rattle.std.proofs.lemmas.Int.{to_z-of_z}
use mir.Syntax.{w128}
use Rattle.aggregation.specs.Totals.{range_of}
use Rattle.aggregation.proofs.Sums.{sum_fits, adds_one}
use Rattle.aggregation.proofs.totals.Totals.with.Goals as goal

pub returns : goal.returns
returns c =
    let self = c.args.self in
    let number = to_z-of_z w128 c.args.number c.ranges.number in
    let few : self.count ≤ 134217728 = omega (arith, c.requires.few) in
    let old_fits : FitsSigned w128 self.sum = search rules in
    let fits : FitsSigned w128 (self.sum +ℤ c.args.number) = sum_fits self.count self.sum c.args.number c.requires.within few c.requires.is_number in
    let sum = (λ i. to_z w128 (of_z w128 (to_z-of_z w128 self.sum old_fits i +ℤ number i))) ∙ to_z-of_z w128 (self.sum +ℤ c.args.number) fits in
    adds_one self _ c.args.number c.requires.within c.requires.is_number refl
    (λ numbers are. c.widened.ensures numbers are ∙ ap (λ (n : ℤ). range_of (numbers ++ n ∷ [])) number) sum
