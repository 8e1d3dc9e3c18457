-- Two's complement in fewer bits.
use Rattle.std.proofs.Common.{◌≡◌, ◌^◌, ℤ, pos, unsigned_abs, FitsSigned, to_z, of_z, w64, ◌∙◌, sym, ap, subst}
use Rattle.std.specs.Int.{int_wrap, int_rem_euclid, cast_signed}
use Rattle.std.proofs.lemmas.Int.{to_z-of_z, SFits-int_wrap}
use mir.Syntax.{Width}
use mir.Val.{bits}

-- the rest by the power of two, read in so many bits
pub int_wrap-rest : (w : Width) (z rest made : ℤ) → FitsSigned w64 z → FitsSigned w64 rest → FitsSigned w64 made → rest ≡ int_rem_euclid (to_z w64 (of_z w64 z)) (pos (2 ^ bits w)) → made ≡ cast_signed w (unsigned_abs (to_z w64 (of_z w64 rest))) → to_z w64 (of_z w64 (to_z w (of_z w made))) ≡ int_wrap w z
unfolding int_wrap
int_wrap-rest w z rest made fits rest_fits made_fits rest_is is =
    let rest_of : rest ≡ int_rem_euclid z (pos (2 ^ bits w)) = rw (to_z-of_z w64 z fits) at rest_is in
    let wrapped : made ≡ int_wrap w z = (rw (to_z-of_z w64 rest rest_fits) at is) ∙ ap (λ r. cast_signed w (unsigned_abs r)) rest_of in
    let P : ℤ → Type 0 = λ x. FitsSigned w x in
    let within : FitsSigned w made = subst P (sym wrapped) (SFits-int_wrap w z) in
    ap (λ x. to_z w64 (of_z w64 x)) (to_z-of_z w made within) ∙ to_z-of_z w64 made made_fits ∙ wrapped
