-- Which values fit which types.
use Rattle.std.proofs.Common.{◌≡◌, List, [], ◌∷◌, length, map, refl, ap, arith, suc}
use Rattle.std.proofs.lemmas.List.{length-map}
use Rattle.printf_grammar.specs.declared.arg_type.ArgType.{ArgType}
use Rattle.printf_grammar.specs.declared.argument.Value.{Value}
use Rattle.printf_grammar.specs.Types.{Fits}

-- values that fit are as many as the types
pub Fits-length : (values : List Value) (types : List ArgType) → Fits values types → length values ≡ length types
Fits-length [] [] fits = refl
Fits-length [] (type ∷ types) fits = absurd fits
Fits-length (value ∷ values) [] fits = absurd fits
Fits-length (value ∷ values) (type ∷ types) fits = ap suc (Fits-length values types fits.1)

pub Fits-length_of_args : {A : Type 0} (value : A → Value) (args : List A) (types : List ArgType) → Fits (map value args) types → length types ≡ length args
Fits-length_of_args value args types fits = omega (arith, Fits-length (map value args) types fits, length-map args value)
