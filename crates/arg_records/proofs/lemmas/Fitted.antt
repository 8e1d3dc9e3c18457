-- Values that fit types.
use Rattle.std.proofs.Common.{◌≡◌, ℕ, ◌≤◌, List, [], ◌∷◌, length, map, refl, sym, ap, ◌∙◌, arith, ◌≢◌, replicate}
use Rattle.std.specs.Prelude.{All}
use Rattle.std.proofs.lemmas.Int.{ints}
use Rattle.std.proofs.lemmas.List.Elements.{All-nil, All-cons, All-head, All-tail}
use Rattle.std.proofs.lemmas.List.{length-replicate}
use Rattle.printf_grammar.specs.declared.argument.Value.{Value}
use Rattle.printf_grammar.specs.declared.argument.Value.TheVariants as values
use Rattle.printf_grammar.specs.declared.arg_type.ArgType.{ArgType}
use Rattle.printf_grammar.specs.declared.arg_type.ArgType.TheVariants as types
use Rattle.printf_grammar.specs.Types.{FitsType, Fits, IsText}
use Rattle.printf_grammar.proofs.lemmas.Fitting.{Fits-length}
use Rattle.printf_grammar.proofs.lemmas.Worked.{all_copies}
use Rattle.arg_records.specs.Frames.{IsShort, AreArguments, Frame}
use Rattle.arg_records.specs.Kinds.{ArgKind, arg_kind, type_kind, IsArgument, HoldsBytes}
use Rattle.arg_records.proofs.Unique.{Frame-unique}

pub kind_fits : (value : Value) (type : ArgType) → FitsType value type → arg_kind value ≡ type_kind type
kind_fits (values.Signed z) types.Int fits = refl
kind_fits (values.Signed z) types.UInt fits = absurd fits
kind_fits (values.Signed z) types.Long fits = refl
kind_fits (values.Signed z) types.ULong fits = absurd fits
kind_fits (values.Signed z) types.Width fits = refl
kind_fits (values.Signed z) types.Precision fits = refl
kind_fits (values.Signed z) types.Text fits = absurd fits
kind_fits (values.Unsigned n) types.Int fits = absurd fits
kind_fits (values.Unsigned n) types.UInt fits = refl
kind_fits (values.Unsigned n) types.Long fits = absurd fits
kind_fits (values.Unsigned n) types.ULong fits = refl
kind_fits (values.Unsigned n) types.Width fits = absurd fits
kind_fits (values.Unsigned n) types.Precision fits = absurd fits
kind_fits (values.Unsigned n) types.Text fits = absurd fits
kind_fits (values.Text bytes) types.Int fits = absurd fits
kind_fits (values.Text bytes) types.UInt fits = absurd fits
kind_fits (values.Text bytes) types.Long fits = absurd fits
kind_fits (values.Text bytes) types.ULong fits = absurd fits
kind_fits (values.Text bytes) types.Width fits = absurd fits
kind_fits (values.Text bytes) types.Precision fits = absurd fits
kind_fits (values.Text bytes) types.Text fits = refl

pub argument_fits : (value : Value) (type : ArgType) → FitsType value type → HoldsBytes value → IsArgument value
argument_fits (values.Signed z) types.Int fits bytes_below = omega (arith, ints, fits)
argument_fits (values.Signed z) types.UInt fits bytes_below = absurd fits
argument_fits (values.Signed z) types.Long fits bytes_below = fits
argument_fits (values.Signed z) types.ULong fits bytes_below = absurd fits
argument_fits (values.Signed z) types.Width fits bytes_below = omega (arith, ints, fits.0, fits.1)
argument_fits (values.Signed z) types.Precision fits bytes_below = omega (arith, ints, fits.0, fits.1)
argument_fits (values.Signed z) types.Text fits bytes_below = absurd fits
argument_fits (values.Unsigned n) types.Int fits bytes_below = absurd fits
argument_fits (values.Unsigned n) types.UInt fits bytes_below = omega (arith, fits)
argument_fits (values.Unsigned n) types.Long fits bytes_below = absurd fits
argument_fits (values.Unsigned n) types.ULong fits bytes_below = fits
argument_fits (values.Unsigned n) types.Width fits bytes_below = absurd fits
argument_fits (values.Unsigned n) types.Precision fits bytes_below = absurd fits
argument_fits (values.Unsigned n) types.Text fits bytes_below = absurd fits
argument_fits (values.Text bytes) types.Int fits bytes_below = absurd fits
argument_fits (values.Text bytes) types.UInt fits bytes_below = absurd fits
argument_fits (values.Text bytes) types.Long fits bytes_below = absurd fits
argument_fits (values.Text bytes) types.ULong fits bytes_below = absurd fits
argument_fits (values.Text bytes) types.Width fits bytes_below = absurd fits
argument_fits (values.Text bytes) types.Precision fits bytes_below = absurd fits
argument_fits (values.Text bytes) types.Text fits bytes_below = bytes_below

pub short_fits : (value : Value) (type : ArgType) → FitsType value type → IsShort value
short_fits (values.Signed z) type fits = tt
short_fits (values.Unsigned n) type fits = tt
short_fits (values.Text bytes) types.Int fits = absurd fits
short_fits (values.Text bytes) types.UInt fits = absurd fits
short_fits (values.Text bytes) types.Long fits = absurd fits
short_fits (values.Text bytes) types.ULong fits = absurd fits
short_fits (values.Text bytes) types.Width fits = absurd fits
short_fits (values.Text bytes) types.Precision fits = absurd fits
short_fits (values.Text bytes) types.Text fits = fits.short

kinds_fit : (values : List Value) (types : List ArgType) → Fits values types → map arg_kind values ≡ map type_kind types
kinds_fit [] [] fits = refl
kinds_fit [] (type ∷ types) fits = absurd fits
kinds_fit (value ∷ values) [] fits = absurd fits
kinds_fit (value ∷ values) (type ∷ types) fits =
    ap (λ (k : ArgKind). k ∷ map arg_kind values) (kind_fits value type fits.0) ∙ ap (λ (ks : List ArgKind). type_kind type ∷ ks) (kinds_fit values types fits.1)

arguments_fit : (values : List Value) (types : List ArgType) → Fits values types → All HoldsBytes values → All IsArgument values
arguments_fit [] [] fits below = All-nil IsArgument
arguments_fit [] (type ∷ types) fits below = absurd fits
arguments_fit (value ∷ values) [] fits below = absurd fits
arguments_fit (value ∷ values) (type ∷ types) fits below =
    All-cons IsArgument value values (argument_fits value type fits.0 (All-head HoldsBytes value values below)) (arguments_fit values types fits.1 (All-tail HoldsBytes value values below))

shorts_fit : (values : List Value) (types : List ArgType) → Fits values types → All IsShort values
shorts_fit [] [] fits = All-nil IsShort
shorts_fit [] (type ∷ types) fits = absurd fits
shorts_fit (value ∷ values) [] fits = absurd fits
shorts_fit (value ∷ values) (type ∷ types) fits = All-cons IsShort value values (short_fits value type fits.0) (shorts_fit values types fits.1)

-- values that fit at most 64 types are such as a call may have
pub AreArguments-from_Fits : (values : List Value) (types : List ArgType) → Fits values types → length types ≤ 64 → AreArguments values
AreArguments-from_Fits values types fits few = record { few = omega (arith, few, Fits-length values types fits); short = shorts_fit values types fits }

-- one frame spells one call, by the types of its arguments
pub Frame-unique-Fits : (types : List ArgType) (i j s t : ℕ) (a b : List Value) → Fits a types → Fits b types → All HoldsBytes a → All HoldsBytes b → Frame i s a ≡ Frame j t b → (i ≡ j) × (s ≡ t) × (a ≡ b)
Frame-unique-Fits types i j s t a b left right left_bytes right_bytes e =
    Frame-unique i j s t a b (kinds_fit a types left ∙ sym (kinds_fit b types right)) (arguments_fit a types left left_bytes) (arguments_fit b types right right_bytes) e

pub copies_are_text : (n : ℕ) → n ≤ 4000 → IsText (replicate n 97)
copies_are_text n small = record { short = omega (arith, length-replicate {A = ℕ} n 97, small); no_nul = all_copies (λ b. b ≢ 0) 97 n (λ e. omega (arith, e)) }
