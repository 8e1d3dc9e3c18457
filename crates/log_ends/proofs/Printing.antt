-- What is printed of texts that are cut to their limits.
use Rattle.std.proofs.Common.{◌≡◌, ℕ, zero, suc, ◌+◌, ◌<◌, ◌≤◌, List, [], ◌∷◌, ◌++◌, length, get_or, take, drop, min, refl, sym, ap, subst, ◌∙◌, inl, inr, arith, length-append}
use Rattle.std.specs.Prelude.{◌&&◌, ◌||◌, is_none, ℤ, pos, slice_range, Option, Some, None, IsSome, IfSome, ◌↔◌}
use Rattle.std.specs.List.{AllZip}
use Rattle.std.proofs.lemmas.List.{get_or_at, take_all, take-take}
use Rattle.std.proofs.lemmas.Bool.{cases_lt}
use Rattle.printf_grammar.specs.declared.argument.Value.{Value}
use Rattle.printf_grammar.specs.declared.argument.Value.TheVariants as values
use Rattle.printf_grammar.specs.declared.limits.TheConstants.{MAX_TEXT}
use Rattle.printf_grammar.specs.declared.arg_type.ArgType.{ArgType}
use Rattle.printf_grammar.specs.declared.arg_type.ArgType.TheVariants as types
use Rattle.printf_grammar.specs.declared.piece.Piece.{Piece}
use Rattle.printf_grammar.specs.declared.piece.Piece.TheVariants as piece
use Rattle.printf_grammar.specs.declared.piece.Spec.{Spec}
use Rattle.printf_grammar.specs.declared.piece.Size.{Size}
use Rattle.printf_grammar.specs.declared.piece.Size.TheVariants.{Absent, Star, Given}
use Rattle.printf_grammar.specs.declared.piece.Length.{Length}
use Rattle.printf_grammar.specs.declared.piece.Length.TheVariants as lengths
use Rattle.printf_grammar.specs.declared.piece.Conversion.{Conversion}
use Rattle.printf_grammar.specs.declared.piece.Conversion.TheVariants as conversions
use Rattle.printf_grammar.specs.Pieces.{Parsed}
use Rattle.printf_grammar.specs.Types.{size_types, signed_type, unsigned_type, conversion_type, field_types, Types, Fits, FitsType}
use Rattle.direct_printf.specs.Fields.{signed_of, stars, width_of, is_left_star, precision_of, cut, converted, is_integer, padded, argument_at, Field, argument_count, pieces_text, Text}
use Rattle.log_ends.specs.Texts.{printed_bytes, value_limit, star_limits, piece_limits, text_limits, limit_at, cut_text, cut_texts}

-- ---- which arguments have limits

signed_no_text : (length : Length) → signed_type length ≡ types.Text → ⊥
signed_no_text lengths.Plain is = absurd cc
signed_no_text lengths.HH is = absurd cc
signed_no_text lengths.H is = absurd cc
signed_no_text lengths.L is = absurd cc
signed_no_text lengths.LL is = absurd cc
signed_no_text lengths.J is = absurd cc
signed_no_text lengths.Z is = absurd cc
signed_no_text lengths.T is = absurd cc

unsigned_no_text : (length : Length) → unsigned_type length ≡ types.Text → ⊥
unsigned_no_text lengths.Plain is = absurd cc
unsigned_no_text lengths.HH is = absurd cc
unsigned_no_text lengths.H is = absurd cc
unsigned_no_text lengths.L is = absurd cc
unsigned_no_text lengths.LL is = absurd cc
unsigned_no_text lengths.J is = absurd cc
unsigned_no_text lengths.Z is = absurd cc
unsigned_no_text lengths.T is = absurd cc

-- a limit stands for a text, and is none that is too great
abbrev pub IsLimitOf : Option ℕ → ArgType → Type 0
IsLimitOf limit type = (IsSome limit ↔ (type ≡ types.Text)) × IfSome limit (λ n. n ≤ MAX_TEXT)

printed_most : (precision : Size) → printed_bytes precision ≤ MAX_TEXT
printed_most Absent = omega arith
printed_most Star = omega arith
printed_most (Given n) = omega arith

no_limit : (type : ArgType) → (type ≡ types.Text → ⊥) → IsLimitOf None type
no_limit type none = ((λ is. absurd cc, λ is. absurd (none is)), tt)

value_has : (conversion : Conversion) (length : Length) (precision : Size) → IsLimitOf (value_limit conversion precision) (conversion_type conversion length)
value_has conversions.S length precision = ((λ _. refl, λ _. refl), printed_most precision)
value_has conversions.D length precision = no_limit _ (signed_no_text length)
value_has conversions.I length precision = no_limit _ (signed_no_text length)
value_has conversions.O length precision = no_limit _ (unsigned_no_text length)
value_has conversions.U length precision = no_limit _ (unsigned_no_text length)
value_has conversions.X length precision = no_limit _ (unsigned_no_text length)
value_has conversions.UpperX length precision = no_limit _ (unsigned_no_text length)
value_has conversions.C length precision = no_limit _ (λ is. cc)
value_has conversions.P length precision = no_limit _ (λ is. cc)

star_has : (type : ArgType) → (type ≡ types.Text → ⊥) → (size : Size) → AllZip IsLimitOf (star_limits size) (size_types type size)
star_has type none Absent = tt
star_has type none Star = (no_limit type none, tt)
star_has type none (Given n) = tt

zip_append : {A B : Type 0} (R : A → B → Type 0) (xs xs' : List A) (ys ys' : List B) → AllZip R xs ys → AllZip R xs' ys' → AllZip R (xs ++ xs') (ys ++ ys')
zip_append R [] xs' [] ys' all more = more
zip_append R [] xs' (y ∷ ys) ys' all more = absurd all
zip_append R (x ∷ xs) xs' [] ys' all more = absurd all
zip_append R (x ∷ xs) xs' (y ∷ ys) ys' all more = (all.0, zip_append R xs xs' ys ys' all.1 more)

field_has : (spec : Spec) → AllZip IsLimitOf (piece_limits (piece.Field spec)) (field_types spec)
field_has spec =
    let limit = value_limit spec.conversion spec.precision in
    let type = conversion_type spec.conversion spec.length in
    let precisions = size_types types.Precision spec.precision in
    let widths = size_types types.Width spec.width in
    zip_append IsLimitOf (star_limits spec.width ++ star_limits spec.precision) (limit ∷ []) (widths ++ precisions) (type ∷ [])
    (zip_append IsLimitOf (star_limits spec.width) (star_limits spec.precision) widths precisions (star_has types.Width (λ is. cc) spec.width) (star_has types.Precision (λ is. cc) spec.precision))
    (value_has spec.conversion spec.length spec.precision, tt)

pub all_have : (pieces : List Piece) → AllZip IsLimitOf (text_limits pieces) (Types pieces)
all_have [] = tt
all_have (piece.Literal start end ∷ pieces) = all_have pieces
all_have (piece.Percent ∷ pieces) = all_have pieces
all_have (piece.Field spec ∷ pieces) = zip_append IsLimitOf (piece_limits (piece.Field spec)) (text_limits pieces) (field_types spec) (Types pieces) (field_has spec) (all_have pieces)

-- ---- arguments that are cut

cut_number : (limit : Option ℕ) → cut_text limit (values.Signed (pos 0)) ≡ values.Signed (pos 0)
cut_number None = refl
cut_number (Some n) = refl

-- the argument at a place is cut by the limit at that place
at_place : (limits : List (Option ℕ)) (args : List Value) (place : ℕ) → argument_at (cut_texts limits args) place ≡ cut_text (limit_at limits place) (argument_at args place)
at_place [] args place = refl
at_place (limit ∷ limits) [] place = sym (cut_number (limit_at (limit ∷ limits) place))
at_place (limit ∷ limits) (value ∷ args) zero = refl
at_place (limit ∷ limits) (value ∷ args) (suc place) = at_place limits args place

signed_same : (limit : Option ℕ) (value : Value) → signed_of (cut_text limit value) ≡ signed_of value
signed_same None value = refl
signed_same (Some most) (values.Signed z) = refl
signed_same (Some most) (values.Unsigned n) = refl
signed_same (Some most) (values.Text bytes) = refl

-- cutting changes no number
signed_at : (limits : List (Option ℕ)) (args : List Value) (place : ℕ) → signed_of (argument_at (cut_texts limits args) place) ≡ signed_of (argument_at args place)
signed_at limits args place = ap signed_of (at_place limits args place) ∙ signed_same (limit_at limits place) (argument_at args place)

-- ---- one field

star_count : (size : Size) → length (star_limits size) ≡ stars size
star_count Absent = refl
star_count Star = refl
star_count (Given n) = refl

type_count : (type : ArgType) (size : Size) → length (size_types type size) ≡ stars size
type_count type Absent = refl
type_count type Star = refl
type_count type (Given n) = refl

-- what stands behind those of two stars
behind_stars : {A : Type 0} (xs ys : List A) (value default : A) (n m : ℕ) → length xs ≡ n → length ys ≡ m → get_or (xs ++ ys ++ value ∷ []) (n + m) default ≡ value
behind_stars xs ys value default n m long more =
    get_or_at (xs ++ ys) value [] default (n + m) (omega (arith, length-append xs ys, long, more))

value_is : (spec : Spec) → limit_at (piece_limits (piece.Field spec)) (stars spec.width + stars spec.precision) ≡ value_limit spec.conversion spec.precision
value_is spec = behind_stars (star_limits spec.width) (star_limits spec.precision) (value_limit spec.conversion spec.precision) None (stars spec.width) (stars spec.precision) (star_count spec.width) (star_count spec.precision)

-- the argument at a place fits the type there
fits_at : (args : List Value) (list : List ArgType) (place : ℕ) (default : ArgType) → Fits args list → place < length list → FitsType (argument_at args place) (get_or list place default)
fits_at [] [] place default fits within = absurd (omega arith)
fits_at [] (type ∷ list) place default fits within = absurd fits
fits_at (value ∷ args) [] place default fits within = absurd fits
fits_at (value ∷ args) (type ∷ list) zero default fits within = fits.0
fits_at (value ∷ args) (type ∷ list) (suc place) default fits within = fits_at args list place default fits.1 (omega arith)

value_fits : (spec : Spec) (args : List Value) → Fits args (field_types spec) → FitsType (argument_at args (stars spec.width + stars spec.precision)) (conversion_type spec.conversion spec.length)
value_fits spec args fits =
    let w = size_types types.Width spec.width in
    let p = size_types types.Precision spec.precision in
    let type = conversion_type spec.conversion spec.length in
    let within : stars spec.width + stars spec.precision < length (w ++ p ++ type ∷ []) = omega (arith, length-append w p, length-append (w ++ p) (type ∷ []), type_count types.Width spec.width, type_count types.Precision spec.precision) in
    subst (FitsType (argument_at args (stars spec.width + stars spec.precision))) (behind_stars w p type types.Text _ _ (type_count types.Width spec.width) (type_count types.Precision spec.precision))
    (fits_at args (field_types spec) (stars spec.width + stars spec.precision) types.Text fits within)

-- what is taken twice
take_twice : (n m : ℕ) (bytes : List ℕ) → length bytes ≤ m → take n (take (min n m) bytes) ≡ take n bytes
take_twice n m bytes short = elim (cases_lt n m) [
  | inl below ↦ take-take n (min n m) bytes (omega (arith, below))
  | inr above ↦ ap (take n) (take_all (min n m) bytes (omega (arith, above, short)))
]

cut_twice : (precision : Size) (z : ℤ) (bytes : List ℕ) → length bytes ≤ MAX_TEXT → cut (precision_of precision z) (take (printed_bytes precision) bytes) ≡ cut (precision_of precision z) bytes
cut_twice Absent z bytes short = take_all MAX_TEXT bytes short
cut_twice Star z bytes short = ap (cut (precision_of Star z)) (take_all MAX_TEXT bytes short)
cut_twice (Given n) z bytes short = take_twice n MAX_TEXT bytes short

converted_same : (conversion : Conversion) (spec : Spec) (length : Length) (precision : Size) (z : ℤ) (value : Value) → FitsType value (conversion_type conversion length)
    → converted conversion spec (precision_of precision z) (cut_text (value_limit conversion precision) value) ≡ converted conversion spec (precision_of precision z) value
converted_same conversions.S spec length precision z (values.Text bytes) fits = ap (λ (body : List ℕ). record { front = []; body = body }) (cut_twice precision z bytes fits.short)
converted_same conversions.S spec length precision z (values.Signed n) fits = refl
converted_same conversions.S spec length precision z (values.Unsigned n) fits = refl
converted_same conversions.D spec length precision z value fits = refl
converted_same conversions.I spec length precision z value fits = refl
converted_same conversions.O spec length precision z value fits = refl
converted_same conversions.U spec length precision z value fits = refl
converted_same conversions.X spec length precision z value fits = refl
converted_same conversions.UpperX spec length precision z value fits = refl
converted_same conversions.C spec length precision z value fits = refl
converted_same conversions.P spec length precision z value fits = refl

-- what a field writes of its three arguments
abbrev field_of : Spec → ℤ → ℤ → Value → List ℕ
field_of spec width precision value =
    padded (spec.minus || is_left_star spec.width width)
    (spec.zero && is_integer spec.conversion && is_none (precision_of spec.precision precision))
    (width_of spec.width width)
    (converted spec.conversion spec (precision_of spec.precision precision) value)

field_same : (spec : Spec) (args : List Value) → Fits args (field_types spec) → Field spec (cut_texts (piece_limits (piece.Field spec)) args) ≡ Field spec args
unfolding Field
field_same spec args fits =
    let limits = piece_limits (piece.Field spec) in
    let place = stars spec.width + stars spec.precision in
    let z = signed_of (argument_at args (stars spec.width)) in
    let width = signed_at limits args 0 in
    let precision = signed_at limits args (stars spec.width) in
    let value = at_place limits args place ∙ ap (λ (limit : Option ℕ). cut_text limit (argument_at args place)) (value_is spec) in
    let same = converted_same spec.conversion spec spec.length spec.precision z (argument_at args place) (value_fits spec args fits) in
    ap (λ (all : ℤ × ℤ × Value). field_of spec all.0 all.1 all.2) (λ i. (width i, precision i, value i))
    ∙ ap (padded (spec.minus || is_left_star spec.width (signed_of (argument_at args 0))) (spec.zero && is_integer spec.conversion && is_none (precision_of spec.precision z)) (width_of spec.width (signed_of (argument_at args 0)))) same

-- ---- all fields

take_cut : (limits more : List (Option ℕ)) (args : List Value) → take (length limits) (cut_texts (limits ++ more) args) ≡ cut_texts limits (take (length limits) args)
take_cut [] more args = refl
take_cut (limit ∷ limits) more [] = refl
take_cut (limit ∷ limits) more (value ∷ args) = ap (λ (rest : List Value). cut_text limit value ∷ rest) (take_cut limits more args)

drop_cut : (limits more : List (Option ℕ)) (args : List Value) → length limits ≤ length args → drop (length limits) (cut_texts (limits ++ more) args) ≡ cut_texts more (drop (length limits) args)
drop_cut [] more args within = refl
drop_cut (limit ∷ limits) more [] within = absurd (omega arith)
drop_cut (limit ∷ limits) more (value ∷ args) within = drop_cut limits more args (omega arith)

fits_split : (args : List Value) (front back : List ArgType) → Fits args (front ++ back) → (length front ≤ length args) × Fits (take (length front) args) front × Fits (drop (length front) args) back
fits_split args [] back fits = (omega arith, tt, fits)
fits_split [] (type ∷ front) back fits = absurd fits
fits_split (value ∷ args) (type ∷ front) back fits =
    let rest : (length front ≤ length args) × Fits (take (length front) args) front × Fits (drop (length front) args) back = fits_split args front back fits.1 in
    (omega (arith, rest.0), (fits.0, rest.1), rest.2)

limit_count : (spec : Spec) → length (piece_limits (piece.Field spec)) ≡ argument_count spec
limit_count spec =
    let w = star_limits spec.width in
    let p = star_limits spec.precision in
    let value = value_limit spec.conversion spec.precision in
    let long : length (w ++ p ++ value ∷ []) ≡ stars spec.width + stars spec.precision + 1 = omega (arith, length-append w p, length-append (w ++ p) (value ∷ []), star_count spec.width, star_count spec.precision) in
    long

types_count : (spec : Spec) → length (field_types spec) ≡ argument_count spec
types_count spec =
    let w = size_types types.Width spec.width in
    let p = size_types types.Precision spec.precision in
    let value = conversion_type spec.conversion spec.length in
    let long : length (w ++ p ++ value ∷ []) ≡ stars spec.width + stars spec.precision + 1 = omega (arith, length-append w p, length-append (w ++ p) (value ∷ []), type_count types.Width spec.width, type_count types.Precision spec.precision) in
    long

pieces_same : (format : List ℕ) (pieces : List Piece) (args : List Value) → Fits args (Types pieces) → pieces_text format pieces (cut_texts (text_limits pieces) args) ≡ pieces_text format pieces args
unfolding pieces_text
pieces_same format [] args fits = refl
pieces_same format (piece.Literal start end ∷ pieces) args fits = ap (λ (rest : List ℕ). slice_range format start end ++ rest) (pieces_same format pieces args fits)
pieces_same format (piece.Percent ∷ pieces) args fits = ap (λ (rest : List ℕ). 37 ∷ rest) (pieces_same format pieces args fits)
pieces_same format (piece.Field spec ∷ pieces) args fits =
    let limits = piece_limits (piece.Field spec) in
    let more = text_limits pieces in
    let count = argument_count spec in
    let same_count : length (field_types spec) ≡ count = types_count spec in
    let split : (length (field_types spec) ≤ length args) × Fits (take (length (field_types spec)) args) (field_types spec) × Fits (drop (length (field_types spec)) args) (Types pieces) = fits_split args (field_types spec) (Types pieces) fits in
    let own : Fits (take count args) (field_types spec) = subst (λ (n : ℕ). Fits (take n args) (field_types spec)) same_count split.1 in
    let others : Fits (drop count args) (Types pieces) = subst (λ (n : ℕ). Fits (drop n args) (Types pieces)) same_count split.2 in
    let front : take count (cut_texts (limits ++ more) args) ≡ cut_texts limits (take count args) = subst (λ (n : ℕ). take n (cut_texts (limits ++ more) args) ≡ cut_texts limits (take n args)) (limit_count spec) (take_cut limits more args) in
    let back : drop count (cut_texts (limits ++ more) args) ≡ cut_texts more (drop count args) = subst (λ (n : ℕ). drop n (cut_texts (limits ++ more) args) ≡ cut_texts more (drop n args)) (limit_count spec) (drop_cut limits more args (omega (arith, split.0, same_count, limit_count spec))) in
    let first : Field spec (take count (cut_texts (limits ++ more) args)) ≡ Field spec (take count args) = ap (Field spec) front ∙ field_same spec (take count args) own in
    let rest : pieces_text format pieces (drop count (cut_texts (limits ++ more) args)) ≡ pieces_text format pieces (drop count args) = ap (pieces_text format pieces) back ∙ pieces_same format pieces (drop count args) others in
    λ i. first i ++ rest i

pub text_same : (format : Parsed) (args : List Value) → Fits args (Types format.pieces) → Text format (cut_texts (text_limits format.pieces) args) ≡ Text format args
unfolding Text
text_same format args fits = pieces_same format.bytes format.pieces args fits
