-- A field's own arguments.
use Rattle.std.proofs.Common.{◌≡◌, ℕ, ◌+◌, ◌<◌, ℤ, refl, Bool, true, false, ◌&&◌, ◌||◌, List, ◌++◌, length, map, get_or, Option, None, is_none, sym, ap, arith, ◌∙◌}
use Rattle.std.proofs.lemmas.List.{length-append, get_or-map}
use Rattle.printf_grammar.specs.declared.piece.Spec.{Spec}
use Rattle.printf_grammar.specs.declared.piece.Size.{Size}
use Rattle.printf_grammar.specs.declared.piece.Size.TheVariants.{Absent, Star, Given}
use Rattle.printf_grammar.specs.declared.arg_type.ArgType.{ArgType}
use Rattle.printf_grammar.specs.declared.arg_type.ArgType.TheVariants.{Width, Precision}
use Rattle.printf_grammar.specs.declared.argument.Value.{Value}
use Rattle.printf_grammar.specs.Types.{Fits, size_types, field_types}
use Rattle.printf_grammar.proofs.lemmas.Fitting.{Fits-length_of_args}
use Rattle.direct_printf.specs.Fields.{Field, Converted, padded, converted, is_integer, width_of, is_left_star, precision_of, stars, argument_at, argument_count, signed_of}
use Rattle.direct_printf.proofs.Padded.{padded-no_width}

size_types-stars : (type : ArgType) (size : Size) → length (size_types type size) ≡ stars size
size_types-stars type Absent = refl
size_types-stars type Star = refl
size_types-stars type (Given n) = refl

-- a field takes as many arguments as it has types
pub argument_count-types : (spec : Spec) → length (field_types spec) ≡ argument_count spec
argument_count-types spec =
    simp length-append (omega (arith, size_types-stars Width spec.width, size_types-stars Precision spec.precision))

-- and its own arguments are as many
pub argument_count-args : {A : Type 0} (value : A → Value) (spec : Spec) (args : List A) → Fits (map value args) (field_types spec) → length args ≡ argument_count spec
argument_count-args value spec args fits = omega (arith, Fits-length_of_args value args (field_types spec) fits, argument_count-types spec)

-- the argument at a place
pub argument_at-args : {A : Type 0} (value : A → Value) (args : List A) (n m : ℕ) (item : A) (is : Value) → item ≡ get_or args n item → is ≡ value item → n ≡ m → n < length args → is ≡ argument_at (map value args) m
argument_at-args value args n m item is item_is value_is same inside =
    value_is ∙ ap value item_is ∙ sym (get_or-map value args n item _ inside) ∙ ap (argument_at (map value args)) same

-- a field is its converted argument, padded
pub Field-appended : (spec : Spec) (values : List Value) (left zeros : Bool) (width : ℕ) (precision : Option ℕ) (argument : Value) (old new : List ℕ) → precision ≡ precision_of spec.precision (signed_of (argument_at values (stars spec.width))) → width ≡ width_of spec.width (signed_of (argument_at values 0)) → left ≡ (spec.minus || is_left_star spec.width (signed_of (argument_at values 0))) → zeros ≡ (spec.zero && is_integer spec.conversion && is_none precision) → argument ≡ argument_at values (stars spec.width + stars spec.precision) → new ≡ old ++ padded left zeros width (converted spec.conversion spec precision argument) → new ≡ old ++ Field spec values
unfolding Field
Field-appended spec values left zeros width precision argument old new precision_is width_is left_is zeros_is argument_is is =
    rw (zeros_is, left_is, width_is, argument_is, precision_is) at is

-- and without width and precision the converted argument alone
pub Field-not_padded : (spec : Spec) (values : List Value) (argument : Value) (old new : List ℕ) → spec.width ≡ Absent → spec.precision ≡ Absent → argument ≡ argument_at values 0 → new ≡ old ++ padded false false 0 (converted spec.conversion spec None argument) → new ≡ old ++ Field spec values
unfolding Field
Field-not_padded spec values argument old new no_width no_precision argument_is is =
    let first : ℤ = signed_of (argument_at values 0) in
    let second : ℤ = signed_of (argument_at values (stars spec.width)) in
    let left : Bool = spec.minus || is_left_star spec.width first in
    let zeros : Bool = spec.zero && is_integer spec.conversion && true in
    let text : Converted = converted spec.conversion spec None argument in
    let place : 0 ≡ stars spec.width + stars spec.precision = omega (arith, ap stars no_width, ap stars no_precision) in
    Field-appended spec values left zeros 0 None argument old new (sym (ap (λ (size : Size). precision_of size second) no_precision)) (sym (ap (λ (size : Size). width_of size first) no_width)) refl refl (argument_is ∙ ap (argument_at values) place)
    (is ∙ ap (λ (text : List ℕ). old ++ text) (padded-no_width false false text ∙ sym (padded-no_width left zeros text)))
