-- The arguments of a line that is right fit the types that they are read by.
use Rattle.std.proofs.Common.{◌≡◌, ℕ, ◌<◌, ◌^◌, Bool, true, false, cond, List, [], ◌∷◌, length, Option, Some, None, Result, Ok, Err, ℤ, pos, negsuc, FitsSigned, refl, sym, subst, arith, T}
use Rattle.std.specs.Prelude.{◌&&◌, nat_lt, int_le, ◌≤ℤ◌}
use Rattle.std.specs.Int.{w32, w64}
use Rattle.std.specs.Option.{ok_or}
use Rattle.std.specs.List.{AllByRecursion}
use Rattle.std.proofs.lemmas.Bool.{ltb-true, ltb-false, leb-true, eqb-false, and_parts, or_parts}
use Rattle.printf_grammar.specs.declared.arg_type.ArgType.{ArgType}
use Rattle.printf_grammar.specs.declared.arg_type.ArgType.TheVariants as types
use Rattle.printf_grammar.specs.declared.argument.Value.{Value}
use Rattle.printf_grammar.specs.declared.argument.Value.TheVariants as values
use Rattle.printf_grammar.specs.declared.limits.TheConstants.{MAX_TEXT}
use Rattle.log_dictionary.specs.Texts.{has_nul}
use Rattle.printf_grammar.specs.Types.{FitsType, Fits}
use Rattle.trace_text.specs.declared.cause.TraceCause.{TraceCause}
use Rattle.trace_text.specs.declared.cause.TraceCause.TheVariants.{ArgKind, ArgRange, NulInText, TooLong}
use Rattle.trace_text.specs.CallReading.{◌>>=◌, refused_if, Item, number, text, item_at, signed_within, unsigned_below, checked_text, argument_of, arguments_at}

pub bind-ok : {A B : Type 0} (x : Result A TraceCause) (next : A → Result B TraceCause) (y : B) → (x >>= next) ≡ Ok y → (a : A) × (x ≡ Ok a) × (next a ≡ Ok y)
bind-ok (Ok a) next y e = (a, refl, e)
bind-ok (Err cause) next y e = absurd cc

pub ok_or-ok : {A : Type 0} (o : Option A) (cause : TraceCause) (a : A) → ok_or o cause ≡ Ok a → o ≡ Some a
ok_or-ok None cause a e = absurd cc
ok_or-ok (Some b) cause a e = cc

pub refused_if-ok : (test : Bool) (cause : TraceCause) (u : Unit {0}) → refused_if test cause ≡ Ok u → test ≡ false
refused_if-ok true cause u e = absurd cc
refused_if-ok false cause u e = refl

-- what a test lets through
pub passes : {A : Type 0} (test : Bool) (a b : A) (cause : TraceCause) → cond test (Ok a) (Err cause) ≡ Ok b → (test ≡ true) × (a ≡ b)
passes true a b cause e = (refl, cc)
passes false a b cause e = absurd cc

-- what it holds back
pub holds_back : {A : Type 0} (test : Bool) (cause : TraceCause) (r : Result A TraceCause) (a : A) → cond test (Err cause) r ≡ Ok a → (test ≡ false) × (r ≡ Ok a)
holds_back true cause r a e = absurd cc
holds_back false cause r a e = (refl, e)

no_nul : (bytes : List ℕ) → has_nul bytes ≡ false → AllByRecursion (λ (byte : ℕ). byte ≡ 0 → ⊥) bytes
no_nul [] e = tt
no_nul (b ∷ bytes) e = let apart = or_parts _ _ e in (eqb-false _ _ apart.0, no_nul bytes apart.1)

-- ---- one argument

signed_fits : (type : ArgType) (least most z : ℤ) (value : Value) → (int_le least z ≡ true → int_le z most ≡ true → FitsType (values.Signed z) type) → signed_within least most z ≡ Ok value → FitsType value type
signed_fits type least most z value fits e =
    let passed = passes (int_le least z && int_le z most) (values.Signed z) value ArgRange e in
    let within = and_parts (int_le least z) (int_le z most) passed.0 in
    subst (λ (v : Value). FitsType v type) passed.1 (fits within.0 within.1)

unsigned_fits : (type : ArgType) (limit : ℕ) (z : ℤ) (value : Value) → ((n : ℕ) → n < limit → FitsType (values.Unsigned n) type) → unsigned_below limit z ≡ Ok value → FitsType value type
unsigned_fits type limit (pos n) value fits e =
    let passed = passes (nat_lt n limit) (values.Unsigned n) value ArgRange e in
    subst (λ (v : Value). FitsType v type) passed.1 (fits n (ltb-true _ _ passed.0))
unsigned_fits type limit (negsuc n) value fits e = absurd cc

int_fits : (z : ℤ) → int_le (negsuc 2147483647) z ≡ true → int_le z (pos 2147483647) ≡ true → FitsSigned w32 z
int_fits (pos n) least most = record { sfits = omega (arith, leb-true _ _ most) }
int_fits (negsuc n) least most = record { sfits = omega (arith, leb-true _ _ least) }

long_fits : (z : ℤ) → int_le (negsuc 9223372036854775807) z ≡ true → int_le z (pos 9223372036854775807) ≡ true → FitsSigned w64 z
long_fits (pos n) least most = record { sfits = omega (arith, leb-true _ _ most) }
long_fits (negsuc n) least most = record { sfits = omega (arith, leb-true _ _ least) }

precision_fits : (z : ℤ) → int_le (negsuc 2147483647) z ≡ true → int_le z (pos 4095) ≡ true → FitsSigned w32 z
precision_fits (pos n) least most = record { sfits = omega (arith, leb-true _ _ most) }
precision_fits (negsuc n) least most = record { sfits = omega (arith, leb-true _ _ least) }

at_most : (a b : ℤ) → int_le a b ≡ true → a ≤ℤ b
at_most a b e = record { le = subst T (sym e) tt }

text_fits : (bytes : List ℕ) (value : Value) → checked_text bytes ≡ Ok value → FitsType value types.Text
text_fits bytes value e =
    let whole = holds_back (has_nul bytes) NulInText (cond (nat_lt MAX_TEXT (length bytes)) (Err TooLong) (Ok (values.Text bytes))) value e in
    let short = holds_back (nat_lt MAX_TEXT (length bytes)) TooLong (Ok (values.Text bytes)) value whole.1 in
    let is : values.Text bytes ≡ value = cc in
    subst (λ (v : Value). FitsType v types.Text) is (record { short = ltb-false _ _ short.0; no_nul = no_nul bytes whole.0 })

argument_fits : (type : ArgType) (item : Item) (value : Value) → argument_of type item ≡ Ok value → FitsType value type
argument_fits types.Int (number z) value e = signed_fits types.Int (negsuc 2147483647) (pos 2147483647) z value (int_fits z) e
argument_fits types.UInt (number z) value e = unsigned_fits types.UInt (2 ^ 32) z value (λ n small. small) e
argument_fits types.Long (number z) value e = signed_fits types.Long (negsuc 9223372036854775807) (pos 9223372036854775807) z value (long_fits z) e
argument_fits types.ULong (number z) value e = unsigned_fits types.ULong (2 ^ 64) z value (λ n small. small) e
argument_fits types.Width (number z) value e = signed_fits types.Width (negsuc 4094) (pos 4095) z value (λ least most. (at_most _ _ least, at_most _ _ most)) e
argument_fits types.Precision (number z) value e = signed_fits types.Precision (negsuc 2147483647) (pos 4095) z value (λ least most. (precision_fits z least most, at_most _ _ most)) e
argument_fits types.Text (number z) value e = absurd cc
argument_fits types.Int (text bytes) value e = absurd cc
argument_fits types.UInt (text bytes) value e = absurd cc
argument_fits types.Long (text bytes) value e = absurd cc
argument_fits types.ULong (text bytes) value e = absurd cc
argument_fits types.Width (text bytes) value e = absurd cc
argument_fits types.Precision (text bytes) value e = absurd cc
argument_fits types.Text (text bytes) value e = text_fits bytes value e

-- ---- all arguments

abbrev pub with_value : List ArgType → List ℕ → Value → Result (List Value) TraceCause
with_value types bytes value = arguments_at types bytes >>= (λ values. Ok (value ∷ values))

abbrev pub with_item : ArgType → List ArgType → Item × List ℕ → Result (List Value) TraceCause
with_item type types item = argument_of type item.0 >>= with_value types item.1

pub arguments_fit : (types : List ArgType) (bytes : List ℕ) (args : List Value) → arguments_at types bytes ≡ Ok args → Fits args types
arguments_fit [] [] args e = let none : [] ≡ args = cc in subst (λ (list : List Value). Fits list []) none tt
arguments_fit [] (byte ∷ bytes) args e = absurd cc
arguments_fit (type ∷ types) [] args e = absurd cc
arguments_fit (type ∷ types) (space ∷ bytes) args e =
    let item = bind-ok (ok_or (item_at bytes) ArgKind) (with_item type types) args e in
    let value = bind-ok (argument_of type item.0.0) (with_value types item.0.1) args item.2 in
    let others = bind-ok (arguments_at types item.0.1) (λ list. Ok (value.0 ∷ list)) args value.2 in
    let whole : value.0 ∷ others.0 ≡ args = cc in
    subst (λ (list : List Value). Fits list (type ∷ types)) whole (argument_fits type item.0.0 value.0 value.1, arguments_fit types item.0.1 others.0 others.1)
