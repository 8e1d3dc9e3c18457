-- The arguments of a line of a call are spelled as they are read.
use Rattle.std.proofs.Common.{◌≡◌, ◌≢◌, ℕ, suc, ◌<◌, ◌≤◌, ◌^◌, Bool, true, false, cond, eqb, ltb, List, [], ◌∷◌, ◌++◌, length, Option, Some, None, Result, Ok, Err, ℤ, pos, negsuc, refl, sym, ap, ◌∙◌, subst, append_assoc, arith, T}
use Rattle.std.specs.Prelude.{◌&&◌, int_le, ◌≤ℤ◌, FitsSigned}
use Rattle.std.specs.Int.{w32, w64}
use Rattle.std.specs.Fmt.{signed_decimal}
use Rattle.std.specs.List.{AllByRecursion, list_any}
use Rattle.std.specs.Option.{option_map, ok_or}
use Rattle.std.proofs.lemmas.Bool.{eqb-true, eqb-false, ne_eqb, and_parts, leb-true, le-leb, ltb-true, lt-ltb, cond-true, le-ltb}
use Rattle.std.proofs.lemmas.Fmt.{decimal_nonempty}
use Rattle.std.proofs.lemmas.Option.{some_pair_parts}
use Rattle.printf_grammar.specs.declared.arg_type.ArgType.{ArgType}
use Rattle.printf_grammar.specs.declared.arg_type.ArgType.TheVariants as types
use Rattle.printf_grammar.specs.declared.argument.Value.{Value}
use Rattle.printf_grammar.specs.declared.argument.Value.TheVariants as values
use Rattle.printf_grammar.specs.declared.limits.TheConstants.{MAX_TEXT}
use Rattle.printf_grammar.specs.Types.{FitsType, Fits, IsText}
use Rattle.log_dictionary.specs.Texts.{SpellsText, text_at}
use Rattle.log_dictionary.specs.Numbers.{integer_of}
use Rattle.log_dictionary.specs.Fields.{first_field, put_front}
use Rattle.log_dictionary.proofs.lemmas.NumberLaws.{IsShort, integer_decimal, decimal_integer}
use Rattle.log_dictionary.proofs.lemmas.TextLaws.{opens_read, read_opens_text}
use Rattle.trace_text.specs.declared.cause.TraceCause.{TraceCause}
use Rattle.trace_text.specs.declared.cause.TraceCause.TheVariants.{ArgKind, ArgRange, NulInText, TooLong}
use Rattle.trace_text.specs.Lines.{SpellsArgument, SpellsArgumentFields}
use Rattle.trace_text.specs.CallReading.{◌>>=◌, Item, number, text, ends_field, number_item, item_behind, item_at, signed_within, unsigned_below, checked_text, argument_of, arguments_at}
use Rattle.trace_text.proofs.DecimalBytes.{decimal_all}
use Rattle.trace_text.proofs.Arguments.{with_value, with_item, bind-ok, ok_or-ok, passes, holds_back}

-- ---- fields

-- a field without a space ends before a space or the end
pub first_read : (field rest : List ℕ) → AllByRecursion (λ byte. byte ≢ 32) field → ends_field rest ≡ true → ◌≡◌ {A = List ℕ × List ℕ} (first_field (field ++ rest)) (field, rest)
first_read [] [] none ends = refl
first_read [] (byte ∷ rest) none ends = cond-true _ _ _ ends
first_read (byte ∷ field) rest none ends = rw (ne_eqb byte 32 none.0) (ap (put_front byte) (first_read field rest none.1 ends))

-- the first field and the rest are the bytes
pub record IsParted (bytes field rest : List ℕ) : Type 0 where
  pub joined : bytes ≡ field ++ rest
  pub none : AllByRecursion (λ byte. byte ≢ 32) field
  pub ends : ends_field rest ≡ true

pub first_taken : (bytes : List ℕ) → IsParted bytes (first_field bytes).0 (first_field bytes).1
first_taken [] = record { joined = refl; none = tt; ends = refl }
first_taken (byte ∷ bytes) = at_test (eqb byte 32) refl (first_taken bytes)
  where
    at_test : (b : Bool) → eqb byte 32 ≡ b → IsParted bytes (first_field bytes).0 (first_field bytes).1 → let parts : List ℕ × List ℕ = cond b ([], byte ∷ bytes) (put_front byte (first_field bytes)) in IsParted (byte ∷ bytes) parts.0 parts.1
    at_test true e others = record { joined = refl; none = tt; ends = e }
    at_test false e others = record { joined = ap (λ l. byte ∷ l) others.joined; none = (eqb-false byte 32 e, others.none); ends = others.ends }

-- ---- the bytes of numbers

no_space : (z : ℤ) → AllByRecursion (λ byte. byte ≢ 32) (signed_decimal z)
no_space (pos n) = decimal_all (λ byte. byte ≢ 32) (λ d small e. omega (arith, e)) n
no_space (negsuc n) = ((λ e. omega (arith, e)), decimal_all (λ byte. byte ≢ 32) (λ d small e. omega (arith, e)) (suc n))

no_mark : (z : ℤ) → AllByRecursion (λ byte. byte ≢ 34) (signed_decimal z)
no_mark (pos n) = decimal_all (λ byte. byte ≢ 34) (λ d small e. omega (arith, e)) n
no_mark (negsuc n) = ((λ e. omega (arith, e)), decimal_all (λ byte. byte ≢ 34) (λ d small e. omega (arith, e)) (suc n))

some_byte : (z : ℤ) → IsShort z → 0 < length (signed_decimal z)
some_byte (pos n) short = decimal_nonempty n short
some_byte (negsuc n) short = omega arith

-- ---- items

-- what an argument is, as an item
abbrev item_of : Value → Item
item_of (values.Signed z) = number z
item_of (values.Unsigned n) = number (pos n)
item_of (values.Text bytes) = text bytes

-- the field is the number, or the text in quotation marks
abbrev SpellsItem : List ℕ → Item → Type 0
SpellsItem field (number z) = integer_of field ≡ Some z
SpellsItem field (text bytes) = (spelled : List ℕ) × (field ≡ 34 ∷ spelled ++ 34 ∷ []) × SpellsText spelled bytes

no_text : (field others : List ℕ) → AllByRecursion (λ byte. byte ≢ 34) field → 0 < length field → text_at (field ++ others) ≡ None
no_text [] others none some = absurd (omega (arith, some))
no_text (byte ∷ field) others none some = rw (ne_eqb byte 34 none.0) refl

number_read : (field others : List ℕ) (z : ℤ) → IsShort z → field ≡ signed_decimal z → ends_field others ≡ true → item_at (field ++ others) ≡ Some (number z, others)
number_read field others z short is ends =
    let digits = signed_decimal z in
    let bytes = digits ++ others in
    let first = first_read digits others (no_space z) ends in
    let read : number_item bytes ≡ Some (number z, others) =
    ap (λ (parts : List ℕ × List ℕ). option_map {U = Item × List ℕ} (λ (n : ℤ). (number n, parts.1)) (integer_of parts.0)) first ∙ ap (option_map {U = Item × List ℕ} (λ (n : ℤ). (number n, others))) (decimal_integer digits z short refl) in
    ap (λ l. item_at (l ++ others)) is ∙ ap (item_behind bytes) (no_text digits others (no_mark z) (some_byte z short)) ∙ read

text_item_read : (field others bytes : List ℕ) → SpellsItem field (text bytes) → ends_field others ≡ true → item_at (field ++ others) ≡ Some (text bytes, others)
text_item_read field others bytes (spelled, is, spells) ends =
    let whole : field ++ others ≡ 34 ∷ spelled ++ 34 ∷ others = ap (λ (l : List ℕ). l ++ others) is ∙ append_assoc (34 ∷ spelled) (34 ∷ []) others in
    let opened = opens_read (field ++ others) bytes others (record { spelled = spelled; whole = whole; spells = spells }) in
    ap (item_behind (field ++ others)) opened ∙ cond-true _ _ _ ends

-- the item that the bytes begin with, and the field that spells it
record ItemTaken (bytes : List ℕ) (item : Item) (rest : List ℕ) : Type 0 where
  field : List ℕ
  joined : bytes ≡ field ++ rest
  ends : ends_field rest ≡ true
  spells : SpellsItem field item

item_taken : (bytes : List ℕ) (item : Item) (rest : List ℕ) → item_at bytes ≡ Some (item, rest) → ItemTaken bytes item rest
item_taken bytes item rest e = by_text (text_at bytes) refl e
  where
    by_number : (i : Option ℤ) → integer_of (first_field bytes).0 ≡ i → option_map {U = Item × List ℕ} (λ z. (number z, (first_field bytes).1)) i ≡ Some (item, rest) → ItemTaken bytes item rest
    by_number None is e = absurd cc
    by_number (Some z) is e =
        let same = some_pair_parts (number z) item (first_field bytes).1 rest e in
        let parted = first_taken bytes in
        record {
          field = (first_field bytes).0;
          joined = parted.joined ∙ ap (λ l. (first_field bytes).0 ++ l) same.1;
          ends = ap ends_field (sym same.1) ∙ parted.ends;
          spells = subst (SpellsItem (first_field bytes).0) same.0 is;
        }

    by_end : (b : Bool) (value after : List ℕ) → ends_field after ≡ b → text_at bytes ≡ Some (value, after) → ◌≡◌ {A = Option (Item × List ℕ)} (cond b (Some (text value, after)) None) (Some (item, rest)) → ItemTaken bytes item rest
    by_end false value after ends is e = absurd cc
    by_end true value after ends is e =
        let same = some_pair_parts (text value) item after rest e in
        let opens = read_opens_text bytes value after is in
        record {
          field = 34 ∷ opens.spelled ++ 34 ∷ [];
          joined = opens.whole ∙ sym (append_assoc (34 ∷ opens.spelled) (34 ∷ []) after) ∙ ap (λ l. (34 ∷ opens.spelled ++ 34 ∷ []) ++ l) same.1;
          ends = ap ends_field (sym same.1) ∙ ends;
          spells = subst (SpellsItem (34 ∷ opens.spelled ++ 34 ∷ [])) same.0 (opens.spelled, refl, opens.spells);
        }

    by_text : (o : Option (List ℕ × List ℕ)) → text_at bytes ≡ o → item_behind bytes o ≡ Some (item, rest) → ItemTaken bytes item rest
    by_text None is e = by_number (integer_of (first_field bytes).0) refl e
    by_text (Some (value, after)) is e = by_end (ends_field after) value after refl is e

-- ---- values

signed_read : (least most z : ℤ) → int_le least z ≡ true → int_le z most ≡ true → signed_within least most z ≡ Ok (values.Signed z)
signed_read least most z above below = rw (above, below) refl

unsigned_read : (limit n : ℕ) → n < limit → unsigned_below limit (pos n) ≡ Ok (values.Unsigned n)
unsigned_read limit n small = rw (lt-ltb n limit small) refl

no_zero : (bytes : List ℕ) → AllByRecursion (λ byte. byte ≢ 0) bytes → list_any (λ byte. eqb byte 0) bytes ≡ false
no_zero [] all = refl
no_zero (byte ∷ bytes) all = rw (ne_eqb byte 0 all.0) (no_zero bytes all.1)

text_value_read : (bytes : List ℕ) → IsText bytes → checked_text bytes ≡ Ok (values.Text bytes)
text_value_read bytes is = rw (no_zero bytes is.no_nul, le-ltb MAX_TEXT (length bytes) is.short) refl

least_int : (z : ℤ) → FitsSigned w32 z → int_le (negsuc 2147483647) z ≡ true
least_int (pos n) fits = refl
least_int (negsuc n) fits = le-leb _ _ (omega (arith, fits.sfits))

most_int : (z : ℤ) → FitsSigned w32 z → int_le z (pos 2147483647) ≡ true
most_int (pos n) fits = le-leb _ _ (omega (arith, fits.sfits))
most_int (negsuc n) fits = refl

least_long : (z : ℤ) → FitsSigned w64 z → int_le (negsuc 9223372036854775807) z ≡ true
least_long (pos n) fits = refl
least_long (negsuc n) fits = le-leb _ _ (omega (arith, fits.sfits))

most_long : (z : ℤ) → FitsSigned w64 z → int_le z (pos 9223372036854775807) ≡ true
most_long (pos n) fits = le-leb _ _ (omega (arith, fits.sfits))
most_long (negsuc n) fits = refl

by_test : (b : Bool) → T b → b ≡ true
by_test true h = refl
by_test false h = absurd h

at_most : (a b : ℤ) → a ≤ℤ b → int_le a b ≡ true
at_most a b h = by_test (int_le a b) h.le

argument_read : (type : ArgType) (value : Value) → FitsType value type → argument_of type (item_of value) ≡ Ok value
argument_read types.Int (values.Signed z) fits = signed_read (negsuc 2147483647) (pos 2147483647) z (least_int z fits) (most_int z fits)
argument_read types.Long (values.Signed z) fits = signed_read (negsuc 9223372036854775807) (pos 9223372036854775807) z (least_long z fits) (most_long z fits)
argument_read types.Width (values.Signed z) fits = signed_read (negsuc 4094) (pos 4095) z (at_most _ _ fits.0) (at_most _ _ fits.1)
argument_read types.Precision (values.Signed z) fits = signed_read (negsuc 2147483647) (pos 4095) z (least_int z fits.0) (at_most _ _ fits.1)
argument_read types.UInt (values.Unsigned n) fits = unsigned_read (2 ^ 32) n fits
argument_read types.ULong (values.Unsigned n) fits = unsigned_read (2 ^ 64) n fits
argument_read types.Text (values.Text bytes) fits = text_value_read bytes fits
argument_read types.UInt (values.Signed z) fits = absurd fits
argument_read types.ULong (values.Signed z) fits = absurd fits
argument_read types.Text (values.Signed z) fits = absurd fits
argument_read types.Int (values.Unsigned n) fits = absurd fits
argument_read types.Long (values.Unsigned n) fits = absurd fits
argument_read types.Width (values.Unsigned n) fits = absurd fits
argument_read types.Precision (values.Unsigned n) fits = absurd fits
argument_read types.Text (values.Unsigned n) fits = absurd fits
argument_read types.Int (values.Text bytes) fits = absurd fits
argument_read types.UInt (values.Text bytes) fits = absurd fits
argument_read types.Long (values.Text bytes) fits = absurd fits
argument_read types.ULong (values.Text bytes) fits = absurd fits
argument_read types.Width (values.Text bytes) fits = absurd fits
argument_read types.Precision (values.Text bytes) fits = absurd fits

-- numbers of these types are short
signed_short : (type : ArgType) (z : ℤ) → FitsType (values.Signed z) type → IsShort z
signed_short types.Int (pos n) fits = omega (arith, fits.sfits)
signed_short types.Int (negsuc n) fits = omega (arith, fits.sfits)
signed_short types.Long (pos n) fits = omega (arith, fits.sfits)
signed_short types.Long (negsuc n) fits = omega (arith, fits.sfits)
signed_short types.Width (pos n) fits = let small : n ≤ 4095 = leb-true n 4095 (at_most _ _ fits.1) in omega (arith, small)
signed_short types.Width (negsuc n) fits = let small : n ≤ 4094 = leb-true n 4094 (at_most _ _ fits.0) in omega (arith, small)
signed_short types.Precision (pos n) fits = omega (arith, fits.0.sfits)
signed_short types.Precision (negsuc n) fits = omega (arith, fits.0.sfits)
signed_short types.UInt z fits = absurd fits
signed_short types.ULong z fits = absurd fits
signed_short types.Text z fits = absurd fits

unsigned_short : (type : ArgType) (n : ℕ) → FitsType (values.Unsigned n) type → n < 2 ^ 64
unsigned_short types.UInt n fits = omega (arith, fits)
unsigned_short types.ULong n fits = fits
unsigned_short types.Int n fits = absurd fits
unsigned_short types.Long n fits = absurd fits
unsigned_short types.Width n fits = absurd fits
unsigned_short types.Precision n fits = absurd fits
unsigned_short types.Text n fits = absurd fits

-- an argument is read as the item that it is
item_read : (type : ArgType) (value : Value) (field others : List ℕ) → SpellsArgument field value → FitsType value type → ends_field others ≡ true → item_at (field ++ others) ≡ Some (item_of value, others)
item_read type (values.Signed z) field others spells fits ends = number_read field others z (signed_short type z fits) spells ends
item_read type (values.Unsigned n) field others spells fits ends = number_read field others (pos n) (unsigned_short type n fits) spells ends
item_read type (values.Text bytes) field others spells fits ends = text_item_read field others bytes spells ends

-- numbers within these bounds are short
within_short : (least most : ℕ) (z : ℤ) → least < 2 ^ 63 → most < 2 ^ 63 → int_le (negsuc least) z ≡ true → int_le z (pos most) ≡ true → IsShort z
within_short least most (pos n) small large above below = let h = leb-true n most below in omega (arith, h, large)
within_short least most (negsuc n) small large above below = let h = leb-true n least above in omega (arith, h, small)

signed_taken : (least most : ℕ) (z : ℤ) (value : Value) (field : List ℕ) → least < 2 ^ 63 → most < 2 ^ 63 → integer_of field ≡ Some z → signed_within (negsuc least) (pos most) z ≡ Ok value → SpellsArgument field value
signed_taken least most z value field small large spells e =
    let passed = passes (int_le (negsuc least) z && int_le z (pos most)) (values.Signed z) value ArgRange e in
    let both = and_parts (int_le (negsuc least) z) (int_le z (pos most)) passed.0 in
    subst (SpellsArgument field) passed.1 (integer_decimal field z (within_short least most z small large both.0 both.1) spells)

unsigned_taken : (limit : ℕ) (z : ℤ) (value : Value) (field : List ℕ) → limit ≤ 2 ^ 64 → integer_of field ≡ Some z → unsigned_below limit z ≡ Ok value → SpellsArgument field value
unsigned_taken limit (pos n) value field large spells e =
    let passed = passes (ltb n limit) (values.Unsigned n) value ArgRange e in
    let small = ltb-true n limit passed.0 in
    subst (SpellsArgument field) passed.1 (integer_decimal field (pos n) (omega (arith, small, large)) spells)
unsigned_taken limit (negsuc n) value field large spells e = absurd cc

text_value_taken : (bytes : List ℕ) (value : Value) (field : List ℕ) → SpellsItem field (text bytes) → checked_text bytes ≡ Ok value → SpellsArgument field value
text_value_taken bytes value field spells e =
    let short = holds_back (list_any (λ byte. eqb byte 0) bytes) NulInText (cond (ltb MAX_TEXT (length bytes)) (Err TooLong) (Ok (values.Text bytes))) value e in
    let last = holds_back (ltb MAX_TEXT (length bytes)) TooLong (Ok (values.Text bytes)) value short.1 in
    let is : values.Text bytes ≡ value = cc in
    subst (SpellsArgument field) is spells

argument_taken : (type : ArgType) (item : Item) (value : Value) (field : List ℕ) → SpellsItem field item → argument_of type item ≡ Ok value → SpellsArgument field value
argument_taken types.Int (number z) value field spells e = signed_taken 2147483647 2147483647 z value field (omega arith) (omega arith) spells e
argument_taken types.Long (number z) value field spells e = signed_taken 9223372036854775807 9223372036854775807 z value field (omega arith) (omega arith) spells e
argument_taken types.Width (number z) value field spells e = signed_taken 4094 4095 z value field (omega arith) (omega arith) spells e
argument_taken types.Precision (number z) value field spells e = signed_taken 2147483647 4095 z value field (omega arith) (omega arith) spells e
argument_taken types.UInt (number z) value field spells e = unsigned_taken (2 ^ 32) z value field (omega arith) spells e
argument_taken types.ULong (number z) value field spells e = unsigned_taken (2 ^ 64) z value field (omega arith) spells e
argument_taken types.Text (text bytes) value field spells e = text_value_taken bytes value field spells e
argument_taken types.Text (number z) value field spells e = absurd cc
argument_taken types.Int (text bytes) value field spells e = absurd cc
argument_taken types.UInt (text bytes) value field spells e = absurd cc
argument_taken types.Long (text bytes) value field spells e = absurd cc
argument_taken types.ULong (text bytes) value field spells e = absurd cc
argument_taken types.Width (text bytes) value field spells e = absurd cc
argument_taken types.Precision (text bytes) value field spells e = absurd cc

-- ---- all arguments

pub arguments_end : (fields : List ℕ) (args : List Value) → SpellsArgumentFields fields args → ends_field fields ≡ true
arguments_end fields [] is = subst (λ l. ends_field l ≡ true) (sym is) refl
arguments_end fields (value ∷ args) (field, others, is, argument, rest) = subst (λ l. ends_field l ≡ true) (sym is) refl

-- what follows, where the first result is known
pub bind-Ok : {A B : Type 0} (r : Result A TraceCause) (a : A) (next : A → Result B TraceCause) → r ≡ Ok a → (r >>= next) ≡ next a
bind-Ok r a next e = ap (λ r. r >>= next) e

-- arguments that fit their types are read as these arguments
pub arguments_read : (types : List ArgType) (fields : List ℕ) (args : List Value) → SpellsArgumentFields fields args → Fits args types → arguments_at types fields ≡ Ok args
arguments_read [] fields [] spells fits = ap (arguments_at []) spells
arguments_read (type ∷ types) fields (value ∷ args) (field, others, is, argument, rest) fits =
    ap (arguments_at (type ∷ types)) is
    ∙ bind-Ok (ok_or (item_at (field ++ others)) ArgKind) (item_of value, others) (with_item type types) (ap (λ o. ok_or o ArgKind) (item_read type value field others argument fits.0 (arguments_end others args rest)))
    ∙ bind-Ok (argument_of type (item_of value)) value (with_value types others) (argument_read type value fits.0)
    ∙ bind-Ok (arguments_at types others) args (λ values. Ok (value ∷ values)) (arguments_read types others args rest fits.1)
arguments_read [] fields (value ∷ args) spells fits = absurd fits
arguments_read (type ∷ types) fields [] spells fits = absurd fits

-- what arguments are read of spells them
pub arguments_taken : (types : List ArgType) (fields : List ℕ) (args : List Value) → ends_field fields ≡ true → arguments_at types fields ≡ Ok args → SpellsArgumentFields fields args
arguments_taken [] [] args ends e = let none : [] ≡ args = cc in subst (SpellsArgumentFields []) none refl
arguments_taken [] (byte ∷ bytes) args ends e = absurd cc
arguments_taken (type ∷ types) [] args ends e = absurd cc
arguments_taken (type ∷ types) (space ∷ bytes) args ends e =
    let item = bind-ok (ok_or (item_at bytes) ArgKind) (with_item type types) args e in
    let value = bind-ok (argument_of type item.0.0) (with_value types item.0.1) args item.2 in
    let rest = bind-ok (arguments_at types item.0.1) (λ values. Ok (value.0 ∷ values)) args value.2 in
    let taken = item_taken bytes item.0.0 item.0.1 (ok_or-ok (item_at bytes) ArgKind item.0 item.1) in
    let argument = argument_taken type item.0.0 value.0 taken.field taken.spells value.1 in
    let others = arguments_taken types item.0.1 rest.0 taken.ends rest.1 in
    let whole : space ∷ bytes ≡ 32 ∷ taken.field ++ item.0.1 = ap (λ byte. byte ∷ bytes) (eqb-true space 32 ends) ∙ ap (λ l. 32 ∷ l) taken.joined in
    let all : value.0 ∷ rest.0 ≡ args = cc in
    subst (SpellsArgumentFields (space ∷ bytes)) all (taken.field, item.0.1, whole, argument, others)
