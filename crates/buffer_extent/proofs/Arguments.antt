-- The arguments of a record that are read: their codes, their numbers and their texts.
use Rattle.std.proofs.Common.{◌≡◌, ℕ, zero, suc, ◌+◌, ◌/◌, ◌^◌, ◌-◌, ◌<◌, ◌≤◌, true, false, List, [], ◌∷◌, ◌++◌, length, get_or, take, drop, map, Result, Ok, Err, is_ok, refl, sym, ap, subst, ◌∙◌, arith}
use Rattle.std.specs.Prelude.{ℤ, pos, negsuc, ◌≢◌, ◌&&◌, not, nat_eq, MatchResult, ⊤, sum_by}
use Rattle.std.specs.List.{flat_map, list_all, AllByRecursion}
use Rattle.std.proofs.lemmas.Int.{ints}
use Rattle.std.proofs.lemmas.List.Sums.{sum_by-cons}
use Rattle.std.proofs.lemmas.Bool.{le-leb, leb-true, lt-ltb, ltb-true, and_parts, and_from, eqb-true, false_from_ne_true, eq-eqb, not-true, not_from_false}
use Rattle.std.proofs.lemmas.List.{length-take-le, take-append-drop, drop_more, drop_all}
use Rattle.std.proofs.Math.Bool.{and-true}
use Rattle.printf_grammar.specs.declared.arg_type.ArgType.{ArgType}
use Rattle.printf_grammar.specs.declared.arg_type.ArgType.TheVariants as types
use Rattle.printf_grammar.specs.declared.argument.Value.{Value}
use Rattle.printf_grammar.specs.declared.argument.Value.TheVariants as values
use Rattle.printf_grammar.specs.Types.{IsText, FitsType, Fits, text_of}
use Rattle.nibble_pack.specs.Bytes.{AreBytes, back_bytes}
use Rattle.nibble_pack.specs.Packing.{Kind, unsigned, signed, IsCode, Packed}
use Rattle.nibble_pack.proofs.lemmas.PackingLaws.{Packed-code, IsCode-lt}
use Rattle.arg_records.specs.Frames.{argument_words}
use Rattle.buffer_extent.specs.declared.fault.BodyCause.{BodyCause}
use Rattle.buffer_extent.specs.declared.fault.BodyCause.TheVariants as causes
use Rattle.buffer_extent.specs.declared.numbers.Number.{Number}
use Rattle.buffer_extent.specs.declared.numbers.Number.TheVariants as numbers
use Rattle.nibble_pack.specs.Parsing.{so_many}
use Rattle.buffer_extent.specs.Records.{PackedNumber, kind_of, packed_value, PacksArguments, codes_of, packed_bytes, code_bytes}
use Rattle.buffer_extent.specs.Reading.{is_between, MayStand, number_at, may_stand, argument_at, numbers_at, codes_in, is_code, are_codes, coded_numbers_at, text_at, value_at, values_at, words_taken, number_words}
use Rattle.nibble_pack.proofs.lemmas.Parsing.{so_many_taken}
use Rattle.nibble_pack.proofs.lemmas.Formats.{IsFormat, front_bytes, respelled, done_format, made_format, checked_format, tested_format, then_format, many_format, SpellEach, each_format}
use Rattle.buffer_extent.proofs.PackedNumbers.{unsigned_format, signed_format}
use Rattle.buffer_extent.proofs.lemmas.Codes.{AreCodes, padding, codes_again, bytes_again, length-code_bytes}

-- the number that stands for an argument
abbrev pub number_for : Value → Number
number_for (values.Signed z) = numbers.Signed z
number_for (values.Unsigned n) = numbers.Unsigned n
number_for (values.Text bytes) = numbers.Unsigned (length bytes)

-- ---- ranges

between : (below above : ℕ) (z : ℤ) → ((n : ℕ) → z ≡ pos n → n ≤ above) → ((n : ℕ) → z ≡ negsuc n → n < below) → is_between below above z ≡ true
between below above (pos n) up down = le-leb n above (up n refl)
between below above (negsuc n) up down = lt-ltb n below (down n refl)

pub stands : (type : ArgType) (value : Value) → FitsType value type → may_stand type (number_for value) ≡ true
stands types.Int (values.Signed z) fits = between (2 ^ 31) (2 ^ 31 - 1) z (λ n is. omega (arith, ints, is, fits)) (λ n is. omega (arith, ints, is, fits))
stands types.Long (values.Signed z) fits = between (2 ^ 63) (2 ^ 63 - 1) z (λ n is. omega (arith, ints, is, fits)) (λ n is. omega (arith, ints, is, fits))
stands types.Width (values.Signed z) fits = between 4095 4095 z (λ n is. omega (arith, ints, is, fits)) (λ n is. omega (arith, ints, is, fits))
stands types.Precision (values.Signed z) fits = between (2 ^ 31) 4095 z (λ n is. omega (arith, ints, is, fits)) (λ n is. omega (arith, ints, is, fits))
stands types.UInt (values.Unsigned n) fits = lt-ltb n (2 ^ 32) fits
stands types.ULong (values.Unsigned n) fits = lt-ltb n (2 ^ 64) fits
stands types.Text (values.Text bytes) fits = le-leb (length bytes) 4000 fits.short
stands _ _ fits = absurd fits

int_fits : (z : ℤ) → is_between (2 ^ 31) (2 ^ 31 - 1) z ≡ true → FitsType (values.Signed z) types.Int
int_fits (pos n) test = record { sfits = omega (arith, ints, leb-true n (2 ^ 31 - 1) test) }
int_fits (negsuc n) test = record { sfits = omega (arith, ints, ltb-true n (2 ^ 31) test) }

long_fits : (z : ℤ) → is_between (2 ^ 63) (2 ^ 63 - 1) z ≡ true → FitsType (values.Signed z) types.Long
long_fits (pos n) test = record { sfits = omega (arith, ints, leb-true n (2 ^ 63 - 1) test) }
long_fits (negsuc n) test = record { sfits = omega (arith, ints, ltb-true n (2 ^ 63) test) }

width_fits : (z : ℤ) → is_between 4095 4095 z ≡ true → FitsType (values.Signed z) types.Width
width_fits (pos n) test = (omega (arith, ints, leb-true n 4095 test), omega (arith, ints, leb-true n 4095 test))
width_fits (negsuc n) test = (omega (arith, ints, ltb-true n 4095 test), omega (arith, ints, ltb-true n 4095 test))

precision_fits : (z : ℤ) → is_between (2 ^ 31) 4095 z ≡ true → FitsType (values.Signed z) types.Precision
precision_fits (pos n) test = (record { sfits = omega (arith, ints, leb-true n 4095 test) }, omega (arith, ints, leb-true n 4095 test))
precision_fits (negsuc n) test = (record { sfits = omega (arith, ints, ltb-true n (2 ^ 31) test) }, omega (arith, ints, ltb-true n (2 ^ 31) test))

-- ---- the texts of arguments

no_nul : (bytes : List ℕ) → AllByRecursion (λ byte. byte ≢ 0) bytes → list_all (λ byte. not (nat_eq byte 0)) bytes ≡ true
no_nul [] none = refl
no_nul (byte ∷ bytes) none = and_from _ _ (not_from_false (nat_eq byte 0) (false_from_ne_true (nat_eq byte 0) (λ t. none.0 (eqb-true byte 0 t)))) (no_nul bytes none.1)

no_nul_found : (bytes : List ℕ) → list_all (λ byte. not (nat_eq byte 0)) bytes ≡ true → AllByRecursion (λ byte. byte ≢ 0) bytes
no_nul_found [] test = tt
no_nul_found (byte ∷ bytes) test =
    let both = and_parts (not (nat_eq byte 0)) (list_all (λ byte. not (nat_eq byte 0)) bytes) test in
    ((λ is. let zero : nat_eq byte 0 ≡ true = eq-eqb byte 0 is in let other = not-true (nat_eq byte 0) both.0 in cc), no_nul_found bytes both.1)

-- how an argument of the type stands there whose number this is
abbrev pub SpellValue : ArgType → Number → Value → List ℕ → Type 0
SpellValue types.Text (numbers.Unsigned n) value front =
    (text : List ℕ) × (((length text ≡ n) × (front ≡ text)) × (list_all (λ byte. not (nat_eq byte 0)) text ≡ true)) × (values.Text text ≡ value)
SpellValue type (numbers.Unsigned n) value front = (values.Unsigned n ≡ value) × (front ≡ [])
SpellValue type (numbers.Signed z) value front = (values.Signed z ≡ value) × (front ≡ [])

value_format : (type : ArgType) (number : Number) → IsFormat causes.RecordCut (SpellValue type number) (value_at type number)
value_format types.Text (numbers.Unsigned n) = made_format values.Text (checked_format (list_all (λ byte. not (nat_eq byte 0))) causes.NulInText (many_format n causes.RecordCut))
value_format type (numbers.Unsigned n) = done_format (values.Unsigned n)
value_format type (numbers.Signed z) = done_format (values.Signed z)

value_spelled : (type : ArgType) (value : Value) → FitsType value type → SpellValue type (number_for value) value (text_of value)
value_spelled types.Text (values.Text bytes) fits = (bytes, ((refl, refl), no_nul bytes fits.no_nul), refl)
value_spelled types.Int (values.Signed z) fits = (refl, refl)
value_spelled types.Long (values.Signed z) fits = (refl, refl)
value_spelled types.Width (values.Signed z) fits = (refl, refl)
value_spelled types.Precision (values.Signed z) fits = (refl, refl)
value_spelled types.UInt (values.Unsigned n) fits = (refl, refl)
value_spelled types.ULong (values.Unsigned n) fits = (refl, refl)
value_spelled _ _ fits = absurd fits

-- the argument fits its type, and has this text and this number
abbrev IsOf : ArgType → Number → List ℕ → Value → Type 0
IsOf type number front value = (front ≡ text_of value) × FitsType value type × (number_for value ≡ number)

value_fits : (type : ArgType) (number : Number) (value : Value) (front : List ℕ) → may_stand type number ≡ true → SpellValue type number value front → IsOf type number front value
value_fits types.Text (numbers.Unsigned n) value front test (text, ((len, same), none), is) =
    subst (IsOf types.Text (numbers.Unsigned n) front) is (same, record { short = omega (arith, len, leb-true n 4000 test); no_nul = no_nul_found text none }, ap numbers.Unsigned len)
value_fits types.Int (numbers.Signed z) value front test (is, none) = subst (IsOf types.Int (numbers.Signed z) front) is (none, int_fits z test, refl)
value_fits types.Long (numbers.Signed z) value front test (is, none) = subst (IsOf types.Long (numbers.Signed z) front) is (none, long_fits z test, refl)
value_fits types.Width (numbers.Signed z) value front test (is, none) = subst (IsOf types.Width (numbers.Signed z) front) is (none, width_fits z test, refl)
value_fits types.Precision (numbers.Signed z) value front test (is, none) = subst (IsOf types.Precision (numbers.Signed z) front) is (none, precision_fits z test, refl)
value_fits types.UInt (numbers.Unsigned n) value front test (is, none) = subst (IsOf types.UInt (numbers.Unsigned n) front) is (none, ltb-true n (2 ^ 32) test, refl)
value_fits types.ULong (numbers.Unsigned n) value front test (is, none) = subst (IsOf types.ULong (numbers.Unsigned n) front) is (none, ltb-true n (2 ^ 64) test, refl)
value_fits _ _ value front test spelled = absurd cc

-- ---- as it is told of a text that was cut off

pub text_broken : (len : ℕ) (bytes text : List ℕ) → len ≤ 4000 → len ≤ length bytes → text ≡ take len bytes → (IsText text → ⊥) → text_at len bytes ≡ Err causes.NulInText
text_broken len bytes text short enough is none =
    let long : length (take len bytes) ≡ len = length-take-le len bytes enough in
    let test : list_all (λ byte. not (nat_eq byte 0)) (take len bytes) ≡ false =
    false_from_ne_true _ (λ t. none (subst IsText (sym is) (record { short = omega (arith, long); no_nul = no_nul_found (take len bytes) t }))) in
    rw (le-leb len (length bytes) enough, test) refl

pub text_found : (len : ℕ) (bytes text rest : List ℕ) → len ≤ length bytes → text ≡ take len bytes → rest ≡ drop len bytes → IsText text → text_at len bytes ≡ Ok (text, rest)
text_found len bytes text rest enough is back good =
    let test : list_all (λ byte. not (nat_eq byte 0)) (take len bytes) ≡ true = ap (list_all (λ byte. not (nat_eq byte 0))) (sym is) ∙ no_nul text good.no_nul in
    rw (le-leb len (length bytes) enough, test, is, back) refl

-- ---- numbers

-- the number of a code and a kind has these bytes
abbrev pub PacksNumber : Kind → ℕ → Number → List ℕ → Type 0
PacksNumber unsigned code (numbers.Unsigned n) front = Packed unsigned (pos n) code front
PacksNumber signed code (numbers.Signed z) front = Packed signed z code front
PacksNumber _ code _ front = ⊥

packed_format : (kind : Kind) (code : ℕ) → IsFormat causes.RecordCut (PacksNumber kind code) (number_at kind code)
packed_format unsigned code =
    respelled (made_format numbers.Unsigned (unsigned_format code))
    (λ number front are (n, packed, is). subst (λ (m : Number). PacksNumber unsigned code m front) is packed)
    (elim [ numbers.Unsigned n ↦ λ front packed. (n, packed, refl) | numbers.Signed z ↦ λ front none. absurd none ])
packed_format signed code =
    respelled (made_format numbers.Signed (signed_format code))
    (λ number front are (z, packed, is). subst (λ (m : Number). PacksNumber signed code m front) is packed)
    (elim [ numbers.Signed z ↦ λ front packed. (z, packed, refl) | numbers.Unsigned n ↦ λ front none. absurd none ])

-- the number of an argument of the type
abbrev SpellNumber : ArgType → ℕ → Number → List ℕ → Type 0
SpellNumber type code number front = PacksNumber (kind_of type) code number front × (may_stand type number ≡ true)

argument_format : (type : ArgType) (code : ℕ) → IsFormat causes.RecordCut (SpellNumber type code) (argument_at type code)
argument_format type code = checked_format (may_stand type) causes.ArgRange (packed_format (kind_of type) code)

-- the packed numbers are these, each packed as its type's kind
abbrev pub PacksNumbers : List ArgType → List Number → List PackedNumber → Type 0
PacksNumbers [] [] [] = ⊤
PacksNumbers (type ∷ types) (number ∷ numbers) (packed ∷ others) = PacksNumber (kind_of type) packed.code number packed.bytes × PacksNumbers types numbers others
PacksNumbers _ _ _ = ⊥

-- numbers that may stand for arguments, with their packed forms
record ArePacked (types : List ArgType) (codes : List ℕ) (numbers : List Number) (front : List ℕ) : Type 0 where
  packed : List PackedNumber
  packs : PacksNumbers types numbers packed
  stand : MayStand types numbers
  codes_are : codes_of packed ≡ take (length types) codes
  spelled : front ≡ packed_bytes packed

are_packed : (types : List ArgType) (codes : List ℕ) (numbers : List Number) (front : List ℕ) → SpellEach SpellNumber types codes numbers front → ArePacked types codes numbers front
are_packed [] codes [] front none = record { packed = []; packs = tt; stand = tt; codes_are = refl; spelled = none }
are_packed (type ∷ types) (code ∷ codes) (number ∷ numbers) front (first, back, joined, (here, stands), behind) =
    let others = are_packed types codes numbers back behind in
    record {
      packed = record { code = code; bytes = first } ∷ others.packed;
      packs = (here, others.packs);
      stand = (stands, others.stand);
      codes_are = λ t. code ∷ others.codes_are t;
      spelled = joined ∙ ap (λ (r : List ℕ). first ++ r) others.spelled;
    }
are_packed _ _ _ front none = absurd none

packed_spelled : (types : List ArgType) (numbers : List Number) (packed : List PackedNumber) (extra : List ℕ) → PacksNumbers types numbers packed → MayStand types numbers
    → SpellEach SpellNumber types (codes_of packed ++ extra) numbers (packed_bytes packed)
packed_spelled [] [] [] extra packs stand = refl
packed_spelled (type ∷ types) (number ∷ numbers) (one ∷ packed) extra packs stand = (one.bytes, packed_bytes packed, refl, (packs.0, stand.0), packed_spelled types numbers packed extra packs.1 stand.1)
packed_spelled _ _ _ extra packs stand = absurd packs

packed_as_many : (types : List ArgType) (numbers : List Number) (packed : List PackedNumber) → PacksNumbers types numbers packed → length (codes_of packed) ≡ length types
packed_as_many [] [] [] packs = refl
packed_as_many (type ∷ types) (number ∷ numbers) (one ∷ packed) packs = ap suc (packed_as_many types numbers packed packs.1)
packed_as_many _ _ _ packs = absurd packs

-- ---- codes

is_code_of : (kind : Kind) (code : ℕ) → IsCode kind code → is_code kind code ≡ true
is_code_of unsigned code known = le-leb code 8 known
is_code_of signed code known = le-leb code 15 known

PacksNumber-code : (kind : Kind) (code : ℕ) (number : Number) (front : List ℕ) → PacksNumber kind code number front → IsCode kind code
PacksNumber-code unsigned code (numbers.Unsigned n) front packed = Packed-code unsigned (pos n) code front packed
PacksNumber-code signed code (numbers.Signed z) front packed = Packed-code signed z code front packed
PacksNumber-code _ code _ front none = absurd none

are_codes_of : (types : List ArgType) (numbers : List Number) (packed : List PackedNumber) (extra : List ℕ) → PacksNumbers types numbers packed → list_all (λ code. nat_eq code 0) extra ≡ true → are_codes types (codes_of packed ++ extra) ≡ true
are_codes_of [] [] [] extra packs none = none
are_codes_of (type ∷ types) (number ∷ numbers) (one ∷ packed) extra packs none =
    and_from _ _ (is_code_of (kind_of type) one.code (PacksNumber-code (kind_of type) one.code number one.bytes packs.0)) (are_codes_of types numbers packed extra packs.1 none)
are_codes_of _ _ _ extra packs none = absurd packs

-- the codes of numbers that were read, where no other code stands behind them
codes_read : (types : List ArgType) (codes bytes rest : List ℕ) (numbers : List Number) → AreBytes bytes → numbers_at types codes bytes ≡ Ok (numbers, rest) → are_codes [] (drop (length types) codes) ≡ true → are_codes types codes ≡ true
codes_read types codes bytes rest numbers are_bytes e none =
    let (front, parts, each) = (each_format causes.RecordCut argument_format types codes).taken bytes numbers rest are_bytes e in
    let taken = are_packed types codes numbers front each in
    ap (are_codes types) (sym (take-append-drop (length types) codes) ∙ ap (λ (front : List ℕ). front ++ drop (length types) codes) (sym taken.codes_are))
    ∙ are_codes_of types numbers taken.packed (drop (length types) codes) taken.packs none

padding_zero : (codes : List ℕ) → list_all (λ code. nat_eq code 0) (padding codes) ≡ true
padding_zero [] = refl
padding_zero (code ∷ []) = refl
padding_zero (low ∷ high ∷ codes) = padding_zero codes

small_codes : (types : List ArgType) (numbers : List Number) (packed : List PackedNumber) → PacksNumbers types numbers packed → AreCodes (codes_of packed)
small_codes [] [] [] packs = tt
small_codes (type ∷ types) (number ∷ numbers) (one ∷ packed) packs =
    (IsCode-lt (kind_of type) one.code (PacksNumber-code (kind_of type) one.code number one.bytes packs.0), small_codes types numbers packed packs.1)
small_codes _ _ _ packs = absurd packs

-- codes, and behind them the numbers that may stand for arguments
abbrev pub SpellCoded : List ArgType → List Number → List ℕ → Type 0
SpellCoded types numbers front = (packed : List PackedNumber) × PacksNumbers types numbers packed × MayStand types numbers × (front ≡ code_bytes (codes_of packed) ++ packed_bytes packed)

pub coded_format : (types : List ArgType) → IsFormat causes.RecordCut (SpellCoded types) (coded_numbers_at types)
coded_format types =
    respelled (then_format (tested_format (λ text. are_codes types (codes_in text)) causes.BadNibble codes_in (many_format ((length types + 1) / 2) causes.RecordCut)) (λ codes. each_format causes.RecordCut argument_format types codes))
    (λ numbers front are (codes, first, back, joined, (text, (len, same), (right, is)), each).
    let all = are_packed types codes numbers back each in
    let small : AreBytes text = subst AreBytes same (front_bytes first back (subst AreBytes joined are)) in
    let of_codes : text ≡ code_bytes (codes_of all.packed) = sym (ap code_bytes (all.codes_are ∙ ap (take (length types)) (sym is)) ∙ bytes_again types text small len right) in
    (all.packed, all.packs, all.stand, joined ∙ (λ t. (same ∙ of_codes) t ++ all.spelled t)))
    (λ numbers front (packed, packs, stand, spelled).
    let codes : List ℕ = codes_of packed in
    let read : codes_in (code_bytes codes) ≡ codes ++ padding codes = codes_again codes (small_codes types numbers packed packs) in
    let len : length (code_bytes codes) ≡ (length types + 1) / 2 = omega (arith, length-code_bytes codes, packed_as_many types numbers packed packs) in
    let right : are_codes types (codes_in (code_bytes codes)) ≡ true = ap (are_codes types) read ∙ are_codes_of types numbers packed (padding codes) packs (padding_zero codes) in
    (codes ++ padding codes, code_bytes codes, packed_bytes packed, spelled, (code_bytes codes, (len, refl), (right, read)), packed_spelled types numbers packed (padding codes) packs stand))

-- numbers that were read behind their codes
pub coded_read : {B : Type 0} (now : B → List ℕ) (read : Result B BodyCause) (types : List ArgType) (bytes front rest : List ℕ) (numbers : List Number) → AreBytes bytes → so_many ((length types + 1) / 2) causes.RecordCut bytes ≡ Ok (front, rest) → are_codes [] (drop (length types) (codes_in front)) ≡ true → is_ok read ≡ true
    → MatchResult read (λ back. numbers_at types (codes_in front) rest ≡ Ok (numbers, now back)) (λ cause. numbers_at types (codes_in front) rest ≡ Err cause)
    → MatchResult read (λ back. coded_numbers_at types bytes ≡ Ok (numbers, now back)) (λ cause. coded_numbers_at types bytes ≡ Err cause)
coded_read now (Ok back) types bytes front rest numbers are_bytes split none ok is =
    let taken = so_many_taken ((length types + 1) / 2) causes.RecordCut bytes front rest split in
    let right = codes_read types (codes_in front) rest (now back) numbers (back_bytes bytes front rest taken.parts are_bytes) is none in
    rw (split, right) is
coded_read now (Err cause) types bytes front rest numbers are_bytes split none ok is = absurd cc

-- ---- values

pub values_format : (types : List ArgType) (numbers : List Number) → IsFormat causes.RecordCut (SpellEach SpellValue types numbers) (values_at types numbers)
values_format = each_format causes.RecordCut value_format

pub all_spelled : (types : List ArgType) (args : List Value) → Fits args types → SpellEach SpellValue types (map number_for args) args (flat_map text_of args)
all_spelled [] [] fits = refl
all_spelled (type ∷ types) (arg ∷ args) fits = (text_of arg, flat_map text_of args, refl, value_spelled type arg fits.0, all_spelled types args fits.1)
all_spelled _ _ fits = absurd fits

pub all_fit : (types : List ArgType) (numbers : List Number) (args : List Value) (front : List ℕ) → MayStand types numbers → SpellEach SpellValue types numbers args front
    → (front ≡ flat_map text_of args) × Fits args types × (map number_for args ≡ numbers)
all_fit [] [] [] front stand none = (none, tt, refl)
all_fit (type ∷ types) (number ∷ numbers) (arg ∷ args) front stand (first, back, joined, here, behind) =
    let one = value_fits type number arg first stand.0 here in
    let others = all_fit types numbers args back stand.1 behind in
    (joined ∙ (λ t. one.0 t ++ others.0 t), (one.1, others.1), λ t. one.2 t ∷ others.2 t)
all_fit [] (number ∷ numbers) args front stand each = absurd stand
all_fit _ _ _ front stand none = absurd none

-- ---- arguments

packs_value : (kind : Kind) (arg : Value) (code : ℕ) (front : List ℕ) → PacksNumber kind code (number_for arg) front → Packed kind (packed_value arg) code front
packs_value unsigned (values.Unsigned n) code front packed = packed
packs_value unsigned (values.Text bytes) code front packed = packed
packs_value signed (values.Signed z) code front packed = packed
packs_value _ _ code front none = absurd none

-- the numbers of arguments stand for them
pub packs_arguments : (types : List ArgType) (args : List Value) (packed : List PackedNumber) → PacksNumbers types (map number_for args) packed → PacksArguments types args packed
packs_arguments [] [] [] packs = tt
packs_arguments (type ∷ types) (arg ∷ args) (number ∷ packed) packs = (packs_value (kind_of type) arg number.code number.bytes packs.0, packs_arguments types args packed packs.1)
packs_arguments _ _ _ packs = absurd packs

packs_number : (type : ArgType) (arg : Value) (code : ℕ) (front : List ℕ) → FitsType arg type → Packed (kind_of type) (packed_value arg) code front → PacksNumber (kind_of type) code (number_for arg) front
packs_number types.Int (values.Signed z) code front fits packed = packed
packs_number types.Long (values.Signed z) code front fits packed = packed
packs_number types.Width (values.Signed z) code front fits packed = packed
packs_number types.Precision (values.Signed z) code front fits packed = packed
packs_number types.UInt (values.Unsigned n) code front fits packed = packed
packs_number types.ULong (values.Unsigned n) code front fits packed = packed
packs_number types.Text (values.Text bytes) code front fits packed = packed
packs_number _ _ code front fits packed = absurd fits

-- what packs arguments packs their numbers, which may stand for them
pub packs_numbers : (types : List ArgType) (args : List Value) (packed : List PackedNumber) → PacksArguments types args packed → Fits args types → PacksNumbers types (map number_for args) packed × MayStand types (map number_for args)
packs_numbers [] [] [] packs fits = (tt, tt)
packs_numbers (type ∷ types) (arg ∷ args) (number ∷ packed) packs fits =
    let others = packs_numbers types args packed packs.1 fits.1 in
    ((packs_number type arg number.code number.bytes fits.0 packs.0, others.0), (stands type arg fits.0, others.1))
packs_numbers _ _ _ packs fits = absurd packs

words_of_one : (type : ArgType) (arg : Value) → FitsType arg type → number_words type (number_for arg) ≡ argument_words arg
words_of_one types.Int (values.Signed z) fits = refl
words_of_one types.Long (values.Signed z) fits = refl
words_of_one types.Width (values.Signed z) fits = refl
words_of_one types.Precision (values.Signed z) fits = refl
words_of_one types.UInt (values.Unsigned n) fits = refl
words_of_one types.ULong (values.Unsigned n) fits = refl
words_of_one types.Text (values.Text bytes) fits = refl
words_of_one _ _ fits = absurd fits

-- how many words they take
pub words_of_arguments : (types : List ArgType) (args : List Value) → Fits args types → words_taken types (map number_for args) ≡ sum_by argument_words args
words_of_arguments [] [] fits = refl
words_of_arguments (type ∷ types) (arg ∷ args) fits = omega (arith, words_of_one type arg fits.0, words_of_arguments types args fits.1, sum_by-cons argument_words arg args)
words_of_arguments _ _ fits = absurd fits

-- ---- numbers at a place

pub MayStand-length : (types : List ArgType) (numbers : List Number) → MayStand types numbers → length numbers ≡ length types
MayStand-length [] [] stand = refl
MayStand-length (type ∷ types) (number ∷ numbers) stand = ap suc (MayStand-length types numbers stand.1)
MayStand-length _ _ stand = absurd stand

pub stands_there : (types : List ArgType) (numbers : List Number) (place : ℕ) (type : ArgType) (number : Number) → MayStand types numbers → place < length types → may_stand (get_or types place type) (get_or numbers place number) ≡ true
stands_there [] numbers place type number stand within = absurd (omega arith)
stands_there (t ∷ types) (n ∷ numbers) zero type number stand within = stand.0
stands_there (t ∷ types) (n ∷ numbers) (suc place) type number stand within = stands_there types numbers place type number stand.1 (omega arith)
stands_there (t ∷ types) [] place type number stand within = absurd stand

-- the words of the argument at a place, and of those behind it
pub words_left : (types : List ArgType) (numbers : List Number) (place : ℕ) (type : ArgType) (number : Number) → place < length types → place < length numbers
    → words_taken (drop place types) (drop place numbers) ≡ number_words (get_or types place type) (get_or numbers place number) + words_taken (drop (place + 1) types) (drop (place + 1) numbers)
words_left types numbers place type number within numbered = λ t. words_taken (drop_more types place type within t) (drop_more numbers place number numbered t)

-- the codes at a place and behind it
pub codes_left : (types : List ArgType) (codes : List ℕ) (place : ℕ) (type : ArgType) (code : ℕ) → place < length types → place < length codes
    → are_codes (drop place types) (drop place codes) ≡ (is_code (kind_of (get_or types place type)) (get_or codes place code) && are_codes (drop (place + 1) types) (drop (place + 1) codes))
codes_left types codes place type code within coded = λ t. are_codes (drop_more types place type within t) (drop_more codes place code coded t)

-- behind the codes of all types stand none, or one that is 0
pub codes_past : (codes : List ℕ) (place : ℕ) → length codes ≤ place → are_codes [] (drop place codes) ≡ true
codes_past codes place past = ap (are_codes []) (drop_all place codes past)

pub one_code_past : (codes : List ℕ) (place : ℕ) → length codes ≡ place + 1 → are_codes [] (drop place codes) ≡ nat_eq (get_or codes place 0) 0
one_code_past codes place one =
    ap (are_codes []) (drop_more codes place 0 (omega arith) ∙ ap (λ (r : List ℕ). get_or codes place 0 ∷ r) (drop_all (place + 1) codes (omega arith))) ∙ and-true (nat_eq (get_or codes place 0) 0)
