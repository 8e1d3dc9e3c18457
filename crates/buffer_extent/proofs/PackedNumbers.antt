-- Numbers that are read, and their packed forms.
use Rattle.std.proofs.Common.{◌≡◌, ◌↔◌, inl, inr, ℕ, zero, suc, ◌+◌, ◌-◌, ◌^◌, ◌<◌, ◌≤◌, true, false, List, [], ◌∷◌, length, take, drop, Result, Ok, Err, refl, sym, ap, subst, ◌∙◌, arith}
use Rattle.std.specs.Prelude.{ℤ, pos, negsuc, ◌⊎◌, nat_le, nat_eq, FitsSigned}
use Rattle.std.specs.Int.{w64, cast_signed, cast_unsigned, bytes_low_first}
use Rattle.std.proofs.lemmas.Bool.{le-leb, leb-true, eqb-true, eqb-false, eq-eqb, cases_lt, leb-false, false_from_ne_true}
use Rattle.std.proofs.lemmas.Int.{ints, to_z-of_z, of_z-to_z}
use Rattle.std.proofs.lemmas.List.{take-append-drop, take_rest}
use Rattle.std.proofs.Math.Nat.{pow-le-pow_right}
use Rattle.printf_grammar.specs.declared.arg_type.ArgType.{ArgType}
use Rattle.printf_grammar.specs.declared.argument.Value.{Value}
use Rattle.nibble_pack.specs.Bytes.{AreBytes, number_of_bytes, length-bytes_low_first, number_of_bytes-low_first, number_of_bytes-lt, low_first-number_of_bytes}
use Rattle.nibble_pack.specs.declared.unpack.UnpackFault.{UnpackFault}
use Rattle.nibble_pack.specs.declared.unpack.UnpackFault.TheVariants as faults
use Rattle.nibble_pack.specs.Packing.{Kind, unsigned, signed, IsCode, byte_count, IsLeastCount, PacksSigned, small, negative, wide, IsWide, Packed, IsCut, IsNotShortest}
use Rattle.nibble_pack.proofs.lemmas.PackingLaws.{IsLeastCount-zero, IsLeastCount-suc, wide_number, signed_count-low, signed_count-high}
use Rattle.nibble_pack.proofs.lemmas.SignedForms.{no_spelling_low, no_spelling_high, wide_in_range}
use Rattle.buffer_extent.specs.declared.fault.BodyCause.TheVariants as causes
use Rattle.buffer_extent.specs.Records.{PackedNumber, PacksArguments, codes_of}
use Rattle.buffer_extent.specs.Reading.{number_cause, is_shortest, unsigned_at, is_wide, wide_at, signed_at}
use Rattle.nibble_pack.proofs.lemmas.Fronts.{Packed-at_front}
use Rattle.nibble_pack.proofs.lemmas.Formats.{IsFormat, respelled, given_format, tested_format, many_format, made_format, chosen_format}

-- ---- codes of packed numbers

pub numbers_are_as_many : (types : List ArgType) (args : List Value) (packed : List PackedNumber)
    → PacksArguments types args packed → length (codes_of packed) ≡ length types
numbers_are_as_many [] [] [] packs = refl
numbers_are_as_many (type ∷ types) (arg ∷ args) (number ∷ others) packs = ap suc (numbers_are_as_many types args others packs.1)
numbers_are_as_many _ _ _ packs = absurd packs

-- ---- the shortest

shortest : (count n : ℕ) → IsLeastCount count n → is_shortest count n ≡ true
shortest zero n least = refl
shortest (suc fewer) n least = elim (cases_lt n (256 ^ fewer)) [
  | inl below ↦ absurd (omega (arith, least.least fewer below))
  | inr above ↦ le-leb (256 ^ fewer) n above
]

least_count : (count n : ℕ) → n < 256 ^ count → is_shortest count n ≡ true → IsLeastCount count n
least_count zero n below is = subst (IsLeastCount 0) (omega arith) IsLeastCount-zero
least_count (suc fewer) n below is = IsLeastCount-suc fewer n (leb-true (256 ^ fewer) n is) below

-- ---- unsigned numbers

-- the bytes are those of a number that so many bytes hold, and no fewer
abbrev AreLeast : ℕ → ℕ → List ℕ → Type 0
AreLeast code n front = (code ≤ 8) × IsLeastCount code n × (front ≡ bytes_low_first 0 code n)

least_format : (code : ℕ) → IsFormat causes.RecordCut (AreLeast code) (unsigned_at code)
least_format code =
    respelled (given_format (nat_le code 8) causes.BadNibble code (λ count.
    tested_format (λ text. is_shortest count (number_of_bytes text)) causes.NotShortest number_of_bytes (many_format count causes.RecordCut)))
    (λ n front are (few, (text, (len, same), (short, number))).
    let text_are : AreBytes text = subst AreBytes same are in
    let below : n < 256 ^ code = subst (λ (k : ℕ). n < 256 ^ k) len (subst (λ (m : ℕ). m < 256 ^ length text) number (number_of_bytes-lt text text_are)) in
    (leb-true code 8 few, least_count code n below (ap (is_shortest code) (sym number) ∙ short), same ∙ sym (low_first-number_of_bytes text text_are) ∙ (λ t. bytes_low_first 0 (len t) (number t))))
    (λ n front (few, least, spelled).
    let number : number_of_bytes front ≡ n = ap number_of_bytes spelled ∙ number_of_bytes-low_first code n least.holds in
    (le-leb code 8 few, (front, (ap length spelled ∙ length-bytes_low_first 0 code n, refl), (ap (is_shortest code) number ∙ shortest code n least, number))))

pub unsigned_format : (code : ℕ) → IsFormat causes.RecordCut (λ n front. Packed unsigned (pos n) code front) (unsigned_at code)
unsigned_format code =
    respelled (least_format code)
    (λ n front are (few, least, spelled).
    let most = pow-le-pow_right {n = 256} (omega arith) {i = code} {j = 8} few in
    let below = least.holds in
    (n, refl, record { fits = omega arith; count = least; spelled = spelled }))
    (λ n front (m, is, packs).
    let same : m ≡ n = cc in
    let fits = packs.fits in
    subst (λ (k : ℕ). AreLeast code k front) same (packs.count.least 8 (omega arith), packs.count, packs.spelled))

-- ---- signed numbers

above_false : (a b : ℕ) → b < a → nat_le a b ≡ false
above_false a b h = false_from_ne_true (nat_le a b) (λ t. absurd (omega (arith, leb-true a b t)))

wide_test : (z : ℤ) → IsWide z → is_wide z ≡ true
wide_test (pos n) h = le-leb (2 ^ 56) n h.0
wide_test (negsuc n) h = le-leb (2 ^ 48) n h.0

-- a number of eight bytes in two's complement
wide_fits : (m : ℕ) → m < 2 ^ 64 → is_wide (cast_signed w64 m) ≡ true → IsWide (cast_signed w64 m)
wide_fits m below is = by_sign (cast_signed w64 m) refl is
  where
    by_sign : (z : ℤ) → cast_signed w64 m ≡ z → is_wide z ≡ true → IsWide z
    by_sign (pos n) same is = (leb-true (2 ^ 56) n is, omega (arith, ints, same))
    by_sign (negsuc n) same is = (leb-true (2 ^ 48) n is, omega (arith, ints, same))

wide_format : IsFormat causes.RecordCut (λ z front. IsWide z × (front ≡ bytes_low_first 0 8 (cast_unsigned w64 z))) wide_at
wide_format =
    respelled (tested_format (λ text. is_wide (cast_signed w64 (number_of_bytes text))) causes.NotShortest (λ text. cast_signed w64 (number_of_bytes text)) (many_format 8 causes.RecordCut))
    (λ z front are (text, (len, same), (test, number)).
    let n : ℕ = number_of_bytes text in
    let text_are : AreBytes text = subst AreBytes same are in
    let below : n < 2 ^ 64 = subst (λ (k : ℕ). n < 256 ^ k) len (number_of_bytes-lt text text_are) in
    let word : cast_unsigned w64 z ≡ n = ap (cast_unsigned w64) (sym number) ∙ of_z-to_z w64 n (omega arith) in
    (subst IsWide number (wide_fits n below test), same ∙ sym (low_first-number_of_bytes text text_are) ∙ (λ t. bytes_low_first 0 (len t) (sym word t))))
    (λ z front (is, spelled).
    let number : number_of_bytes front ≡ cast_unsigned w64 z = ap number_of_bytes spelled ∙ number_of_bytes-low_first 8 (cast_unsigned w64 z) (wide_number z is) in
    let value : cast_signed w64 (number_of_bytes front) ≡ z = ap (cast_signed w64) number ∙ to_z-of_z w64 z (wide_in_range z is) in
    (front, (ap length spelled ∙ length-bytes_low_first 0 8 (cast_unsigned w64 z), refl), (ap is_wide value ∙ wide_test z is, value)))

pub signed_format : (code : ℕ) → IsFormat causes.RecordCut (λ z front. PacksSigned z code front) (signed_at code)
signed_format code =
    respelled (chosen_format (nat_le code 7) (made_format pos (least_format code)) (chosen_format (nat_eq code 8) wide_format
    (given_format (nat_le code 15) causes.BadNibble (code - 9) (λ count. made_format negsuc (least_format count)))))
    (λ z front are. elim [
      | inl (low, (n, (few, least, spelled), is)) ↦
          let power = pow-le-pow_right {n = 256} (omega arith) {i = code} {j = 7} (leb-true code 7 low) in
          let below = least.holds in
          small n (sym is) (omega arith) least spelled
      | inr (high, inl (eight, (is, spelled))) ↦ wide is (eqb-true code 8 eight) spelled
      | inr (high, inr (other, (most, (n, (few, least, spelled), is)))) ↦
          let count_is : code ≡ 9 + (code - 9) = omega (arith, leb-false code 7 high, eqb-false code 8 other) in
          let power = pow-le-pow_right {n = 256} (omega arith) {i = code - 9} {j = 6} (omega (arith, leb-true code 15 most)) in
          let below = least.holds in
          negative n (code - 9) (sym is) (omega arith) least count_is spelled
    ])
    (λ z front. elim [
      | small n is below least spelled ↦
          let low : code ≤ 7 = least.least 7 (omega arith) in
          inl (le-leb code 7 low, (n, (omega arith, least, spelled), sym is))
      | negative n count is below least of_code spelled ↦
          let low : count ≤ 6 = least.least 6 (omega arith) in
          let count_is : count ≡ code - 9 = omega arith in
          let there = subst (λ (k : ℕ). AreLeast k n front) count_is (omega arith, least, spelled) in
          inr (above_false code 7 (omega arith), inr (false_from_ne_true (nat_eq code 8) (λ t. absurd (omega (arith, eqb-true code 8 t))), (le-leb code 15 (omega arith), (n, there, sym is))))
      | wide is of_code spelled ↦ inr (above_false code 7 (omega arith), inl (eq-eqb code 8 of_code, (is, spelled)))
    ])

-- ---- as `unpack_unsigned` and `unpack_signed` tell it

-- what a fault says of a code and bytes
abbrev pub Breaks : Kind → UnpackFault → ℕ → List ℕ → Type 0
Breaks kind faults.BadCode code bytes = ¬ IsCode kind code
Breaks kind faults.Cut code bytes = IsCut kind code bytes
Breaks kind faults.NotShortest code bytes = IsNotShortest kind code bytes

pub unsigned_broken : (fault : UnpackFault) (code : ℕ) (bytes : List ℕ) → AreBytes bytes → Breaks unsigned fault code bytes → unsigned_at code bytes ≡ Err (number_cause fault)
unsigned_broken faults.BadCode code bytes are_bytes none = rw (false_from_ne_true (nat_le code 8) (λ t. none (leb-true code 8 t))) refl
unsigned_broken faults.Cut code bytes are_bytes (known, short) = rw (le-leb code 8 known, above_false code (length bytes) short) refl
unsigned_broken faults.NotShortest code bytes are_bytes (known, enough, none) = rw (le-leb code 8 known, le-leb code (length bytes) enough, test) refl
  where
    n : ℕ
    n = number_of_bytes (take code bytes)

    test : is_shortest code n ≡ false
    test = false_from_ne_true (is_shortest code n) (λ yes.
        let read : unsigned_at code bytes ≡ Ok (n, drop code bytes) = rw (le-leb code 8 known, le-leb code (length bytes) enough, yes) refl in
        let (front, parts, packed) = (unsigned_format code).taken bytes n (drop code bytes) are_bytes read in
        none (pos n) (Packed-at_front unsigned (pos n) code bytes front (drop code bytes) packed parts))

wide_broken : (fault : UnpackFault) (bytes : List ℕ) → AreBytes bytes → Breaks signed fault 8 bytes → wide_at bytes ≡ Err (number_cause fault)
wide_broken faults.BadCode bytes are_bytes none = absurd (none (omega arith))
wide_broken faults.Cut bytes are_bytes (known, short) = rw (above_false 8 (length bytes) short) refl
wide_broken faults.NotShortest bytes are_bytes (known, enough, none) = rw (le-leb 8 (length bytes) enough, test) refl
  where
    z : ℤ
    z = cast_signed w64 (number_of_bytes (take 8 bytes))

    test : is_wide z ≡ false
    test = false_from_ne_true (is_wide z) (λ yes.
        let read : signed_at 8 bytes ≡ Ok (z, drop 8 bytes) = rw (le-leb 8 (length bytes) enough, yes) refl in
        let (front, parts, packed) = (signed_format 8).taken bytes z (drop 8 bytes) are_bytes read in
        none z (Packed-at_front signed z 8 bytes front (drop 8 bytes) packed parts))

pub signed_broken : (fault : UnpackFault) (code : ℕ) (bytes : List ℕ) → AreBytes bytes → Breaks signed fault code bytes → signed_at code bytes ≡ Err (number_cause fault)
signed_broken fault code bytes are_bytes breaks = by_code (cases_lt code 8)
  where
    low : (fault : UnpackFault) → code ≤ 7 → Breaks signed fault code bytes → Breaks unsigned fault code bytes
    low faults.BadCode few none = absurd (none (omega arith))
    low faults.Cut few cut = let count = signed_count-low code (omega arith) in (omega arith, omega (arith, cut.1))
    low faults.NotShortest few long = (no_spelling_low code bytes few).1 long

    high : (fault : UnpackFault) (count : ℕ) → code ≡ 9 + count → count ≤ 6 → Breaks signed fault code bytes → Breaks unsigned fault count bytes
    high faults.BadCode count is few none = absurd (none (omega arith))
    high faults.Cut count is few cut = let same = signed_count-high code count is in (omega arith, omega (arith, cut.1))
    high faults.NotShortest count is few long = (no_spelling_high code count bytes is few).1 long

    from_nine : (fault : UnpackFault) → 9 ≤ code → Breaks signed fault code bytes → signed_at code bytes ≡ Err (number_cause fault)
    from_nine fault above breaks = elim (cases_lt 15 code) [
      | inl past ↦ past_all fault past breaks
      | inr within ↦
          let other : nat_eq code 8 ≡ false = false_from_ne_true (nat_eq code 8) (λ t. absurd (omega (arith, eqb-true code 8 t))) in
          let broken = unsigned_broken fault (code - 9) bytes are_bytes (high fault (code - 9) (omega arith) (omega arith) breaks) in
          rw (above_false code 7 (omega arith), other, le-leb code 15 within, broken) refl
    ]
      where
        past_all : (fault : UnpackFault) → 15 < code → Breaks signed fault code bytes → signed_at code bytes ≡ Err (number_cause fault)
        past_all faults.BadCode past none =
            let other : nat_eq code 8 ≡ false = false_from_ne_true (nat_eq code 8) (λ t. absurd (omega (arith, eqb-true code 8 t))) in
            rw (above_false code 7 (omega arith), other, above_false code 15 past) refl
        past_all faults.Cut past cut = absurd (omega (arith, cut.0))
        past_all faults.NotShortest past long = absurd (omega (arith, long.0))

    by_code : (code < 8) ⊎ (8 ≤ code) → signed_at code bytes ≡ Err (number_cause fault)
    by_code (inl below) = rw (le-leb code 7 (omega arith), unsigned_broken fault code bytes are_bytes (low fault (omega arith) breaks)) refl
    by_code (inr above) = elim (cases_lt 8 code) [
      | inl past ↦ from_nine fault past breaks
      | inr within ↦
          let eight : code ≡ 8 = omega arith in
          rw eight (wide_broken fault bytes are_bytes (subst (λ (k : ℕ). Breaks signed fault k bytes) eight breaks))
    ]

-- the faults of which the clauses tell are those of the code and bytes
pub told : {T : Type 0} (kind : Kind) (most : ℕ) (result : Result T UnpackFault) (fault : UnpackFault) (code : ℕ) (bytes : List ℕ) → (IsCode kind code → code ≤ most) → result ≡ Err fault
    → ((result ≡ Err faults.BadCode) ↔ (most < code)) → ((result ≡ Err faults.Cut) ↔ IsCut kind code bytes)
    → ((result ≡ Err faults.NotShortest) ↔ IsNotShortest kind code bytes) → Breaks kind fault code bytes
told kind most result faults.BadCode code bytes within is bad cut long = λ known. absurd (let above = bad.0 is in omega (arith, within known))
told kind most result faults.Cut code bytes within is bad cut long = cut.0 is
told kind most result faults.NotShortest code bytes within is bad cut long = long.0 is

pub unsigned_front : (n code : ℕ) (bytes : List ℕ) → Packed unsigned (pos n) code (take code bytes) → unsigned_at code bytes ≡ Ok (n, take (length bytes - code) (drop code bytes))
unsigned_front n code bytes packed =
    ap (unsigned_at code) (sym (take-append-drop code bytes)) ∙ (unsigned_format code).again n (take code bytes) (drop code bytes) packed ∙ ap (λ (r : List ℕ). Ok (n, r)) (sym (take_rest bytes code))

in_range : (z : ℤ) (code : ℕ) (bytes : List ℕ) → PacksSigned z code bytes → FitsSigned w64 z
in_range z code bytes (small n is below least spelled) = subst (FitsSigned w64) (sym is) (record { sfits = omega arith })
in_range z code bytes (negative n count is below least of_code spelled) = subst (FitsSigned w64) (sym is) (record { sfits = omega arith })
in_range z code bytes (wide is of_code spelled) = wide_in_range z is

pub signed_front : (z : ℤ) (code count : ℕ) (bytes : List ℕ) → count ≡ byte_count signed code → Packed signed z code (take (byte_count signed code) bytes)
    → signed_at code bytes ≡ Ok (cast_signed w64 (cast_unsigned w64 z), take (length bytes - count) (drop count bytes))
signed_front z code count bytes is packed =
    let here : Packed signed z code (take count bytes) = subst (λ (n : ℕ). Packed signed z code (take n bytes)) (sym is) packed in
    let value = to_z-of_z w64 z (in_range z code (take count bytes) here) in
    ap (signed_at code) (sym (take-append-drop count bytes)) ∙ (signed_format code).again z (take count bytes) (drop count bytes) here
    ∙ (λ t. Ok (sym value t, sym (take_rest bytes count) t))
