-- Numbers that are read digit by digit.
use Rattle.std.proofs.Common.{◌≡◌, ◌≢◌, ℕ, zero, suc, ◌+◌, ◌-◌, ◌*◌, ◌<◌, ◌≤◌, ◌^◌, Bool, true, false, List, [], ◌∷◌, length, get_or, take, drop, Option, Some, None, refl, sym, ap, ◌∙◌, arith, subst, add-one, add-zero, cond, eqb, leb}
use Rattle.std.specs.Option.{option_map}
use Rattle.std.proofs.lemmas.Bool.{le-ltb, lt-ltb, ne_eqb, eqb-true, eqb-false, leb-true, and_parts}
use Rattle.std.proofs.lemmas.List.{drop_more, take_all, length-drop}
use Rattle.std.proofs.lemmas.Option.{same_Some}
use Rattle.std.proofs.Math.ListN.{drop_of_length-le}
use Rattle.std.proofs.Math.Nat.{pow-suc}
use Rattle.log_dictionary.specs.Numbers.{is_digit, number_from, digits_from, natural_of, natural_read}
use Rattle.log_dictionary.specs.Fields.{first_field, ends_field, if_ends, of_first_field}
use Rattle.log_dictionary.specs.declared.numbers.Natural.{Natural}
use Rattle.log_dictionary.specs.declared.numbers.Natural.TheVariants.{Small, Large}

-- the digit that a byte is
abbrev digit_at : ℕ → Option ℕ
digit_at d = cond (is_digit d) (Some (d - 48)) None

-- ---- one digit

by_digit : (t : Bool) (v d digit : ℕ) (digits : List ℕ) → Some digit ≡ cond t (Some (d - 48)) None → ◌≡◌ {A = ℕ × List ℕ} (cond t (digits_from (v * 10 + (d - 48)) digits) (v, d ∷ digits)) (digits_from (v * 10 + digit) digits)
by_digit true v d digit digits e = ap (λ (x : ℕ). digits_from (v * 10 + x) digits) (sym (same_Some digit (d - 48) e))
by_digit false v d digit digits e = absurd cc

by_no_digit : (t : Bool) (v d : ℕ) (digits : List ℕ) → ◌≡◌ {A = Option ℕ} None (cond t (Some (d - 48)) None) → ◌≡◌ {A = ℕ × List ℕ} (cond t (digits_from (v * 10 + (d - 48)) digits) (v, d ∷ digits)) (v, d ∷ digits)
by_no_digit true v d digits e = absurd cc
by_no_digit false v d digits e = refl

pub digits_step : (digits : List ℕ) (i v digit : ℕ) → i < length digits → Some digit ≡ digit_at (get_or digits i 0) → digits_from v (drop i digits) ≡ digits_from (v * 10 + digit) (drop (i + 1) digits)
unfolding digits_from
digits_step digits i v digit within e =
    let d = get_or digits i 0 in
    ap (digits_from v) (drop_more digits i 0 within) ∙ by_digit (is_digit d) v d digit (drop (i + 1) digits) e

pub digits_stop : (digits : List ℕ) (i v : ℕ) → i < length digits → None ≡ digit_at (get_or digits i 0) → digits_from v (drop i digits) ≡ (v, drop i digits)
unfolding digits_from
digits_stop digits i v within e =
    let d = get_or digits i 0 in
    let more = drop_more digits i 0 within in
    ap (digits_from v) more ∙ by_no_digit (is_digit d) v d (drop (i + 1) digits) e ∙ ap (λ (l : List ℕ). (v, l)) (sym more)

pub digits_end : (digits : List ℕ) (i v : ℕ) → length digits ≤ i → digits_from v (drop i digits) ≡ (v, drop i digits)
unfolding digits_from
digits_end digits i v past = let none = drop_of_length-le digits past in rw none refl

-- ---- what digits do behind others

-- the bytes behind the digits are the same behind any number, which doesn't fall
pub record IsLonger (m n : ℕ) (digits : List ℕ) : Type 0 where
  pub least : n ≤ (digits_from n digits).0
  pub rest : (digits_from n digits).1 ≡ (digits_from m digits).1

pub longer : (m n : ℕ) (digits : List ℕ) → IsLonger m n digits
unfolding digits_from
longer m n [] = record { least = omega arith; rest = refl }
longer m n (d ∷ digits) = let is = by_test (is_digit d) (longer (m * 10 + (d - 48)) (n * 10 + (d - 48)) digits) in record { least = is.0; rest = is.1 }
  where
    by_test : (t : Bool) → IsLonger (m * 10 + (d - 48)) (n * 10 + (d - 48)) digits → let found : ℕ → ℕ × List ℕ = λ v. cond t (digits_from (v * 10 + (d - 48)) digits) (v, d ∷ digits) in (n ≤ (found n).0) × ((found n).1 ≡ (found m).1)
    by_test true others = (omega (arith, others.least), others.rest)
    by_test false others = (omega arith, refl)

-- ---- where the digits end

-- the number that was read, and the bytes behind its digits
pub record IsSplit (first : ℕ) (bytes : List ℕ) (number : Natural) (rest : List ℕ) : Type 0 where
  pub number_is : number ≡ natural_read (digits_from first bytes).0
  pub rest_is : rest ≡ (digits_from first bytes).1

rest_from : (bytes : List ℕ) (i at : ℕ) → at ≡ i → take (length bytes - at) (drop at bytes) ≡ drop i bytes
rest_from bytes i at e = take_all (length bytes - at) (drop at bytes) (omega (arith, length-drop at bytes)) ∙ ap (λ (n : ℕ). drop n bytes) e

-- the bytes behind the digits before a place
pub behind_step : (bytes : List ℕ) (i digit : ℕ) → (digits_from 0 bytes).1 ≡ (digits_from 0 (drop i bytes)).1 → i < length bytes → Some digit ≡ digit_at (get_or bytes i 0) → (digits_from 0 bytes).1 ≡ (digits_from 0 (drop (i + 1) bytes)).1
behind_step bytes i digit behind within e = behind ∙ ap (λ (p : ℕ × List ℕ). p.1) (digits_step bytes i 0 digit within e) ∙ (longer 0 (0 * 10 + digit) (drop (i + 1) bytes)).rest

pub behind_stop : (bytes : List ℕ) (i at : ℕ) → (digits_from 0 bytes).1 ≡ (digits_from 0 (drop i bytes)).1 → digits_from 0 (drop i bytes) ≡ (0, drop i bytes) → at ≡ i → take (length bytes - at) (drop at bytes) ≡ (digits_from 0 bytes).1
behind_stop bytes i at behind stops e = rest_from bytes i at e ∙ sym (behind ∙ ap (λ (p : ℕ × List ℕ). p.1) stops)

-- the digits before a place spell this number behind those of the first
pub record IsReadTo (first : ℕ) (bytes : List ℕ) (place number : ℕ) : Type 0 where
  pub read : digits_from first bytes ≡ digits_from number (drop place bytes)
  pub fits : number < 2 ^ 64

-- the digits end at a place
pub ended : (first : ℕ) (bytes : List ℕ) (i at n : ℕ) → IsReadTo first bytes i n → digits_from n (drop i bytes) ≡ (n, drop i bytes) → at ≡ i → IsSplit first bytes (Small n) (take (length bytes - at) (drop at bytes))
ended first bytes i at n is stops e = record {
  number_is = sym (ap (λ (p : ℕ × List ℕ). natural_read p.0) (is.read ∙ stops) ∙ ap (λ (t : Bool). cond t (Small n) Large) (lt-ltb n (2 ^ 64) is.fits));
  rest_is = rest_from bytes i at e ∙ sym (ap (λ (p : ℕ × List ℕ). p.1) (is.read ∙ stops));
}

-- with one more digit the number is too large
pub overflowed : (first : ℕ) (bytes : List ℕ) (i n digit : ℕ) (rest : List ℕ) → IsReadTo first bytes i n → i < length bytes → Some digit ≡ digit_at (get_or bytes i 0) → 2 ^ 64 ≤ n * 10 + digit
    → rest ≡ (digits_from 0 (take (length bytes - i) (drop i bytes))).1 → IsSplit first bytes Large rest
overflowed first bytes i n digit rest is within e large behind =
    let more = is.read ∙ digits_step bytes i n digit within e in
    let least = (longer 0 (n * 10 + digit) (drop (i + 1) bytes)).least in
    let value : 2 ^ 64 ≤ (digits_from first bytes).0 = rw more (omega (arith, least, large)) in
    record {
      number_is = sym (ap (λ (t : Bool). cond t (Small (digits_from first bytes).0) Large) (le-ltb (digits_from first bytes).0 (2 ^ 64) value));
      rest_is = behind ∙ ap (λ (l : List ℕ). (digits_from 0 l).1) (rest_from bytes i i refl) ∙ sym (ap (λ (p : ℕ × List ℕ). p.1) is.read ∙ (longer 0 n (drop i bytes)).rest);
    }

-- ---- digits that are few

power_step : (n : ℕ) → 10 ^ (n + 1) ≡ 10 ^ n * 10
power_step n = ap (λ (m : ℕ). 10 ^ m) (add-one n) ∙ pow-suc 10 n

power_least : (n k : ℕ) → 10 ^ n ≤ 10 ^ (n + k)
power_least n zero = rw (add-zero n) (omega arith)
power_least n (suc k) = let same : n + suc k ≡ n + k + 1 = omega arith in rw (same, power_step (n + k)) (omega (arith, power_least n k))

-- one digit more than at most 18
pub fits_short : (n number digit : ℕ) → n < 19 → number < 10 ^ n → digit < 10 → number * 10 + digit < 2 ^ 64
fits_short n number digit few small one =
    let all : n + (18 - n) ≡ 18 = omega (arith, few) in
    let least : 10 ^ n ≤ 10 ^ 18 = subst (λ (m : ℕ). 10 ^ n ≤ 10 ^ m) all (power_least n (18 - n)) in
    omega (arith, least, small, one)

-- the digits before a place spell this number, which has no more digits
pub record IsShortTo (bytes : List ℕ) (place number : ℕ) : Type 0 where
  pub read : digits_from 0 bytes ≡ digits_from number (drop place bytes)
  pub few : number < 10 ^ place

pub short_more : (bytes : List ℕ) (i number digit : ℕ) → IsShortTo bytes i number → i < length bytes → Some digit ≡ digit_at (get_or bytes i 0) → digit < 10 → IsShortTo bytes (i + 1) (number * 10 + digit)
short_more bytes i number digit is within e one = record {
  read = is.read ∙ digits_step bytes i number digit within e;
  few = rw (power_step i) (omega (arith, is.few, one));
}

-- ---- all bytes, and the first field

-- the number of bytes that are all digits
abbrev if_whole : ℕ × List ℕ → Option ℕ
if_whole (v, []) = Some v
if_whole (v, b ∷ rest) = None

whole_digits : (n : ℕ) (bytes : List ℕ) → number_from n bytes ≡ if_whole (digits_from n bytes)
unfolding number_from digits_from
whole_digits n [] = refl
whole_digits n (d ∷ digits) = by_test (is_digit d) (whole_digits (n * 10 + (d - 48)) digits)
  where
    by_test : (t : Bool) → number_from (n * 10 + (d - 48)) digits ≡ if_whole (digits_from (n * 10 + (d - 48)) digits) → cond t (number_from (n * 10 + (d - 48)) digits) None ≡ if_whole (cond t (digits_from (n * 10 + (d - 48)) digits) (n, d ∷ digits))
    by_test true others = others
    by_test false others = refl

-- the number that was read, where no byte is left
pub whole_read : (bytes : List ℕ) (number : Natural) (rest : List ℕ) → IsSplit 0 bytes number rest → length rest < 1 → Some number ≡ option_map natural_read (number_from 0 bytes)
whole_read bytes number rest is none = rw (whole_digits 0 bytes) (by_rest (digits_from 0 bytes) is.number_is (ap length (sym is.rest_is)))
  where
    by_rest : (p : ℕ × List ℕ) → number ≡ natural_read p.0 → length p.1 ≡ length rest → Some number ≡ option_map natural_read (if_whole p)
    by_rest (v, []) e same = ap (λ (n : Natural). Some n) e
    by_rest (v, b ∷ left) e same = absurd (omega (arith, same, none))

-- bytes that aren't all digits
pub not_whole : (bytes : List ℕ) (number : Natural) (rest : List ℕ) → IsSplit 0 bytes number rest → 1 ≤ length rest → None ≡ option_map natural_read (number_from 0 bytes)
not_whole bytes number rest is some = rw (whole_digits 0 bytes) (by_rest (digits_from 0 bytes) (ap length (sym is.rest_is)))
  where
    by_rest : (p : ℕ × List ℕ) → length p.1 ≡ length rest → None ≡ option_map natural_read (if_whole p)
    by_rest (v, []) same = absurd (omega (arith, same, some))
    by_rest (v, b ∷ left) same = refl

-- ---- the first field

-- the number of a field that is digits alone
abbrev if_field : ℕ × List ℕ → Option (ℕ × List ℕ)
if_field parts = if_ends parts.0 parts.1

field_digits : (n : ℕ) (bytes : List ℕ) → of_first_field (number_from n) bytes ≡ if_field (digits_from n bytes)
unfolding number_from digits_from
field_digits n [] = refl
field_digits n (d ∷ digits) = by_test (eqb d 32) (is_digit d) refl refl (field_digits (n * 10 + (d - 48)) digits)
  where
    by_test : (s t : Bool) → eqb d 32 ≡ s → is_digit d ≡ t → of_first_field (number_from (n * 10 + (d - 48))) digits ≡ if_field (digits_from (n * 10 + (d - 48)) digits) → of_first_field (number_from n) (d ∷ digits) ≡ if_field (digits_from n (d ∷ digits))
    by_test true true space digit others = let both = and_parts (leb 48 d) (leb d 57) digit in absurd (omega (arith, eqb-true d 32 space, leb-true 48 d both.0))
    by_test true false space digit others = rw (space, digit, space) refl
    by_test false true space digit others = rw (space, digit) others
    by_test false false space digit others = rw (space, digit, space) refl

zero_field : (bytes : List ℕ) → of_first_field natural_of (48 ∷ bytes) ≡ if_field (0, bytes)
unfolding number_from
zero_field [] = refl
zero_field (b ∷ bytes) = by_test (eqb b 32) refl
  where
    by_test : (s : Bool) → eqb b 32 ≡ s → of_first_field natural_of (48 ∷ b ∷ bytes) ≡ if_field (0, b ∷ bytes)
    by_test true space = rw space refl
    by_test false space = rw (space, ne_eqb (length (b ∷ (first_field bytes).0)) 0 (λ e. omega (arith, e))) refl

natural_field : (b : ℕ) (bytes : List ℕ) → b ≢ 32 → b ≢ 48 → of_first_field natural_of (b ∷ bytes) ≡ if_field (digits_from 0 (b ∷ bytes))
natural_field b bytes some other =
    let same : of_first_field natural_of (b ∷ bytes) ≡ of_first_field (number_from 0) (b ∷ bytes) = rw (ne_eqb b 32 some, ne_eqb b 48 other) refl in
    same ∙ field_digits 0 (b ∷ bytes)

abbrev named : ℕ × List ℕ → Natural × List ℕ
named parts = (natural_read parts.0, parts.1)

named_read : (o : Option ℕ) (rest : List ℕ) → option_map {U = Natural × List ℕ} (λ x. (x, rest)) (option_map natural_read o) ≡ option_map named (option_map (λ n. (n, rest)) o)
named_read None rest = refl
named_read (Some n) rest = refl

named_if : (t : Bool) (parts : ℕ × List ℕ) → option_map named (cond t (Some parts) None) ≡ cond t (Some (named parts)) None
named_if true parts = refl
named_if false parts = refl

-- what a field is read as
abbrev pub read_field : List ℕ → Option (Natural × List ℕ)
read_field bytes = of_first_field (λ field. option_map natural_read (natural_of field)) bytes

field_read : (bytes : List ℕ) (parts : ℕ × List ℕ) → of_first_field natural_of bytes ≡ if_field parts → read_field bytes ≡ if_ends (natural_read parts.0) parts.1
field_read bytes parts e = named_read (natural_of (first_field bytes).0) (first_field bytes).1 ∙ ap (option_map named) e ∙ named_if (ends_field parts.1) parts

pub zero_read : (bytes : List ℕ) → 0 < length bytes → get_or bytes 0 0 ≡ 48 → if_ends (Small 0) (take (length bytes - 1) (drop 1 bytes)) ≡ read_field bytes
zero_read [] some is = absurd (omega (arith, some))
zero_read (b ∷ bytes) some is = ap (if_ends (Small 0)) (rest_from (b ∷ bytes) 1 1 refl) ∙ sym (ap (λ (d : ℕ). read_field (d ∷ bytes)) is ∙ field_read (48 ∷ bytes) (0, bytes) (zero_field bytes))

pub digits_read : (bytes : List ℕ) (number : Natural) (rest : List ℕ) → 0 < length bytes → get_or bytes 0 0 ≢ 32 → get_or bytes 0 0 ≢ 48 → IsSplit 0 bytes number rest → read_field bytes ≡ if_ends number rest
digits_read [] number rest some space other is = absurd (omega (arith, some))
digits_read (b ∷ bytes) number rest some space other is = rw (is.number_is, is.rest_is) (field_read (b ∷ bytes) (digits_from 0 (b ∷ bytes)) (natural_field b bytes space other))

-- no digit stands where a field has ended
ends_digits : (n : ℕ) (rest : List ℕ) → ends_field rest ≡ true → digits_from n rest ≡ (n, rest)
unfolding digits_from
ends_digits n [] ends = refl
ends_digits n (b ∷ rest) ends = rw (eqb-true b 32 ends) refl

one_field : (b digit : ℕ) (rest : List ℕ) → Some digit ≡ digit_at b → ends_field rest ≡ true → of_first_field natural_of (b ∷ rest) ≡ if_field (digit, rest)
one_field b digit rest e ends = by_zero (eqb b 48) refl
  where
    no_mark : ◌≡◌ {A = Option ℕ} (Some digit) None → ⊥
    no_mark same = absurd cc

    by_zero : (t : Bool) → eqb b 48 ≡ t → of_first_field natural_of (b ∷ rest) ≡ if_field (digit, rest)
    by_zero true zero_first =
        let is : b ≡ 48 = eqb-true b 48 zero_first in
        let none : digit ≡ 0 = same_Some digit 0 (e ∙ ap digit_at is) in
        ap (λ (d : ℕ). of_first_field natural_of (d ∷ rest)) is ∙ zero_field rest ∙ ap (λ (n : ℕ). if_field (n, rest)) (sym none)
    by_zero false other =
        let same : 0 * 10 + digit ≡ digit = omega arith in
        let step : digits_from 0 (b ∷ rest) ≡ digits_from digit rest = digits_step (b ∷ rest) 0 0 digit (omega arith) e ∙ ap (λ (n : ℕ). digits_from n rest) same in
        natural_field b rest (λ mark. no_mark (e ∙ ap digit_at mark)) (eqb-false b 48 other) ∙ ap if_field (step ∙ ends_digits digit rest ends)

-- a field of one digit
pub one_read : (bytes : List ℕ) (at digit : ℕ) → 0 < length bytes → at ≡ 1 → Some digit ≡ digit_at (get_or bytes 0 0) → digit < 10 → ends_field (take (length bytes - at) (drop at bytes)) ≡ true
    → Some (Small digit, take (length bytes - at) (drop at bytes)) ≡ read_field bytes
one_read [] at digit some here e one ends = absurd (omega (arith, some))
one_read (b ∷ bytes) at digit some here e one ends =
    let rest : take (length (b ∷ bytes) - at) (drop at (b ∷ bytes)) ≡ bytes = rest_from (b ∷ bytes) 1 at here in
    let ended_there : ends_field bytes ≡ true = sym (ap ends_field rest) ∙ ends in
    let small : natural_read digit ≡ Small digit = ap (λ (t : Bool). cond t (Small digit) Large) (lt-ltb digit (2 ^ 64) (omega (arith, one))) in
    ap (λ (l : List ℕ). Some (Small digit, l)) rest ∙ sym (field_read (b ∷ bytes) (digit, bytes) (one_field b digit bytes e ended_there) ∙ ap (λ (n : Natural). if_ends n bytes) small ∙ ap (λ (t : Bool). cond t (Some (Small digit, bytes)) None) ended_there)
