-- Fields and the numbers that they spell.
use Rattle.std.proofs.Common.{◌≡◌, ℕ, zero, suc, ◌+◌, ◌-◌, ◌*◌, ◌<◌, ◌≤◌, ◌^◌, Bool, true, false, cond, eqb, leb, ltb, not, ◌&&◌, List, [], ◌∷◌, length, get_or, Option, Some, None, refl, sym, ap, subst, ◌∙◌, arith, ℤ, pos, negsuc, eq-eqb, FitsSigned}
use Rattle.std.specs.Int.{w64}
use Rattle.std.specs.Char.{digit_value}
use Rattle.std.specs.Fmt.{decimal, signed_decimal}
use Rattle.std.specs.Str.Parse.{AllDigits, digits_value, digits_value_after}
use Rattle.std.proofs.lemmas.Bool.{and_parts, ltb-true, lt-ltb, cond-true, leb-true, le-leb, ne_eqb, eqb-true}
use Rattle.std.specs.Option.{option_map, IfSome, IfNone}
use Rattle.std.proofs.lemmas.Option.{same_Some}
use Rattle.std.proofs.lemmas.Str.{digit_value_digit}
use Rattle.std.proofs.lemmas.Str.Parse.{digit_from_value, numerals_by_value, tells_digits}
use Rattle.std.proofs.lemmas.Fmt.{decimal_is_IsNumeral, decimal-digits_value, first_decimal, decimal_digit}
use Rattle.log_dictionary.specs.Numbers.{is_digit, number_from, natural_of, negated, integer_of, if_small, if_signed}

-- ---- digits

digit_range : (d : ℕ) → is_digit d ≡ true → (48 ≤ d) × (d ≤ 57)
digit_range d e = let both = and_parts (leb 48 d) (leb d 57) e in (leb-true 48 d both.0, leb-true d 57 both.1)

is_digit_in : (d : ℕ) → 48 ≤ d → d ≤ 57 → is_digit d ≡ true
is_digit_in d low high = rw (le-leb 48 d low, le-leb d 57 high) refl

-- what digits spell behind those of n
spells_after : (t : Bool) (n d m : ℕ) (digits : List ℕ) → cond t (number_from (n * 10 + (d - 48)) digits) None ≡ Some m → (t ≡ true) × (number_from (n * 10 + (d - 48)) digits ≡ Some m)
spells_after true n d m digits e = (refl, e)
spells_after false n d m digits e = absurd cc

pub number_is : (n m : ℕ) (digits : List ℕ) → number_from n digits ≡ Some m → AllDigits 10 digits × (digits_value_after 10 n digits ≡ m)
unfolding number_from
number_is n m [] e = (tt, same_Some n m e)
number_is n m (d ∷ digits) e =
    let here = spells_after (is_digit d) n d m digits e in
    let range = digit_range d here.0 in
    let value = digit_value_digit d (range.0, range.1) in
    let value_is : d - 48 ≡ digit_value d = omega (arith, value, range.0) in
    let rest = number_is (n * 10 + (d - 48)) m digits here.1 in
    ((omega (arith, value, range.1), rest.0), ap (λ (x : ℕ). digits_value_after 10 (n * 10 + x) digits) (sym value_is) ∙ rest.1)

pub digits_are : (n : ℕ) (digits : List ℕ) → AllDigits 10 digits → number_from n digits ≡ Some (digits_value_after 10 n digits)
unfolding number_from
digits_are n [] all = refl
digits_are n (d ∷ digits) all =
    let range = digit_from_value d all.0 in
    let value_is : d - 48 ≡ digit_value d = let value = digit_value_digit d range in omega (arith, value) in
    rw (is_digit_in d range.0 range.1) (ap (λ (x : ℕ). number_from (n * 10 + x) digits) value_is ∙ digits_are (n * 10 + digit_value d) digits all.1)

-- ---- numbers

unchosen : {A : Type 0} (t : Bool) (o : Option A) (n : A) → cond t None o ≡ Some n → (t ≡ false) × (o ≡ Some n)
unchosen true o n e = absurd cc
unchosen false o n e = (refl, e)

alone : (zero last : Bool) → (zero && not last) ≡ false → zero ≡ true → last ≡ true
alone true true e is = refl
alone true false e is = absurd cc
alone false last e is = absurd cc

not_both : (zero last : Bool) → (zero ≡ true → last ≡ true) → (zero && not last) ≡ false
not_both true last is = rw (is refl) refl
not_both false last is = refl

-- digits without a zero in front, or `0`, that spell n
pub record IsNatural (field : List ℕ) (n : ℕ) : Type 0 where
  pub nonempty : 0 < length field
  pub first : get_or field 0 0 ≡ 48 → length field ≡ 1
  pub digits : number_from 0 field ≡ Some n

pub natural_is : (field : List ℕ) (n : ℕ) → natural_of field ≡ Some n → IsNatural field n
natural_is [] n e = absurd cc
natural_is (d ∷ digits) n e =
    let parts = unchosen (eqb d 48 && not (eqb (length digits) 0)) (number_from 0 (d ∷ digits)) n e in
    record {
      nonempty = omega arith;
      first = λ zero. let none = eqb-true (length digits) 0 (alone (eqb d 48) (eqb (length digits) 0) parts.0 (eq-eqb d 48 zero)) in omega (arith, none);
      digits = parts.1;
    }

pub is_natural : (field : List ℕ) (n : ℕ) → IsNatural field n → natural_of field ≡ Some n
is_natural [] n is = absurd (omega (arith, is.nonempty))
is_natural (d ∷ digits) n is =
    let lone : eqb d 48 ≡ true → eqb (length digits) 0 ≡ true = λ zero. (let one = is.first (eqb-true d 48 zero) in eq-eqb (length digits) 0 (omega (arith, one))) in
    rw (not_both (eqb d 48) (eqb (length digits) 0) lone) is.digits

-- a field of a number below 2^64 is its decimal digits
pub natural_decimal : (field : List ℕ) (n : ℕ) → n < 2 ^ 64 → natural_of field ≡ Some n → field ≡ decimal n
natural_decimal field n small e =
    let is = natural_is field n e in
    let all = number_is 0 n field is.digits in
    let fits : digits_value 10 field < 2 ^ 64 = omega (arith, all.1) in
    sym (decimal-digits_value (numerals_by_value (AllDigits 10) tells_digits) field all.0 is.nonempty is.first fits) ∙ ap decimal all.1

decimal_first : (n : ℕ) → n < 2 ^ 64 → get_or (decimal n) 0 0 ≡ 48 → length (decimal n) ≡ 1
decimal_first zero small e = ap length (decimal_digit 0 (omega arith))
decimal_first (suc n) small e = let first = first_decimal (suc n) (omega arith) small in absurd (omega (arith, first, e))

pub decimal_natural : (field : List ℕ) (n : ℕ) → n < 2 ^ 64 → field ≡ decimal n → natural_of field ≡ Some n
decimal_natural field n small e =
    let numeral = decimal_is_IsNumeral n small in
    ap natural_of e ∙ is_natural (decimal n) n (record { nonempty = numeral.0.0; first = decimal_first n small; digits = digits_are 0 (decimal n) numeral.0.1 ∙ ap (λ (m : ℕ). Some m) numeral.1 })

-- ---- numbers that may be below 0

-- a number of less than 2^64 in size
abbrev pub IsShort : ℤ → Type 0
IsShort (pos n) = n < 2 ^ 64
IsShort (negsuc n) = n + 1 < 2 ^ 64

negated_is : (o : Option ℕ) (z : ℤ) → negated o ≡ Some z → (n : ℕ) × (o ≡ Some (suc n)) × (z ≡ negsuc n)
negated_is None z e = absurd cc
negated_is (Some zero) z e = absurd cc
negated_is (Some (suc n)) z e = (n, refl, sym (same_Some (negsuc n) z e))

-- what was made of a number came from one
pub mapped_is : {A : Type 0} (f : ℕ → A) (o : Option ℕ) (x : A) → option_map f o ≡ Some x → (n : ℕ) × (o ≡ Some n) × (x ≡ f n)
mapped_is f None x e = absurd cc
mapped_is f (Some n) x e = (n, refl, sym (same_Some (f n) x e))

integer_at : (t : Bool) (b : ℕ) (field : List ℕ) (z : ℤ) → eqb b 45 ≡ t → IsShort z → cond t (negated (natural_of field)) (option_map pos (natural_of (b ∷ field))) ≡ Some z → b ∷ field ≡ signed_decimal z
integer_at true b field z mark short e =
    let is = negated_is (natural_of field) z e in
    let small : suc is.0 < 2 ^ 64 = let fits = subst IsShort is.2 short in omega (arith, fits) in
    rw is.2 (ap (λ (x : ℕ). x ∷ field) (eqb-true b 45 mark) ∙ ap (λ (l : List ℕ). 45 ∷ l) (natural_decimal field (suc is.0) small is.1))
integer_at false b field z mark short e =
    let is = mapped_is pos (natural_of (b ∷ field)) z e in
    rw is.2 (natural_decimal (b ∷ field) is.0 (subst IsShort is.2 short) is.1)

pub integer_decimal : (field : List ℕ) (z : ℤ) → IsShort z → integer_of field ≡ Some z → field ≡ signed_decimal z
integer_decimal [] z short e = absurd cc
integer_decimal (b ∷ field) z short e = integer_at (eqb b 45) b field z refl short e

positive : (field : List ℕ) (n : ℕ) → natural_of field ≡ Some n → integer_of field ≡ Some (pos n)
positive [] n e = absurd cc
positive (b ∷ field) n e =
    let digit = number_is 0 n (b ∷ field) (natural_is (b ∷ field) n e).digits in
    let range = digit_from_value b digit.0.0 in
    let other : eqb b 45 ≡ false = ne_eqb b 45 (omega (arith, range.0)) in
    rw other (ap (option_map pos) e)

pub decimal_integer : (field : List ℕ) (z : ℤ) → IsShort z → field ≡ signed_decimal z → integer_of field ≡ Some z
decimal_integer field (pos n) short e = positive field n (decimal_natural field n short e)
decimal_integer field (negsuc n) short e = ap integer_of e ∙ ap negated (decimal_natural (decimal (suc n)) (suc n) (omega (arith, short)) refl)

-- ---- what the readers promise

pub small_some : (field : List ℕ) (r : Option ℕ) → r ≡ if_small (natural_of field) → IfSome r (λ n. field ≡ decimal n)
small_some field None e = tt
small_some field (Some n) e = from_natural (natural_of field) refl e where
  by_size : (t : Bool) (m : ℕ) → ltb m (2 ^ 64) ≡ t → natural_of field ≡ Some m → Some n ≡ cond t (Some m) None → field ≡ decimal n
  by_size true m small at e = natural_decimal field m (ltb-true m (2 ^ 64) small) at ∙ ap decimal (sym (same_Some n m e))
  by_size false m small at e = absurd cc

  from_natural : (o : Option ℕ) → natural_of field ≡ o → Some n ≡ if_small o → field ≡ decimal n
  from_natural None at e = absurd cc
  from_natural (Some m) at e = by_size (ltb m (2 ^ 64)) m refl at e

pub small_none : (field : List ℕ) (r : Option ℕ) → r ≡ if_small (natural_of field) → IfNone r ((n : ℕ) → n < 2 ^ 64 → field ≡ decimal n → ⊥)
small_none field (Some n) e = tt
small_none field None e = λ n small is.
    let read : if_small (natural_of field) ≡ cond (ltb n (2 ^ 64)) (Some n) None = ap if_small (decimal_natural field n small is) in
    let found : cond (ltb n (2 ^ 64)) (Some n) None ≡ Some n = cond-true _ _ _ (lt-ltb n (2 ^ 64) small) in
    let wrong = e ∙ read ∙ found in absurd cc

signed_some_at : (field : List ℕ) (z : ℤ) (o : Option ℤ) → integer_of field ≡ o → Some z ≡ if_signed o → field ≡ signed_decimal z
signed_some_at field z None at e = absurd cc
signed_some_at field z (Some (pos n)) at e = by_size (ltb n (2 ^ 63)) refl e where
  by_size : (t : Bool) → ltb n (2 ^ 63) ≡ t → Some z ≡ cond t (Some (pos n)) None → field ≡ signed_decimal z
  by_size true small e = rw (same_Some z (pos n) e) (integer_decimal field (pos n) (let fits = ltb-true n (2 ^ 63) small in omega (arith, fits)) at)
  by_size false small e = absurd cc
signed_some_at field z (Some (negsuc n)) at e = by_size (ltb n (2 ^ 63)) refl e where
  by_size : (t : Bool) → ltb n (2 ^ 63) ≡ t → Some z ≡ cond t (Some (negsuc n)) None → field ≡ signed_decimal z
  by_size true small e = rw (same_Some z (negsuc n) e) (integer_decimal field (negsuc n) (let fits = ltb-true n (2 ^ 63) small in omega (arith, fits)) at)
  by_size false small e = absurd cc

pub signed_some : (field : List ℕ) (r : Option ℤ) → r ≡ if_signed (integer_of field) → IfSome r (λ z. field ≡ signed_decimal z)
signed_some field None e = tt
signed_some field (Some z) e = signed_some_at field z (integer_of field) refl e

pub short_from_fits : (z : ℤ) → FitsSigned w64 z → IsShort z
short_from_fits (pos n) fits = let small = fits.sfits in omega (arith, small)
short_from_fits (negsuc n) fits = let small = fits.sfits in omega (arith, small)

signed_found : (z : ℤ) → FitsSigned w64 z → IsShort z × (if_signed (Some z) ≡ Some z)
signed_found (pos n) fits = let small = fits.sfits in (omega (arith, small), cond-true _ _ _ (lt-ltb n (2 ^ 63) small))
signed_found (negsuc n) fits = let small = fits.sfits in (omega (arith, small), cond-true _ _ _ (lt-ltb n (2 ^ 63) small))

pub signed_none : (field : List ℕ) (r : Option ℤ) → r ≡ if_signed (integer_of field) → IfNone r ((z : ℤ) → FitsSigned w64 z → field ≡ signed_decimal z → ⊥)
signed_none field (Some z) e = tt
signed_none field None e = λ z fits is.
    let found = signed_found z fits in
    let wrong = e ∙ ap if_signed (decimal_integer field z found.0 is) ∙ found.1 in absurd cc
