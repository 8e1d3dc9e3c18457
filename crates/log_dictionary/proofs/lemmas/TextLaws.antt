-- Texts that bytes open with, and what reading byte by byte gives.
use Rattle.std.proofs.Common.{◌≡◌, ◌⊎◌, inl, inr, ℕ, ◌+◌, ◌*◌, true, false, cond, eqb, List, [], ◌∷◌, ◌++◌, Bool, Option, Some, None, refl, sym, ap, subst, ◌∙◌, append_assoc, append-nil, arith}
use Rattle.std.specs.Char.{digit_value, IsAsciiHexdigit}
use Rattle.std.proofs.lemmas.Bool.{eqb-true}
use Rattle.std.proofs.lemmas.Bool.Decides.{nat_tests}
use Rattle.std.proofs.lemmas.Option.{some_pair_parts}
use Rattle.log_dictionary.specs.Texts.{IsPlain, SpellsByte, SpellsText, OpensText, TextPlace, TextStep, text_step, is_plain, is_hexadecimal, text_from, text_at, with_first_byte}
use Rattle.log_dictionary.specs.Texts.SpellsByte.{itself, quotation_mark, backslash, line_feed, tab, hexadecimal}
use Rattle.log_dictionary.specs.Texts.TextPlace.{outside, behind_backslash, behind_x, behind_digit}
use Rattle.log_dictionary.specs.Texts.TextStep.{ends, goes_on, gives, breaks}
use Rattle.log_dictionary.proofs.TextLemmas.{follow_step, text_nil, with_bytes, with_no_bytes}
use Rattle.log_dictionary.proofs.TextRuns.{plain_step, front_bytes}

-- ---- the tests of bytes

plain_test : (b : ℕ) → IsPlain b → is_plain b ≡ true
plain_test b is = grind (arith, nat_tests)

test_plain : (b : ℕ) → is_plain b ≡ true → IsPlain b
test_plain b is = grind (arith, nat_tests)

hexadecimal_test : (b : ℕ) → IsAsciiHexdigit b → is_hexadecimal b ≡ true
hexadecimal_test b is = grind (arith, nat_tests)

test_hexadecimal : (b : ℕ) → is_hexadecimal b ≡ true → IsAsciiHexdigit b
test_hexadecimal b is = grind (arith, nat_tests)

-- ---- what is spelled is read

byte_read : (unit : List ℕ) (b : ℕ) → SpellsByte unit b → (r : List ℕ) → text_from outside (unit ++ r) ≡ with_first_byte b (text_from outside r)
unfolding text_from
byte_read unit b (itself plain e) r = ap (λ (u : List ℕ). text_from outside (u ++ r)) e ∙ follow_step outside b r (gives b) (plain_step b (plain_test b plain))
byte_read unit b (quotation_mark e is) r = ap (λ (u : List ℕ). text_from outside (u ++ r)) e ∙ ap (λ (n : ℕ). with_first_byte n (text_from outside r)) (sym is)
byte_read unit b (backslash e is) r = ap (λ (u : List ℕ). text_from outside (u ++ r)) e ∙ ap (λ (n : ℕ). with_first_byte n (text_from outside r)) (sym is)
byte_read unit b (line_feed e is) r = ap (λ (u : List ℕ). text_from outside (u ++ r)) e ∙ ap (λ (n : ℕ). with_first_byte n (text_from outside r)) (sym is)
byte_read unit b (tab e is) r = ap (λ (u : List ℕ). text_from outside (u ++ r)) e ∙ ap (λ (n : ℕ). with_first_byte n (text_from outside r)) (sym is)
byte_read unit b (hexadecimal high low h l e is) r =
    let first : text_step behind_x high ≡ goes_on (behind_digit (digit_value high)) = rw (hexadecimal_test high h) refl in
    let second : text_step (behind_digit (digit_value high)) low ≡ gives (16 * digit_value high + digit_value low) = rw (hexadecimal_test low l) refl in
    ap (λ (u : List ℕ). text_from outside (u ++ r)) e
    ∙ follow_step behind_x high (low ∷ r) (goes_on (behind_digit (digit_value high))) first
    ∙ follow_step (behind_digit (digit_value high)) low r (gives (16 * digit_value high + digit_value low)) second
    ∙ ap (λ (n : ℕ). with_first_byte n (text_from outside r)) (sym is)

-- a spelling is read as the bytes that it spells
pub spelled_read : (value spelled : List ℕ) → SpellsText spelled value → (r : List ℕ) → text_from outside (spelled ++ r) ≡ with_bytes value (text_from outside r)
spelled_read [] spelled e r = ap (λ (s : List ℕ). text_from outside (s ++ r)) e ∙ with_no_bytes (text_from outside r)
spelled_read (b ∷ value) spelled (unit, rest, e, byte, text) r =
    ap (λ (s : List ℕ). text_from outside (s ++ r)) e
    ∙ ap (text_from outside) (append_assoc unit rest r)
    ∙ byte_read unit b byte (rest ++ r)
    ∙ ap (with_first_byte b) (spelled_read value rest text r)
    ∙ front_bytes b value (text_from outside r)

-- ---- what is read is spelled

-- the bytes of an escape in front of a place
abbrev IsBehind : TextPlace → List ℕ → Type 0
IsBehind outside behind = behind ≡ []
IsBehind behind_backslash behind = behind ≡ 92 ∷ []
IsBehind behind_x behind = behind ≡ 92 ∷ 120 ∷ []
IsBehind (behind_digit value) behind = (high : ℕ) × IsAsciiHexdigit high × (value ≡ digit_value high) × (behind ≡ 92 ∷ 120 ∷ high ∷ [])

-- what a byte behind these bytes does is what it spells
abbrev Says : List ℕ → ℕ → TextStep → Type 0
Says behind b ends = (behind ≡ []) × (b ≡ 34)
Says behind b (goes_on next) = IsBehind next (behind ++ b ∷ [])
Says behind b (gives byte) = SpellsByte (behind ++ b ∷ []) byte
Says behind b breaks = Unit {0}

says_outside : (behind : List ℕ) (b : ℕ) (mark slash plain : Bool) → behind ≡ [] → (mark ≡ true → b ≡ 34) → (slash ≡ true → b ≡ 92) → (plain ≡ true → IsPlain b) → Says behind b (cond mark ends (cond slash (goes_on behind_backslash) (cond plain (gives b) breaks)))
says_outside behind b true slash plain at m s p = (at, m refl)
says_outside behind b false true plain at m s p = ap (λ (l : List ℕ). l ++ b ∷ []) at ∙ ap (λ (n : ℕ). n ∷ []) (s refl)
says_outside behind b false false true at m s p = itself (p refl) (ap (λ (l : List ℕ). l ++ b ∷ []) at)
says_outside behind b false false false at m s p = tt

two_bytes : (behind : List ℕ) (b c : ℕ) → behind ≡ 92 ∷ [] → b ≡ c → behind ++ b ∷ [] ≡ 92 ∷ c ∷ []
two_bytes behind b c at is = ap (λ (l : List ℕ). l ++ b ∷ []) at ∙ ap (λ (n : ℕ). 92 ∷ n ∷ []) is

says_escape : (behind : List ℕ) (b : ℕ) (mark slash n t x : Bool) → behind ≡ 92 ∷ [] → (mark ≡ true → b ≡ 34) → (slash ≡ true → b ≡ 92) → (n ≡ true → b ≡ 110) → (t ≡ true → b ≡ 116) → (x ≡ true → b ≡ 120)
    → Says behind b (cond mark (gives 34) (cond slash (gives 92) (cond n (gives 10) (cond t (gives 9) (cond x (goes_on behind_x) breaks)))))
says_escape behind b true slash n t x at em es en et ex = quotation_mark (two_bytes behind b 34 at (em refl)) refl
says_escape behind b false true n t x at em es en et ex = backslash (two_bytes behind b 92 at (es refl)) refl
says_escape behind b false false true t x at em es en et ex = line_feed (two_bytes behind b 110 at (en refl)) refl
says_escape behind b false false false true x at em es en et ex = tab (two_bytes behind b 116 at (et refl)) refl
says_escape behind b false false false false true at em es en et ex = two_bytes behind b 120 at (ex refl)
says_escape behind b false false false false false at em es en et ex = tt

says_high : (behind : List ℕ) (b : ℕ) (digit : Bool) → behind ≡ 92 ∷ 120 ∷ [] → (digit ≡ true → IsAsciiHexdigit b) → Says behind b (cond digit (goes_on (behind_digit (digit_value b))) breaks)
says_high behind b true at is = (b, is refl, refl, ap (λ (l : List ℕ). l ++ b ∷ []) at)
says_high behind b false at is = tt

says_low : (behind : List ℕ) (b value high : ℕ) (digit : Bool) → IsAsciiHexdigit high → value ≡ digit_value high → behind ≡ 92 ∷ 120 ∷ high ∷ [] → (digit ≡ true → IsAsciiHexdigit b) → Says behind b (cond digit (gives (16 * value + digit_value b)) breaks)
says_low behind b value high true first same at is = hexadecimal high b first (is refl) (ap (λ (l : List ℕ). l ++ b ∷ []) at) (ap (λ (n : ℕ). 16 * n + digit_value b) same)
says_low behind b value high false first same at is = tt

step_says : (place : TextPlace) (behind : List ℕ) (b : ℕ) → IsBehind place behind → Says behind b (text_step place b)
step_says outside behind b at = says_outside behind b (eqb b 34) (eqb b 92) (is_plain b) at (eqb-true b 34) (eqb-true b 92) (test_plain b)
step_says behind_backslash behind b at = says_escape behind b (eqb b 34) (eqb b 92) (eqb b 110) (eqb b 116) (eqb b 120) at (eqb-true b 34) (eqb-true b 92) (eqb-true b 110) (eqb-true b 116) (eqb-true b 120)
step_says behind_x behind b at = says_high behind b (is_hexadecimal b) at (test_hexadecimal b)
step_says (behind_digit value) behind b (high, first, same, at) = says_low behind b value high (is_hexadecimal b) first same at (test_hexadecimal b)

front_found : (b : ℕ) (text : Option (List ℕ × List ℕ)) (value rest : List ℕ) → ◌≡◌ {A = Option (List ℕ × List ℕ)} (with_first_byte b text) (Some (value, rest)) → (more : List ℕ) × ◌≡◌ {A = Option (List ℕ × List ℕ)} text (Some (more, rest)) × (b ∷ more ≡ value)
front_found b None value rest e = absurd cc
front_found b (Some text) value rest e = let same = some_pair_parts (b ∷ text.0) value text.1 rest e in (text.0, ap (λ (r : List ℕ). Some (text.0, r)) same.1, same.0)

-- bytes up to the closing mark are the spelling of what was read
abbrev Spelled : List ℕ → List ℕ → List ℕ → Type 0
Spelled bytes value rest = (spelled : List ℕ) × (bytes ≡ spelled ++ 34 ∷ rest) × SpellsText spelled value

pub read_spelled : (place : TextPlace) (bytes behind value rest : List ℕ) → IsBehind place behind → ◌≡◌ {A = Option (List ℕ × List ℕ)} (text_from place bytes) (Some (value, rest)) → Spelled (behind ++ bytes) value rest
read_spelled place [] behind value rest at e = let none = text_nil place in absurd cc
read_spelled place (b ∷ bytes) behind value rest at e =
    elim (text_step place b) as (λ s. text_step place b ≡ s → Says behind b s → Spelled (behind ++ b ∷ bytes) value rest) [
      | ends ↦ λ s says. (
          let same = some_pair_parts [] value bytes rest (sym (follow_step place b bytes ends s) ∙ e) in
          ([], ap (λ (l : List ℕ). l ++ b ∷ bytes) says.0 ∙ ap (λ (n : ℕ). n ∷ bytes) says.1 ∙ ap (λ (r : List ℕ). 34 ∷ r) same.1, subst (SpellsText []) same.0 refl)
          )
      | goes_on next ↦ λ s says. (
          let inner = read_spelled next bytes (behind ++ b ∷ []) value rest says (sym (follow_step place b bytes (goes_on next) s) ∙ e) in
          (inner.0, sym (append_assoc behind (b ∷ []) bytes) ∙ inner.1, inner.2)
          )
      | gives byte ↦ λ s says. (
          let found = front_found byte (text_from outside bytes) value rest (sym (follow_step place b bytes (gives byte) s) ∙ e) in
          let inner = read_spelled outside bytes [] found.0 rest refl found.1 in
          let unit : List ℕ = behind ++ b ∷ [] in (
            unit ++ inner.0,
            sym (append_assoc behind (b ∷ []) bytes) ∙ ap (λ (l : List ℕ). unit ++ l) inner.1 ∙ sym (append_assoc unit inner.0 (34 ∷ rest)),
            subst (SpellsText (unit ++ inner.0)) found.2 (unit, inner.0, refl, says, inner.2),
          )
          )
      | breaks ↦ λ s says. let none = follow_step place b bytes breaks s in absurd cc
    ] refl (step_says place behind b at)

-- ---- both ways

-- a text that the bytes open with is read
pub opens_read : (bytes value rest : List ℕ) → OpensText bytes value rest → ◌≡◌ {A = Option (List ℕ × List ℕ)} (text_at bytes) (Some (value, rest))
unfolding text_from
opens_read bytes value rest opens = ap text_at opens.whole ∙ spelled_read value opens.spelled opens.spells (34 ∷ rest) ∙ ap (λ (v : List ℕ). Some (v, rest)) (append-nil value)

chosen : (mark : Bool) (text : Option (List ℕ × List ℕ)) (found : List ℕ × List ℕ) → cond mark text None ≡ Some found → (mark ≡ true) × (text ≡ Some found)
chosen true text found e = (refl, e)
chosen false text found e = absurd cc

-- what is read is a text that the bytes open with
pub read_opens_text : (bytes value rest : List ℕ) → ◌≡◌ {A = Option (List ℕ × List ℕ)} (text_at bytes) (Some (value, rest)) → OpensText bytes value rest
read_opens_text [] value rest e = absurd cc
read_opens_text (b ∷ bytes) value rest e =
    let parts = chosen (eqb b 34) (text_from outside bytes) (value, rest) e in
    let inner = read_spelled outside bytes [] value rest refl parts.1 in
    record { spelled = inner.0; whole = ap (λ (n : ℕ). n ∷ bytes) (eqb-true b 34 parts.0) ∙ ap (λ (l : List ℕ). 34 ∷ l) inner.1; spells = inner.2 }

-- bytes open with one text
pub one_text : (bytes value other rest other_rest : List ℕ) → OpensText bytes value rest → OpensText bytes other other_rest → (value ≡ other) × (rest ≡ other_rest)
one_text bytes value other rest other_rest a b = some_pair_parts value other rest other_rest (sym (opens_read bytes value rest a) ∙ opens_read bytes other other_rest b)

told : (bytes : List ℕ) (text : Option (List ℕ × List ℕ)) → text_at bytes ≡ text → ((value : List ℕ) × (rest : List ℕ) × OpensText bytes value rest) ⊎ ((value rest : List ℕ) → ¬ (OpensText bytes value rest))
told bytes None e = inr (λ value rest opens. let some = opens_read bytes value rest opens in absurd cc)
told bytes (Some text) e = inl (text.0, text.1, read_opens_text bytes text.0 text.1 e)

-- bytes open with a text or with none
pub text_or_none : (bytes : List ℕ) → ((value : List ℕ) × (rest : List ℕ) × OpensText bytes value rest) ⊎ ((value rest : List ℕ) → ¬ (OpensText bytes value rest))
text_or_none bytes = told bytes (text_at bytes) refl
