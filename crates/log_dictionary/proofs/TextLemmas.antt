-- Texts that are read byte by byte.
use Rattle.std.proofs.Common.{◌≡◌, ◌≢◌, ℕ, ◌+◌, ◌*◌, ◌≤◌, ◌<◌, true, false, cond, eqb, List, [], ◌∷◌, ◌++◌, length, Bool, Option, Some, None, refl, sym, ap, ◌∙◌, append_assoc, append-nil, arith, length-append}
use Rattle.std.specs.Char.{digit_value}
use Rattle.std.proofs.lemmas.Bool.{eqb-true, false≢true}
use Rattle.std.proofs.lemmas.Option.{some_pair_parts}
use Rattle.log_dictionary.specs.Texts.{TextPlace, TextStep, text_step, is_plain, is_hexadecimal, unit_from, text_from, with_first_byte, unescaped, has_nul, IsSpelled}
use Rattle.log_dictionary.specs.Texts.TextPlace.{outside, behind_backslash, behind_x, behind_digit}
use Rattle.log_dictionary.specs.Texts.TextStep.{ends, goes_on, gives, breaks}

-- ---- one step

-- what unit_from gives behind a byte that does this
abbrev unit_follow : TextStep → List ℕ → Option (ℕ × List ℕ)
unit_follow ends bytes = None
unit_follow (goes_on next) bytes = unit_from next bytes
unit_follow (gives byte) bytes = Some (byte, bytes)
unit_follow breaks bytes = None

pub unit_step : (place : TextPlace) (b : ℕ) (bytes : List ℕ) (step : TextStep) → text_step place b ≡ step → unit_from place (b ∷ bytes) ≡ unit_follow step bytes
unfolding unit_from
unit_step place b bytes ends e = rw (e, unit_from) refl
unit_step place b bytes (goes_on next) e = rw (e, unit_from) refl
unit_step place b bytes (gives byte) e = rw (e, unit_from) refl
unit_step place b bytes breaks e = rw (e, unit_from) refl

-- what text_from gives behind a byte that does this
abbrev text_follow : TextStep → List ℕ → Option (List ℕ × List ℕ)
text_follow ends bytes = Some ([], bytes)
text_follow (goes_on next) bytes = text_from next bytes
text_follow (gives byte) bytes = with_first_byte byte (text_from outside bytes)
text_follow breaks bytes = None

pub follow_step : (place : TextPlace) (b : ℕ) (bytes : List ℕ) (step : TextStep) → text_step place b ≡ step → text_from place (b ∷ bytes) ≡ text_follow step bytes
unfolding text_from
follow_step place b bytes ends e = rw (e, text_from) refl
follow_step place b bytes (goes_on next) e = rw (e, text_from) refl
follow_step place b bytes (gives byte) e = rw (e, text_from) refl
follow_step place b bytes breaks e = rw (e, text_from) refl

pub unit_nil : (place : TextPlace) → unit_from place [] ≡ None
unfolding unit_from
unit_nil place = refl

pub text_nil : (place : TextPlace) → text_from place [] ≡ None
unfolding text_from
text_nil place = refl

-- ---- the spelling of one byte

-- the bytes begin with the spelling of one byte
pub record IsUnit (place : TextPlace) (bytes : List ℕ) (byte : ℕ) (rest : List ℕ) : Type 0 where
  pub unit : List ℕ
  pub joined : bytes ≡ unit ++ rest
  pub nonempty : 1 ≤ length unit
  pub goes : (r : List ℕ) → text_from place (unit ++ r) ≡ with_first_byte byte (text_from outside r)

pub unit_is : (place : TextPlace) (bytes : List ℕ) (byte : ℕ) (rest : List ℕ) → unit_from place bytes ≡ Some (byte, rest) → IsUnit place bytes byte rest
unit_is place [] byte rest e = let none = unit_nil place in absurd cc
unit_is place (b ∷ bytes) byte rest e =
    elim (text_step place b) as (λ s. text_step place b ≡ s → IsUnit place (b ∷ bytes) byte rest) [
      | ends ↦ λ s. let none = unit_step place b bytes ends s in absurd cc
      | goes_on next ↦ λ s. (
          let inner = unit_is next bytes byte rest (sym (unit_step place b bytes (goes_on next) s) ∙ e) in
          record {
            unit = b ∷ inner.unit;
            joined = ap (λ (l : List ℕ). b ∷ l) inner.joined;
            nonempty = omega arith;
            goes = λ r. follow_step place b (inner.unit ++ r) (goes_on next) s ∙ inner.goes r;
          }
          )
      | gives given ↦ λ s. (
          let same = some_pair_parts given byte bytes rest (sym (unit_step place b bytes (gives given) s) ∙ e) in
          record {
            unit = b ∷ [];
            joined = ap (λ (l : List ℕ). b ∷ l) same.1;
            nonempty = omega arith;
            goes = λ r. follow_step place b r (gives given) s ∙ ap (λ (n : ℕ). with_first_byte n (text_from outside r)) same.0;
          }
          )
      | breaks ↦ λ s. let none = unit_step place b bytes breaks s in absurd cc
    ] refl

-- ---- a front of a text's spelling

-- a text with these bytes in front
abbrev pub with_bytes : List ℕ → Option (List ℕ × List ℕ) → Option (List ℕ × List ℕ)
with_bytes value None = None
with_bytes value (Some text) = Some (value ++ text.0, text.1)

with_bytes_push : (value : List ℕ) (b : ℕ) (text : Option (List ℕ × List ℕ)) → with_bytes value (with_first_byte b text) ≡ with_bytes (value ++ b ∷ []) text
with_bytes_push value b None = refl
with_bytes_push value b (Some text) = ap (λ (v : List ℕ). Some (v, text.1)) (sym (append_assoc value (b ∷ []) text.0))

pub with_no_bytes : (text : Option (List ℕ × List ℕ)) → text ≡ with_bytes [] text
with_no_bytes None = refl
with_no_bytes (Some text) = refl

-- what stands before the rest spells this value
pub record IsWalked (body rest value : List ℕ) : Type 0 where
  pub front : List ℕ
  pub joined : body ≡ front ++ rest
  pub goes : (r : List ℕ) → text_from outside (front ++ r) ≡ with_bytes value (text_from outside r)

pub walk_begins : (body : List ℕ) → IsWalked body body []
walk_begins body = record { front = []; joined = refl; goes = λ r. with_no_bytes (text_from outside r) }

pub walk_goes_on : (body rest value after : List ℕ) (byte : ℕ) → IsWalked body rest value → unit_from outside rest ≡ Some (byte, after) → IsWalked body after (value ++ byte ∷ [])
walk_goes_on body rest value after byte walked e =
    let unit = unit_is outside rest byte after e in
    record {
      front = walked.front ++ unit.unit;
      joined = walked.joined ∙ ap (λ (l : List ℕ). walked.front ++ l) unit.joined ∙ sym (append_assoc walked.front unit.unit after);
      goes = λ r. ap (text_from outside) (append_assoc walked.front unit.unit r) ∙ walked.goes (unit.unit ++ r) ∙ ap (with_bytes value) (unit.goes r) ∙ with_bytes_push value byte (text_from outside r);
    }

-- the rest is shorter behind a byte
pub unit_shorter : (rest after : List ℕ) (byte : ℕ) → unit_from outside rest ≡ Some (byte, after) → length after < length rest
unit_shorter rest after byte e =
    let unit = unit_is outside rest byte after e in
    omega (arith, ap length unit.joined, length-append unit.unit after, unit.nonempty)

-- ---- where no byte is spelled

-- a place is outside of escapes
abbrev is_outside : TextPlace → Bool
is_outside outside = true
is_outside behind_backslash = false
is_outside behind_x = false
is_outside (behind_digit high) = false

-- only a closing mark outside of escapes ends a text
abbrev EndsOutside : TextPlace → ℕ → TextStep → Type 0
EndsOutside place b ends = (is_outside place ≡ true) × (b ≡ 34)
EndsOutside place b (goes_on next) = is_outside next ≡ false
EndsOutside place b (gives byte) = Unit {0}
EndsOutside place b breaks = Unit {0}

ends_outside : (b : ℕ) (mark slash plain : Bool) → (mark ≡ true → b ≡ 34) → EndsOutside outside b (cond mark ends (cond slash (goes_on behind_backslash) (cond plain (gives b) breaks)))
ends_outside b true slash plain is = (refl, is refl)
ends_outside b false true plain is = refl
ends_outside b false false true is = tt
ends_outside b false false false is = tt

ends_behind_backslash : (b : ℕ) (mark slash n t x : Bool) → EndsOutside behind_backslash b (cond mark (gives 34) (cond slash (gives 92) (cond n (gives 10) (cond t (gives 9) (cond x (goes_on behind_x) breaks)))))
ends_behind_backslash b true slash n t x = tt
ends_behind_backslash b false true n t x = tt
ends_behind_backslash b false false true t x = tt
ends_behind_backslash b false false false true x = tt
ends_behind_backslash b false false false false true = refl
ends_behind_backslash b false false false false false = tt

ends_behind_x : (b value : ℕ) (digit : Bool) → EndsOutside behind_x b (cond digit (goes_on (behind_digit value)) breaks)
ends_behind_x b value true = refl
ends_behind_x b value false = tt

ends_behind_digit : (b high value : ℕ) (digit : Bool) → EndsOutside (behind_digit high) b (cond digit (gives value) breaks)
ends_behind_digit b high value true = tt
ends_behind_digit b high value false = tt

step_ends : (place : TextPlace) (b : ℕ) → EndsOutside place b (text_step place b)
step_ends outside b = ends_outside b (eqb b 34) (eqb b 92) (is_plain b) (eqb-true b 34)
step_ends behind_backslash b = ends_behind_backslash b (eqb b 34) (eqb b 92) (eqb b 110) (eqb b 116) (eqb b 120)
step_ends behind_x b = ends_behind_x b (digit_value b) (is_hexadecimal b)
step_ends (behind_digit high) b = ends_behind_digit b high (16 * high + digit_value b) (is_hexadecimal b)

-- where no byte is spelled and no closing mark stands there is no text
pub no_text : (place : TextPlace) (bytes : List ℕ) → unit_from place bytes ≡ None → (is_outside place ≡ true → (after : List ℕ) → bytes ≢ 34 ∷ after) → text_from place bytes ≡ None
no_text place [] e unmarked = text_nil place
no_text place (b ∷ bytes) e unmarked =
    elim (text_step place b) as (λ s. text_step place b ≡ s → EndsOutside place b s → text_from place (b ∷ bytes) ≡ None) [
      | ends ↦ λ s end. absurd (unmarked end.0 bytes (ap (λ (n : ℕ). n ∷ bytes) end.1))
      | goes_on next ↦ λ s inside. follow_step place b bytes (goes_on next) s ∙ no_text next bytes (sym (unit_step place b bytes (goes_on next) s) ∙ e) (λ out. absurd (false≢true (sym inside ∙ out)))
      | gives byte ↦ λ s _. let some = unit_step place b bytes (gives byte) s in absurd cc
      | breaks ↦ λ s _. follow_step place b bytes breaks s
    ] refl (step_ends place b)

closed_here : (place : TextPlace) (value : List ℕ) → ◌≡◌ {A = Option (List ℕ × List ℕ)} (text_from place (34 ∷ [])) (Some (value, [])) → [] ≡ value
unfolding text_from
closed_here outside value e = (some_pair_parts [] value [] [] e).0
closed_here behind_backslash value e = absurd cc
closed_here behind_x value e = absurd cc
closed_here (behind_digit high) value e = absurd cc

-- where no byte is spelled, and a closing mark ends the whole, nothing more is said
pub nothing_more : (place : TextPlace) (bytes value : List ℕ) → unit_from place bytes ≡ None → ◌≡◌ {A = Option (List ℕ × List ℕ)} (text_from place (bytes ++ 34 ∷ [])) (Some (value, [])) → [] ≡ value
nothing_more place [] value none e = closed_here place value e
nothing_more place (b ∷ bytes) value none e =
    elim (text_step place b) as (λ s. text_step place b ≡ s → [] ≡ value) [
      | ends ↦ λ s. (some_pair_parts [] value (bytes ++ 34 ∷ []) [] (sym (follow_step place b (bytes ++ 34 ∷ []) ends s) ∙ e)).0
      | goes_on next ↦ λ s. nothing_more next bytes value (sym (unit_step place b bytes (goes_on next) s) ∙ none) (sym (follow_step place b (bytes ++ 34 ∷ []) (goes_on next) s) ∙ e)
      | gives byte ↦ λ s. let some = unit_step place b bytes (gives byte) s in absurd cc
      | breaks ↦ λ s. let text = follow_step place b (bytes ++ 34 ∷ []) breaks s in absurd cc
    ] refl

-- ---- what was read

value_of_walk : (front value : List ℕ) → text_from outside (front ++ 34 ∷ []) ≡ with_bytes value (text_from outside (34 ∷ [])) → ◌≡◌ {A = Option (List ℕ × List ℕ)} (text_from outside (front ++ 34 ∷ [])) (Some (value, []))
unfolding text_from
value_of_walk front value e = e ∙ ap (λ (v : List ℕ). Some (v, [])) (append-nil value)

-- a front that was walked is the spelling of its value
pub walk_spells : (body rest value : List ℕ) (walked : IsWalked body rest value) → unescaped walked.front ≡ value
walk_spells body rest value walked = let whole = value_of_walk walked.front value (walked.goes (34 ∷ [])) in rw whole refl

pub walk_is_spelled : (body rest value : List ℕ) (walked : IsWalked body rest value) → IsSpelled walked.front (length value) (has_nul value)
walk_is_spelled body rest value walked =
    let same = walk_spells body rest value walked in
    record {
      whole = value_of_walk walked.front value (walked.goes (34 ∷ [])) ∙ ap (λ (v : List ℕ). Some (v, [])) (sym same);
      len_is = ap length (sym same);
      nul_is = ap has_nul (sym same);
    }

-- the text that a walk up to a closing mark found
pub walk_opens : (body after value : List ℕ) → IsWalked body (34 ∷ after) value → ◌≡◌ {A = Option (List ℕ × List ℕ)} (text_from outside body) (Some (value, after))
unfolding text_from
walk_opens body after value walked = ap (text_from outside) walked.joined ∙ walked.goes (34 ∷ after) ∙ ap (λ (v : List ℕ). Some (v, after)) (append-nil value)

-- a walk that stops where no closing mark stands found no text
pub walk_breaks : (body rest value : List ℕ) → IsWalked body rest value → unit_from outside rest ≡ None → ((after : List ℕ) → rest ≢ 34 ∷ after) → text_from outside body ≡ None
walk_breaks body rest value walked none unmarked = ap (text_from outside) walked.joined ∙ walked.goes rest ∙ ap (with_bytes value) (no_text outside rest none (λ _. unmarked))

-- a walk over a whole spelling gives all that it stands for
pub walk_ends : (spelled rest value : List ℕ) → ◌≡◌ {A = Option (List ℕ × List ℕ)} (text_from outside (spelled ++ 34 ∷ [])) (Some (unescaped spelled, [])) → IsWalked spelled rest value → unit_from outside rest ≡ None → value ≡ unescaped spelled
walk_ends spelled rest value whole walked none = more (text_from outside (rest ++ 34 ∷ [])) refl (sym (walked.goes (rest ++ 34 ∷ [])) ∙ ap (text_from outside) (sym (append_assoc walked.front rest (34 ∷ [])) ∙ ap (λ (l : List ℕ). l ++ 34 ∷ []) (sym walked.joined)) ∙ whole) where
  more : (text : Option (List ℕ × List ℕ)) → text_from outside (rest ++ 34 ∷ []) ≡ text → ◌≡◌ {A = Option (List ℕ × List ℕ)} (with_bytes value text) (Some (unescaped spelled, [])) → value ≡ unescaped spelled
  more None at e = absurd cc
  more (Some text) at e =
      let same = some_pair_parts (value ++ text.0) (unescaped spelled) text.1 [] e in
      let last : [] ≡ text.0 = nothing_more outside rest text.0 none (at ∙ ap (λ (r : List ℕ). Some (text.0, r)) same.1) in
      sym (append-nil value) ∙ ap (λ (l : List ℕ). value ++ l) last ∙ same.0

-- ---- digits

one_digit : (value : ℕ) (digit : Bool) → unit_follow (cond digit (goes_on (behind_digit value)) breaks) [] ≡ None
one_digit value true = unit_nil (behind_digit value)
one_digit value false = refl

-- fewer than two digits spell no byte
pub too_short : (bytes : List ℕ) → length bytes < 2 → unit_from behind_x bytes ≡ None
too_short [] h = unit_nil behind_x
too_short (b ∷ []) h = unit_step behind_x b [] (text_step behind_x b) refl ∙ one_digit (digit_value b) (is_hexadecimal b)
too_short (b ∷ c ∷ bytes) h = absurd (omega (arith, h))
