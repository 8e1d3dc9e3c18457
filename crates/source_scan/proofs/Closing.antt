-- The parenthesis that closes, by the numbers of those that are opened and closed.
use Rattle.std.proofs.Common.{◌≡◌, ℕ, zero, suc, ◌+◌, ◌-◌, ◌≤◌, Bool, true, false, cond, ◌&&◌, ◌==◌, List, [], ◌∷◌, take, Option, Some, None, refl, ap, sym, subst, ◌∙◌, inl, inr, arith}
use Rattle.std.specs.Prelude.{count_by}
use Rattle.std.specs.Option.{option_map}
use Rattle.std.proofs.lemmas.Bool.{cases_Bool, and_parts, false≢true, eqb-true}
use Rattle.std.proofs.lemmas.List.Sums.{sum_by-cons}
use Rattle.source_tokens.specs.declared.kind.TokenKind.{TokenKind}
use Rattle.source_tokens.specs.declared.kind.TokenKind.TheVariants.{Punctuator}
use Rattle.source_tokens.specs.declared.token.Token.{Token}
use Rattle.source_scan.specs.Arguments.{is_punctuator, opens_parenthesis, closes_parenthesis, is_bare, depth_behind, closing_from, IsOpenTo}

-- among so many tokens no more parentheses are closed than are opened and were open before them
abbrev IsOpen : ℕ → List Token → ℕ → Type 0
IsOpen depth tokens n = count_by closes_parenthesis (take n tokens) ≤ depth + count_by opens_parenthesis (take n tokens)

-- no token opens and closes
one_byte : (kind : TokenKind) → is_punctuator 40 kind ≡ true → is_punctuator 41 kind ≡ false
one_byte (Punctuator byte) is = let same : byte ≡ 40 = eqb-true byte 40 is in ap (λ (n : ℕ). n == 41) same
one_byte _ is = absurd (false≢true is)

depth_by : (depth : ℕ) (up down : Bool) → (up ≡ true → down ≡ false) → (down && depth == 0) ≡ false → cond up (suc depth) (cond down (depth - 1) depth) + cond down 1 0 ≡ depth + cond up 1 0
depth_by depth true true apart bare = absurd (false≢true (sym (apart refl)))
depth_by depth true false apart bare = omega arith
depth_by zero false true apart bare = absurd (false≢true (sym bare))
depth_by (suc depth) false true apart bare = omega arith
depth_by depth false false apart bare = omega arith

-- the depth behind a token that closes nothing from before
depth_step : (depth : ℕ) (token : Token) → is_bare 41 depth token ≡ false → depth_behind depth token + cond (closes_parenthesis token) 1 0 ≡ depth + cond (opens_parenthesis token) 1 0
depth_step depth token bare = depth_by depth (opens_parenthesis token) (closes_parenthesis token) (one_byte token.kind) bare

counted : (test : Token → Bool) (token : Token) (tokens : List Token) → count_by test (token ∷ tokens) ≡ cond (test token) 1 0 + count_by test tokens
counted test token tokens = sum_by-cons (λ (one : Token). cond (test one) 1 0) token tokens

-- what closes at depth 0 opens nothing
closes_alone : (depth : ℕ) (token : Token) → is_bare 41 depth token ≡ true → (depth ≡ 0) × ◌≡◌ {A = ℕ} (cond (closes_parenthesis token) 1 0) 1 × ◌≡◌ {A = ℕ} (cond (opens_parenthesis token) 1 0) 0
closes_alone depth token bare =
    let parts = and_parts (closes_parenthesis token) (depth == 0) bare in (
      eqb-true depth 0 parts.1,
      ap (λ (b : Bool). cond b 1 0) parts.0,
      elim (cases_Bool (opens_parenthesis token)) [
        | inl up ↦ absurd (false≢true (sym (one_byte token.kind up) ∙ parts.0))
        | inr none ↦ ap (λ (b : Bool). cond b 1 0) none
      ],
    )

-- what is said of the tokens by the place where their parenthesis closes
abbrev Closing : ℕ → List Token → Option ℕ → Type 0
Closing depth tokens None = (n : ℕ) → IsOpen depth tokens n
Closing depth tokens (Some place) =
    ((n : ℕ) → n ≤ place → IsOpen depth tokens n) × (count_by closes_parenthesis (take (suc place) tokens) ≡ suc (depth + count_by opens_parenthesis (take (suc place) tokens)))

open_more : (depth : ℕ) (token : Token) (tokens : List Token) (n : ℕ) → is_bare 41 depth token ≡ false → IsOpen (depth_behind depth token) tokens n → IsOpen depth (token ∷ tokens) (suc n)
open_more depth token tokens n bare later = omega (arith, later, depth_step depth token bare, counted closes_parenthesis token (take n tokens), counted opens_parenthesis token (take n tokens))

closing_step : (depth : ℕ) (token : Token) (tokens : List Token) (here : Bool) (later : Option ℕ) → is_bare 41 depth token ≡ here → Closing (depth_behind depth token) tokens later → Closing depth (token ∷ tokens) (cond here (Some 0) (option_map suc later))
closing_step depth token tokens true later bare closing =
    let alone = closes_alone depth token bare in
    (first, omega (arith, alone.0, alone.1, alone.2))
  where
    first : (n : ℕ) → n ≤ 0 → IsOpen depth (token ∷ tokens) n
    first zero within = omega arith
    first (suc n) within = absurd (omega (arith, within))
closing_step depth token tokens false None bare closing = each
  where
    each : (n : ℕ) → IsOpen depth (token ∷ tokens) n
    each zero = omega arith
    each (suc n) = open_more depth token tokens n bare (closing n)
closing_step depth token tokens false (Some place) bare closing =
    (each, omega (arith, closing.1, depth_step depth token bare, counted closes_parenthesis token (take (suc place) tokens), counted opens_parenthesis token (take (suc place) tokens)))
  where
    each : (n : ℕ) → n ≤ suc place → IsOpen depth (token ∷ tokens) n
    each zero within = omega arith
    each (suc n) within = open_more depth token tokens n bare (closing.0 n (omega (arith, within)))

closing : (depth : ℕ) (tokens : List Token) → Closing depth tokens (closing_from depth tokens)
unfolding closing_from
closing depth [] = none
  where
    none : (n : ℕ) → IsOpen depth [] n
    none zero = omega arith
    none (suc n) = omega arith
closing depth (token ∷ tokens) = closing_step depth token tokens (is_bare 41 depth token) (closing_from (depth_behind depth token) tokens) refl (closing (depth_behind depth token) tokens)

pub open_all : (tokens : List Token) → closing_from 0 tokens ≡ None → (n : ℕ) → IsOpenTo tokens n
open_all tokens none n = let open_to = subst (Closing 0 tokens) none (closing 0 tokens) in omega (arith, open_to n)

pub closes_first : (tokens : List Token) (place : ℕ) → closing_from 0 tokens ≡ Some place → ((n : ℕ) → n ≤ place → IsOpenTo tokens n) × ¬ (IsOpenTo tokens (suc place))
closes_first tokens place is =
    let at = subst (Closing 0 tokens) is (closing 0 tokens) in
    (λ n within. omega (arith, at.0 n within), λ more. omega (arith, at.1, more))
