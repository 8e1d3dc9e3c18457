-- The bytes of each part of a source have tokens, if what stands at the front of its rests has.
use Rattle.std.proofs.Common.{◌≡◌, ℕ, ◌+◌, ◌-◌, ◌<◌, ◌≤◌, List, take, drop, length, sym, subst, ap, ◌∙◌, inl, inr, arith}
use Rattle.std.proofs.lemmas.Bool.{cases_lt}
use Rattle.std.proofs.lemmas.List.{take_all, take-take, drop_all, drop-drop, length-take-le, length-drop}
use Rattle.source_tokens.specs.declared.token.Token.{Token}
use Rattle.source_tokens.specs.Tokens.{Tokens}
use Rattle.source_scan.specs.Texts.{bytes_of}
use Rattle.source_scan.proofs.Fronts.{behind, nothing}

-- so many bytes at the front have tokens
abbrev pub FrontHasTokens : List ℕ → ℕ → Type 0
FrontHasTokens bytes length = (tokens : List Token) × Tokens (take length bytes) tokens

-- the bytes of each part have tokens
abbrev pub HaveTokens : List ℕ → Type 0
HaveTokens source = (part : Token) → (tokens : List Token) × Tokens (bytes_of source part) tokens

-- ---- what stands at the front of bytes

-- the front of a source, and that what is longer has tokens
pub record FrontsTo (source front : List ℕ) : Type 0 where
  pub front_is : front ≡ take (length front) source
  pub within : length front ≤ length source
  pub longer : (n : ℕ) → length front < n → n ≤ length source → FrontHasTokens source n

pub fronts-first : (source : List ℕ) → FrontsTo source source
fronts-first source = record { front_is = sym (take_all (length source) source (omega arith)); within = omega arith; longer = λ n more within. absurd (omega (arith, more, within)) }

-- with a front that has tokens
front-too : (source front : List ℕ) → FrontsTo source front → ((tokens : List Token) × Tokens front tokens) → (n : ℕ) → length front ≤ n → n ≤ length source → FrontHasTokens source n
front-too source front to have n least within =
    elim (cases_lt (length front) n) [
      | inl longer ↦ to.longer n longer within
      | inr most ↦
          let same : length front ≡ n = omega (arith, least, most) in
          (have.0, subst (λ (list : List ℕ). Tokens list have.0) (to.front_is ∙ ap (λ (m : ℕ). take m source) same) have.1)
    ]

pub fronts-shorter : (source front : List ℕ) → 1 ≤ length front → FrontsTo source front → ((tokens : List Token) × Tokens front tokens) → FrontsTo source (take (length front - 1) front)
fronts-shorter source front some to have =
    let shorter : List ℕ = take (length front - 1) front in
    let count : length shorter ≡ length front - 1 = length-take-le (length front - 1) front (omega arith) in
    record {
      front_is = ap (take (length front - 1)) to.front_is ∙ take-take (length front - 1) (length front) source (omega arith) ∙ ap (λ (n : ℕ). take n source) (sym count);
      within = omega (arith, count, to.within);
      longer = λ n more within. front-too source front to have n (omega (arith, count, more, some)) within;
    }

pub fronts-all : (source front : List ℕ) → length front < 1 → FrontsTo source front → ((tokens : List Token) × Tokens front tokens) → (n : ℕ) → FrontHasTokens source n
fronts-all source front none to have n =
    elim (cases_lt (length source) n) [
      | inr within ↦ front-too source front to have n (omega (arith, none)) within
      | inl past ↦
          let whole = front-too source front to have (length source) to.within (omega arith) in
          let same : take (length source) source ≡ take n source = take_all (length source) source (omega arith) ∙ sym (take_all n source (omega (arith, past))) in
          (whole.0, subst (λ (list : List ℕ). Tokens list whole.0) same whole.1)
    ]

-- ---- what stands behind bytes

-- the rest of a source, and that the fronts of longer rests have tokens
pub record RestsTo (source rest : List ℕ) : Type 0 where
  pub rest_is : rest ≡ drop (length source - length rest) source
  pub within : length rest ≤ length source
  pub longer : (start : ℕ) → start + length rest < length source → (n : ℕ) → FrontHasTokens (drop start source) n

pub rests-first : (source : List ℕ) → RestsTo source source
rests-first source =
    let none : length source - length source ≡ 0 = omega arith in
    record { rest_is = sym (ap (λ (n : ℕ). drop n source) none); within = omega arith; longer = λ start more n. absurd (omega (arith, more)) }

-- with a rest whose fronts have tokens
rest-too : (source rest : List ℕ) → RestsTo source rest → ((n : ℕ) → FrontHasTokens rest n) → (start : ℕ) → start + length rest ≤ length source → (n : ℕ) → FrontHasTokens (drop start source) n
rest-too source rest to have start most n =
    elim (cases_lt (start + length rest) (length source)) [
      | inl longer ↦ to.longer start longer n
      | inr least ↦
          let same : length source - length rest ≡ start = omega (arith, most, least) in
          subst (λ (list : List ℕ). FrontHasTokens list n) (to.rest_is ∙ ap (λ (m : ℕ). drop m source) same) (have n)
    ]

behind-drop : (rest : List ℕ) → behind rest ≡ drop 1 rest
behind-drop rest = take_all (length rest - 1) (drop 1 rest) (omega (arith, length-drop 1 rest))

pub rests-shorter : (source rest : List ℕ) → 1 ≤ length rest → RestsTo source rest → ((n : ℕ) → FrontHasTokens rest n) → RestsTo source (behind rest)
rests-shorter source rest some to have =
    let count : length (behind rest) ≡ length rest - 1 = ap length (behind-drop rest) ∙ length-drop 1 rest in
    let place : length source - length rest + 1 ≡ length source - length (behind rest) = omega (arith, count, some, to.within) in
    record {
      rest_is = behind-drop rest ∙ ap (drop 1) to.rest_is ∙ drop-drop 1 (length source - length rest) source ∙ ap (λ (n : ℕ). drop n source) place;
      within = omega (arith, count, to.within);
      longer = λ start more n. rest-too source rest to have start (omega (arith, count, more, some)) n;
    }

pub rests-all : (source rest : List ℕ) → length rest < 1 → RestsTo source rest → ((n : ℕ) → FrontHasTokens rest n) → HaveTokens source
rests-all source rest none to have part =
    elim (cases_lt (length source) part.start) [
      | inr within ↦ rest-too source rest to have part.start (omega (arith, none, within)) (part.end - part.start)
      | inl past ↦
          let same : rest ≡ drop part.start source = nothing rest none ∙ sym (drop_all part.start source (omega (arith, past))) in
          subst (λ (list : List ℕ). FrontHasTokens list (part.end - part.start)) same (have (part.end - part.start))
    ]
