-- Parentheses and commas, passed one by one.
use Rattle.std.proofs.Common.{◌≡◌, ℕ, suc, ◌+◌, ◌<◌, ◌≤◌, Bool, true, false, if◌then◌else◌, List, [], ◌∷◌, ◌++◌, length, take, drop, get_or, Option, Some, None, refl, sym, ap, ◌∙◌, append_assoc, arith, ◌==◌}
use Rattle.std.specs.Option.{option_map}
use Rattle.std.proofs.lemmas.Bool.{and_parts, eqb-true}
use Rattle.std.proofs.lemmas.List.{take_more, drop_more, drop_all, take_all, append-nil}
use Rattle.source_tokens.specs.declared.token.Token.{Token}
use Rattle.source_scan.specs.Arguments.{is_mark, is_bare, depth_behind, closing_from, onto_first, parted_from}

-- ---- the closing parenthesis

pub closing-none : (depth : ℕ) (tokens : List Token) (i : ℕ) → length tokens ≤ i → closing_from depth (drop i tokens) ≡ None
unfolding closing_from
closing-none depth tokens i past = ap (closing_from depth) (drop_all i tokens past)

pub closing-here : (depth : ℕ) (tokens : List Token) (i : ℕ) (d : Token) → i < length tokens → is_bare 41 depth (get_or tokens i d) ≡ true → closing_from depth (drop i tokens) ≡ Some 0
unfolding closing_from
closing-here depth tokens i d within here = rw (drop_more tokens i d within, here) refl

pub closing-more : (depth : ℕ) (tokens : List Token) (i : ℕ) (d : Token) → i < length tokens → is_bare 41 depth (get_or tokens i d) ≡ false
    → closing_from depth (drop i tokens) ≡ option_map suc (closing_from (depth_behind depth (get_or tokens i d)) (drop (i + 1) tokens))
unfolding closing_from
closing-more depth tokens i d within here = rw (drop_more tokens i d within, here) refl

-- the parenthesis closes what was opened before all tokens
pub closing-found : (tokens : List Token) (i depth : ℕ) (d : Token) → i < length tokens → closing_from 0 tokens ≡ option_map (λ n. i + n) (closing_from depth (drop i tokens)) → is_bare 41 depth (get_or tokens i d) ≡ true → Some i ≡ closing_from 0 tokens
closing-found tokens i depth d within goes here =
    let place : i + 0 ≡ i = omega arith in
    sym (goes ∙ ap (option_map (λ n. i + n)) (closing-here depth tokens i d within here) ∙ ap Some place)

option_map-suc : (i : ℕ) (place : Option ℕ) → option_map (λ n. i + n) (option_map suc place) ≡ option_map (λ n. (i + 1) + n) place
option_map-suc i None = refl
option_map-suc i (Some n) =
    let sum : i + suc n ≡ (i + 1) + n = omega arith in
    ap Some sum

-- a token was passed
pub closing-passed : (tokens : List Token) (i depth : ℕ) (d : Token) → i < length tokens → closing_from 0 tokens ≡ option_map (λ n. i + n) (closing_from depth (drop i tokens)) → is_bare 41 depth (get_or tokens i d) ≡ false
    → closing_from 0 tokens ≡ option_map (λ n. (i + 1) + n) (closing_from (depth_behind depth (get_or tokens i d)) (drop (i + 1) tokens))
closing-passed tokens i depth d within goes here = goes ∙ ap (option_map (λ n. i + n)) (closing-more depth tokens i d within here) ∙ option_map-suc i (closing_from (depth_behind depth (get_or tokens i d)) (drop (i + 1) tokens))

-- all tokens were passed
pub closing-missing : (tokens : List Token) (i depth : ℕ) → length tokens ≤ i → closing_from 0 tokens ≡ option_map (λ n. i + n) (closing_from depth (drop i tokens)) → None ≡ closing_from 0 tokens
closing-missing tokens i depth past goes = sym (goes ∙ ap (option_map (λ n. i + n)) (closing-none depth tokens i past))

-- ---- commas

-- these lists with more tokens in front of the first
abbrev pub onto_front : List Token → List (List Token) → List (List Token)
onto_front front [] = []
onto_front front (first ∷ others) = (front ++ first) ∷ others

pub length-onto_first : (token : Token) (lists : List (List Token)) → length (onto_first token lists) ≡ length lists
length-onto_first token [] = refl
length-onto_first token (first ∷ others) = refl

pub onto_front-first : (front : List Token) (token : Token) (lists : List (List Token)) → onto_front front (onto_first token lists) ≡ onto_front (front ++ token ∷ []) lists
onto_front-first front token [] = refl
onto_front-first front token (first ∷ others) = ap (λ (list : List Token). list ∷ others) (sym (append_assoc front (token ∷ []) first))

pub parted-none : (depth : ℕ) (tokens : List Token) (i : ℕ) → length tokens ≤ i → parted_from depth (drop i tokens) ≡ [] ∷ []
unfolding parted_from
parted-none depth tokens i past = ap (parted_from depth) (drop_all i tokens past)

pub parted-here : (depth : ℕ) (tokens : List Token) (i : ℕ) (d : Token) → i < length tokens → is_bare 44 depth (get_or tokens i d) ≡ true → parted_from depth (drop i tokens) ≡ [] ∷ parted_from 0 (drop (i + 1) tokens)
unfolding parted_from
parted-here depth tokens i d within here = rw (drop_more tokens i d within, here) refl

pub parted-more : (depth : ℕ) (tokens : List Token) (i : ℕ) (d : Token) → i < length tokens → is_bare 44 depth (get_or tokens i d) ≡ false
    → parted_from depth (drop i tokens) ≡ onto_first (get_or tokens i d) (parted_from (depth_behind depth (get_or tokens i d)) (drop (i + 1) tokens))
unfolding parted_from
parted-more depth tokens i d within here = rw (drop_more tokens i d within, here) refl

-- the comma ends the first argument
pub parted-found : (tokens : List Token) (i depth : ℕ) (d : Token) → i < length tokens → parted_from 0 tokens ≡ onto_front (take i tokens) (parted_from depth (drop i tokens)) → is_bare 44 depth (get_or tokens i d) ≡ true
    → parted_from 0 tokens ≡ take i tokens ∷ parted_from 0 (drop (i + 1) tokens)
parted-found tokens i depth d within goes here =
    goes ∙ ap (onto_front (take i tokens)) (parted-here depth tokens i d within here) ∙ ap (λ (first : List Token). first ∷ parted_from 0 (drop (i + 1) tokens)) (append-nil (take i tokens))

-- a token was passed
pub parted-passed : (tokens : List Token) (i depth : ℕ) (d : Token) → i < length tokens → parted_from 0 tokens ≡ onto_front (take i tokens) (parted_from depth (drop i tokens)) → is_bare 44 depth (get_or tokens i d) ≡ false
    → parted_from 0 tokens ≡ onto_front (take (i + 1) tokens) (parted_from (depth_behind depth (get_or tokens i d)) (drop (i + 1) tokens))
parted-passed tokens i depth d within goes here =
    let others = parted_from (depth_behind depth (get_or tokens i d)) (drop (i + 1) tokens) in
    goes ∙ ap (onto_front (take i tokens)) (parted-more depth tokens i d within here) ∙ onto_front-first (take i tokens) (get_or tokens i d) others ∙ ap (λ (front : List Token). onto_front front others) (sym (take_more tokens i d within))

-- all tokens were passed
pub parted-whole : (tokens : List Token) (i depth : ℕ) → length tokens ≤ i → parted_from 0 tokens ≡ onto_front (take i tokens) (parted_from depth (drop i tokens)) → parted_from 0 tokens ≡ tokens ∷ []
parted-whole tokens i depth past goes =
    goes ∙ ap (onto_front (take i tokens)) (parted-none depth tokens i past) ∙ ap (λ (first : List Token). first ∷ []) (append-nil (take i tokens) ∙ take_all i tokens past)

-- a comma counts
pub count-here : (tokens : List Token) (i depth : ℕ) (d : Token) → i < length tokens → is_bare 44 depth (get_or tokens i d) ≡ true
    → length (parted_from depth (drop i tokens)) ≡ 1 + length (parted_from depth (drop (i + 1) tokens))
count-here tokens i depth d within here =
    let none : depth ≡ 0 = eqb-true depth 0 (and_parts (is_mark 44 (get_or tokens i d)) (depth == 0) here).1 in
    let parted = ap length (parted-here depth tokens i d within here) in
    let same : parted_from 0 (drop (i + 1) tokens) ≡ parted_from depth (drop (i + 1) tokens) = ap (λ (n : ℕ). parted_from n (drop (i + 1) tokens)) (sym none) in
    omega (arith, parted, ap length same)

-- any other token doesn't
pub count-more : (tokens : List Token) (i depth : ℕ) (d : Token) → i < length tokens → is_bare 44 depth (get_or tokens i d) ≡ false
    → length (parted_from depth (drop i tokens)) ≡ length (parted_from (depth_behind depth (get_or tokens i d)) (drop (i + 1) tokens))
count-more tokens i depth d within here =
    ap length (parted-more depth tokens i d within here) ∙ length-onto_first (get_or tokens i d) (parted_from (depth_behind depth (get_or tokens i d)) (drop (i + 1) tokens))

-- there is at most one argument more than tokens
pub parted-length : (depth : ℕ) (tokens : List Token) → length (parted_from depth tokens) ≤ length tokens + 1
unfolding parted_from
parted-length depth [] = omega arith
parted-length depth (token ∷ tokens) =
    let later : List (List Token) = parted_from (depth_behind depth token) tokens in
    elim (is_bare 44 depth token) as (λ (b : Bool). length (if b then [] ∷ parted_from 0 tokens else onto_first token later) ≤ length (token ∷ tokens) + 1) [
      | true ↦ omega (arith, parted-length 0 tokens)
      | false ↦ omega (arith, length-onto_first token later, parted-length (depth_behind depth token) tokens)
    ]
