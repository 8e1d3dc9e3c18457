-- Where the heads of statements end.
use Rattle.std.proofs.Common.{◌≡◌, ℕ, suc, ◌+◌, ◌<◌, ◌≤◌, Bool, true, false, cond, List, [], ◌∷◌, length, drop, get_or, refl, subst, ap, arith}
use Rattle.std.specs.Prelude.{◌==◌}
use Rattle.std.proofs.lemmas.Bool.{and_parts}
use Rattle.source_tokens.specs.declared.token.Token.{Token}
use Rattle.source_scan.specs.Arguments.{is_mark, is_bare, depth_behind, onto_first, parted_from, head_length, first_argument}

-- at the place stands the comma before these arguments, or no token where there are none of them
abbrev Stops : List Token → ℕ → List (List Token) → Type 0
Stops tokens place [] = place ≡ length tokens
Stops tokens place (argument ∷ others) = (place < length tokens) × ((d : Token) → is_mark 44 (get_or tokens place d) ≡ true)

stops_later : (token : Token) (tokens : List Token) (place : ℕ) (lists : List (List Token)) → Stops tokens place lists → Stops (token ∷ tokens) (suc place) lists
stops_later token tokens place [] stops = ap suc stops
stops_later token tokens place (argument ∷ others) stops = (omega (arith, stops.0), stops.1)

stops_within : (tokens : List Token) (place : ℕ) (lists : List (List Token)) → Stops tokens place lists → place ≤ length tokens
stops_within tokens place [] stops = omega (arith, stops)
stops_within tokens place (argument ∷ others) stops = omega (arith, stops.0)

some_argument : (depth : ℕ) (tokens : List Token) → 1 ≤ length (parted_from depth tokens)
unfolding parted_from
some_argument depth [] = omega arith
some_argument depth (token ∷ tokens) = by_test (is_bare 44 depth token) (parted_from (depth_behind depth token) tokens) (some_argument (depth_behind depth token) tokens)
  where
    by_test : (here : Bool) (later : List (List Token)) → 1 ≤ length later → 1 ≤ length (cond here ([] ∷ parted_from 0 tokens) (onto_first token later))
    by_test true later some = omega arith
    by_test false [] some = some
    by_test false (first ∷ others) some = omega arith

-- the first argument
first_stops : (depth : ℕ) (tokens : List Token) → Stops tokens (length (first_argument (parted_from depth tokens))) (drop 1 (parted_from depth tokens))
unfolding parted_from
first_stops depth [] = refl
first_stops depth (token ∷ tokens) =
    by_test (is_bare 44 depth token) (parted_from 0 tokens) (parted_from (depth_behind depth token) tokens) refl (some_argument 0 tokens) (some_argument (depth_behind depth token) tokens) (first_stops (depth_behind depth token) tokens)
  where
    by_test : (here : Bool) (behind later : List (List Token)) → is_bare 44 depth token ≡ here → 1 ≤ length behind → 1 ≤ length later → Stops tokens (length (first_argument later)) (drop 1 later)
        → Stops (token ∷ tokens) (length (first_argument (cond here ([] ∷ behind) (onto_first token later)))) (drop 1 (cond here ([] ∷ behind) (onto_first token later)))
    by_test true [] later here one some stops = absurd (omega (arith, one))
    by_test true (argument ∷ others) later here one some stops = (omega arith, λ d. (and_parts (is_mark 44 token) (depth == 0) here).0)
    by_test false behind [] here one some stops = absurd (omega (arith, some))
    by_test false behind (first ∷ others) here one some stops = stops_later token tokens (length first) others stops

-- both
heads_stop : (depth : ℕ) (tokens : List Token) → Stops tokens (head_length (parted_from depth tokens)) (drop 2 (parted_from depth tokens))
unfolding parted_from
heads_stop depth [] = refl
heads_stop depth (token ∷ tokens) =
    by_test (is_bare 44 depth token) (parted_from 0 tokens) (parted_from (depth_behind depth token) tokens) (some_argument 0 tokens) (first_stops 0 tokens) (some_argument (depth_behind depth token) tokens) (heads_stop (depth_behind depth token) tokens)
  where
    by_test : (here : Bool) (behind later : List (List Token)) → 1 ≤ length behind → Stops tokens (length (first_argument behind)) (drop 1 behind) → 1 ≤ length later → Stops tokens (head_length later) (drop 2 later)
        → Stops (token ∷ tokens) (head_length (cond here ([] ∷ behind) (onto_first token later))) (drop 2 (cond here ([] ∷ behind) (onto_first token later)))
    by_test true [] later one first some stops = absurd (omega (arith, one))
    by_test true (second ∷ others) later one first some stops = subst (λ (place : ℕ). Stops (token ∷ tokens) place others) (omega arith) (stops_later token tokens (length second) others first)
    by_test false behind [] one first some stops = absurd (omega (arith, some))
    by_test false behind (argument ∷ []) one first some stops = stops_later token tokens (length argument) [] stops
    by_test false behind (argument ∷ second ∷ others) one first some stops = subst (λ (place : ℕ). Stops (token ∷ tokens) place others) (omega arith) (stops_later token tokens (suc (length argument + length second)) others stops)

pub head_within : (tokens : List Token) → head_length (parted_from 0 tokens) ≤ length tokens
head_within tokens = stops_within tokens (head_length (parted_from 0 tokens)) (drop 2 (parted_from 0 tokens)) (heads_stop 0 tokens)

pub head_comma : (tokens : List Token) (d : Token) → 2 < length (parted_from 0 tokens) → is_mark 44 (get_or tokens (head_length (parted_from 0 tokens)) d) ≡ true
head_comma tokens d more = by_lists (parted_from 0 tokens) (head_length (parted_from 0 tokens)) more (heads_stop 0 tokens)
  where
    by_lists : (lists : List (List Token)) (place : ℕ) → 2 < length lists → Stops tokens place (drop 2 lists) → is_mark 44 (get_or tokens place d) ≡ true
    by_lists (first ∷ second ∷ third ∷ others) place more stops = stops.1 d
    by_lists _ place more stops = absurd (omega (arith, more))

pub head_whole : (tokens : List Token) → length (parted_from 0 tokens) ≤ 2 → head_length (parted_from 0 tokens) ≡ length tokens
head_whole tokens few = by_lists (parted_from 0 tokens) (head_length (parted_from 0 tokens)) few (heads_stop 0 tokens)
  where
    by_lists : (lists : List (List Token)) (place : ℕ) → length lists ≤ 2 → Stops tokens place (drop 2 lists) → place ≡ length tokens
    by_lists [] place few stops = stops
    by_lists (first ∷ []) place few stops = stops
    by_lists (first ∷ second ∷ []) place few stops = stops
    by_lists (first ∷ second ∷ third ∷ others) place few stops = absurd (omega (arith, few))
