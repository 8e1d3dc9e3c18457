-- Runs of bytes, and what stands behind them.
use Rattle.std.proofs.Common.{◌≡◌, ℕ, ◌+◌, ◌-◌, ◌<◌, ◌≤◌, Bool, false, List, [], ◌∷◌, ◌++◌, length, take, drop, get_or, refl, sym, subst, arith}
use Rattle.std.specs.List.{AllByRecursion}
use Rattle.std.proofs.lemmas.List.{take_more, take_rest, drop_more}
use Rattle.printf_grammar.specs.Parts.{BeginsWithout}

pub all_join : {X : Type 0} (P : X → Type 0) (xs ys : List X) → AllByRecursion P xs → AllByRecursion P ys → AllByRecursion P (xs ++ ys)
all_join P [] ys front back = back
all_join P (x ∷ xs) ys front back = (front.0, all_join P xs ys front.1 back)

pub all_front : {X : Type 0} (P : X → Type 0) (xs ys : List X) → AllByRecursion P (xs ++ ys) → AllByRecursion P xs
all_front P [] ys all = tt
all_front P (x ∷ xs) ys all = (all.0, all_front P xs ys all.1)

pub all_back : {X : Type 0} (P : X → Type 0) (xs ys : List X) → AllByRecursion P (xs ++ ys) → AllByRecursion P ys
all_back P [] ys all = all
all_back P (x ∷ xs) ys all = all_back P xs ys all.1

-- the run is one byte longer
pub all_more : (P : ℕ → Type 0) (bytes : List ℕ) (i : ℕ) → i < length bytes → AllByRecursion P (take i bytes) → P (get_or bytes i 0) → AllByRecursion P (take (i + 1) bytes)
all_more P bytes i h all next = subst (AllByRecursion P) (sym (take_more bytes i 0 h)) (all_join P (take i bytes) (get_or bytes i 0 ∷ []) all (next, tt))

pub ends_run : (test : ℕ → Bool) (bytes : List ℕ) (i : ℕ) → i < length bytes → test (get_or bytes i 0) ≡ false → BeginsWithout test (drop i bytes)
ends_run test bytes i h fails = subst (BeginsWithout test) (sym (drop_more bytes i 0 h)) fails

-- the first byte and those behind it
pub first_and_rest : (byte : ℕ) (bytes : List ℕ) → 1 ≤ length bytes → get_or bytes 0 0 ≡ byte → bytes ≡ byte ∷ take (length bytes - 1) (drop 1 bytes)
first_and_rest byte [] some first = absurd (omega arith)
first_and_rest byte (head ∷ bytes) some first =
    let same : take (length (head ∷ bytes) - 1) (drop 1 (head ∷ bytes)) ≡ bytes = take_rest (head ∷ bytes) 1 in
    rw (same, first) refl
