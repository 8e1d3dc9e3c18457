-- Strings that stand one behind another: one more, and whether one is left.
use Rattle.std.proofs.Common.{◌≡◌, ℕ, ◌+◌, ◌-◌, ◌≤◌, List, [], ◌∷◌, ◌++◌, length, take, drop, ap, arith, length-append, length-drop}
use Rattle.std.proofs.lemmas.List.{take-append-le, drop-append-le, take_all, drop_all}
use Rattle.bytes_queue.specs.Splitting.{split, total}

total_more : (lens : List ℕ) (len : ℕ) → total (lens ++ len ∷ []) ≡ total lens + len
total_more [] len = omega arith
total_more (first ∷ lens) len = omega (arith, total_more lens len)

-- one string more
split_more : (lens bytes string : List ℕ) → total lens ≡ length bytes → split (lens ++ length string ∷ []) (bytes ++ string) ≡ split lens bytes ++ string ∷ []
split_more [] [] string right = ap (λ (s : List ℕ). s ∷ []) (take_all (length string) string (omega arith))
split_more [] (byte ∷ bytes) string right = absurd (omega (arith, right))
split_more (len ∷ lens) bytes string right =
    let within : len ≤ length bytes = omega (arith, right) in
    let rest : total lens ≡ length (drop len bytes) = omega (arith, right, length-drop len bytes) in
    rw (take-append-le len bytes string within, drop-append-le len bytes string within)
    (ap (λ (l : List (List ℕ)). take len bytes ∷ l) (split_more lens (drop len bytes) string rest))

module _ (next start : ℕ) (lens bytes string : List ℕ) (places : next ≤ length lens) (right : start + total (drop next lens) ≡ length bytes) where
  pub left_more : split (drop next (lens ++ length string ∷ [])) (drop start (bytes ++ string)) ≡ split (drop next lens) (drop start bytes) ++ string ∷ []
  left_more =
      let within : start ≤ length bytes = omega (arith, right) in
      let rest : total (drop next lens) ≡ length (drop start bytes) = omega (arith, right, length-drop start bytes) in
      rw (drop-append-le next lens (length string ∷ []) places, drop-append-le start bytes string within) (split_more (drop next lens) (drop start bytes) string rest)

  pub right_more : start + total (drop next (lens ++ length string ∷ [])) ≡ length (bytes ++ string)
  right_more =
      rw (drop-append-le next lens (length string ∷ []) places) (omega (arith, right, total_more (drop next lens) (length string), length-append bytes string))

-- no string is left where no length is
pub none_left : (next : ℕ) (lens bytes : List ℕ) → next ≤ length lens → split (drop next lens) bytes ≡ [] → next ≡ length lens
none_left next lens bytes places none = by_lens (drop next lens) none (length-drop next lens)
  where
    by_lens : (left : List ℕ) → split left bytes ≡ [] → length left ≡ length lens - next → next ≡ length lens
    by_lens [] none is = omega (arith, is, places)
    by_lens (len ∷ left) none is = absurd cc

pub left_none : (next : ℕ) (lens bytes : List ℕ) → next ≡ length lens → split (drop next lens) bytes ≡ []
left_none next lens bytes same = ap (λ (l : List ℕ). split l bytes) (drop_all next lens (omega (arith, same)))
