-- Bytes that are put one after the other.
use Rattle.std.proofs.Common.{◌≡◌, ℕ, ◌+◌, ◌≤◌, List, ◌++◌, length, take, drop, sym, ap, ◌∙◌, arith, append_assoc}
use Rattle.std.proofs.lemmas.List.{take_at, drop_at, drop-drop, length-append, length-take-le}

-- from one place to another stand these bytes in place of the old ones
pub record Stand (old : List ℕ) (at : ℕ) (bytes : List ℕ) (after : ℕ) (new : List ℕ) : Type 0 where
  pub put : new ≡ take at old ++ bytes ++ drop after old
  pub after_is : after ≡ at + length bytes

pub then_put : (old mid new a b : List ℕ) (at i j : ℕ) → at ≤ length old → Stand old at a i mid → Stand mid i b j new → Stand old at (a ++ b) j new
then_put old mid new a b at i j within first second =
    let front : List ℕ = take at old ++ a in
    let long : length front ≡ i = omega (arith, length-append (take at old) a, length-take-le at old within, first.after_is) in
    let start : take i mid ≡ front = ap (take i) first.put ∙ take_at front (drop i old) i long in
    let rest : drop i mid ≡ drop i old = ap (drop i) first.put ∙ drop_at front (drop i old) i long in
    let place : i + length b ≡ j = sym second.after_is in
    let end : drop j mid ≡ drop j old =
    ap (λ (n : ℕ). drop n mid) (sym place) ∙ sym (drop-drop (length b) i mid) ∙ ap (drop (length b)) rest ∙ drop-drop (length b) i old ∙ ap (λ (n : ℕ). drop n old) place in
    record {
      put = second.put ∙ ap (λ (f : List ℕ). f ++ b ++ drop j mid) start ∙ ap (λ (r : List ℕ). front ++ b ++ r) end ∙ ap (λ (f : List ℕ). f ++ drop j old) (append_assoc (take at old) a b);
      after_is = omega (arith, first.after_is, second.after_is, length-append a b);
    }
