-- What is held back between two places, and what is given of it.
use Rattle.std.proofs.Common.{◌≡◌, ℕ, ◌≤◌, List, [], ◌∷◌, ◌++◌, refl, length, take, drop, sym, ap, ◌∙◌, append_assoc, length-drop, arith}
use Rattle.std.proofs.lemmas.List.{length-take, length-take-le, drop_all, nil_from_length, take-append-drop, take_at}
use Rattle.log_ends.specs.declared.backlog.Backlog.{Backlog}
use Rattle.log_ends.specs.Backlogs.{held_back, GivesBacklog}

pub nothing_back : (bytes : List ℕ) (given end : ℕ) → given ≡ end → drop given (take end bytes) ≡ []
nothing_back bytes given end same = drop_all given (take end bytes) (omega (arith, length-take end bytes, same))

pub all_given : (bytes : List ℕ) (given end : ℕ) → given ≤ end → end ≤ length bytes → drop given (take end bytes) ≡ [] → given ≡ end
all_given bytes given end ahead within none =
    omega (arith, ap length none, length-drop given (take end bytes), length-take-le end bytes within)

some_room : (bytes : List ℕ) → ¬ (bytes ≡ []) → 1 ≤ length bytes
some_room [] some = absurd (some refl)
some_room (byte ∷ bytes) some = omega arith

module _ (old new : Backlog) (into into_after : List ℕ) (count : ℕ) (gives : GivesBacklog old into count new into_after) where
  -- what was given is the front of what was held back
  given_front : take count into_after ≡ take count (held_back old)
  given_front =
      ap (take count) gives.put
      ∙ take_at (take count (held_back old)) (drop count into) count (length-take-le count (held_back old) (omega (arith, gives.count_is)))

  pub given_rest : into_after ≡ take count into_after ++ drop count into
  given_rest = gives.put ∙ ap (λ (front : List ℕ). front ++ drop count into) (sym given_front)

  -- it stands in front of what is held back now
  pub given_before : (given : List ℕ) → given ++ held_back old ≡ given ++ take count into_after ++ held_back new
  given_before given =
      ap (λ (bytes : List ℕ). given ++ bytes) (sym (take-append-drop count (held_back old)) ∙ (λ i. sym given_front i ++ sym gives.left i))
      ∙ sym (append_assoc given (take count into_after) (held_back new))

  -- where nothing was given to one who has room, nothing was held back
  pub given_none : count ≡ 0 → ¬ (into ≡ []) → held_back old ≡ []
  given_none none room = nil_from_length (held_back old) (omega (arith, gives.count_is, none, some_room into room))

  -- where some was given, some was held back
  pub given_some : 1 ≤ count → ¬ (held_back old ≡ [])
  given_some some none = omega (arith, gives.count_is, ap length none)
