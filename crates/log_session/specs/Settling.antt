-- What is known of rings whose ends have come together again.
use Rattle.std.specs.Prelude.{◌≡◌, ℕ, Bool, true, List, [], ◌∷◌, ◌++◌, length}
use Rattle.ring_core.specs.Plans.{BeginsWith}
use Rattle.log_session.specs.Writers.{WriterView}

-- What is left of a ring has what its two ends had. What was taken is a front of what was accepted, and all of it where
-- the writer is closed and its end has ended.
pub record IsRejoined {S E D : Type 0} (sent : S → List (List ℕ)) (closed : S → Bool) (got : E → List (List ℕ))
    (ended : E → Bool) (sent_left got_left : D → List (List ℕ)) (closed_left ended_left : D → Bool)
    (writer : WriterView S) (end : E) (left : D) : Type 0 where
  pub sent_is : sent_left left ≡ sent writer.end
  pub closed_is : closed_left left ≡ closed writer.end
  pub got_is : got_left left ≡ got end
  pub ended_is : ended_left left ≡ ended end
  pub front : BeginsWith (sent writer.end) (got end)
  pub whole : closed writer.end ≡ true → ended end ≡ true → got end ≡ sent writer.end

-- this holds of the items of three lists, place by place, and the lists are of one length
abbrev pub AllZip3 : {A B C : Type 0} → (A → B → C → Type 0) → List A → List B → List C → Type 0
AllZip3 R [] [] [] = Unit {0}
AllZip3 R (x ∷ xs) (y ∷ ys) (z ∷ zs) = R x y z × AllZip3 R xs ys zs
AllZip3 R xs ys zs = ⊥

-- one ring more was brought together, of which so many frames were taken
pub record OneMore {S E D : Type 0} (is : WriterView S → E → D → Type 0) (got_left : D → List (List ℕ))
    (writer : WriterView S) (end : E) (before after : List D) (taken : ℕ) : Type 0 where
  pub left : D
  pub joined : after ≡ before ++ left ∷ []
  pub rejoined : is writer end left
  pub taken_is : taken ≡ length (got_left left)
