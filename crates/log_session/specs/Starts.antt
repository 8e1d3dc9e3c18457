-- What is known of the ends of new rings.
use Rattle.std.specs.Prelude.{◌≡◌, ℕ, Bool, false, List, [], ◌∷◌, ◌++◌}
use Rattle.std.specs.List.{AllZip}
use Rattle.ring_core.specs.Plans.{Plan}
use Rattle.log_session.specs.Writers.{WriterView}

-- nothing was put into the ring, and it is open
pub record IsUnused (sent : List (List ℕ)) (closed : Bool) (at seen : ℕ) : Type 0 where
  pub none_sent : sent ≡ []
  pub open_end : closed ≡ false
  pub at_first : at ≡ 0
  pub none_seen : seen ≡ 0

-- nothing was logged since this stamp, nor asked for
pub record IsNew {S : Type 0} (first : ℕ) (writer : WriterView S) : Type 0 where
  pub last : writer.last ≡ first
  pub accepted : writer.accepted ≡ 0
  pub unasked : writer.asked ≡ 0

-- A writer and the roamer's end have one ring, which is new: of this size, for this plan, open, and nothing was put
-- into it or taken from it.
pub record IsNewRing {S E : Type 0} (size : ℕ) (plan : Plan) (pair : S → List ℕ) (words : S → ℕ)
    (planned : S → Plan) (sent : S → List (List ℕ)) (closed : S → Bool) (at seen : S → ℕ) (pair_out : E → List ℕ)
    (planned_out : E → Plan) (got : E → List (List ℕ)) (ended : E → Bool) (writer : WriterView S) (end : E)
    : Type 0 where
  pub one_ring : pair writer.end ≡ pair_out end
  pub size_is : words writer.end ≡ size
  pub plan_is : planned writer.end ≡ plan
  pub plan_out_is : planned_out end ≡ plan
  pub unused : IsUnused (sent writer.end) (closed writer.end) (at writer.end) (seen writer.end)
  pub new : IsNew plan.first writer
  pub none_got : got end ≡ []
  pub not_ended : ended end ≡ false

-- the writers have the rings of these ends, in the same order
abbrev pub ShareRings : {S E : Type 0} → (S → List ℕ) → (E → List ℕ) → List (WriterView S) → List E → Type 0
ShareRings pair pair_out writers ends = AllZip (λ writer end. pair writer.end ≡ pair_out end) writers ends

-- one pair more, of which this holds, stands at the end of the two lists
pub record AllZipMore {A B : Type 0} (R : A → B → Type 0) (ours : List A) (theirs : List B) (ours_after : List A)
    (theirs_after : List B) : Type 0 where
  pub one : A
  pub other : B
  pub ours_are : ours_after ≡ ours ++ one ∷ []
  pub theirs_are : theirs_after ≡ theirs ++ other ∷ []
  pub holds : R one other
