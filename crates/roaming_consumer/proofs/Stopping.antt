-- Writers that had ended, and visits that take no more frames.
use Rattle.std.proofs.Common.{◌≡◌, ℕ, ◌<◌, ◌≤◌, Bool, true, List, sym, ap, ◌∙◌, inl, inr, arith}
use Rattle.std.specs.Prelude.{◌⊎◌, Some, slice_get}
use Rattle.std.proofs.lemmas.Option.{same_Some}
use Rattle.nl_io.specs.Count.{Rose}
use Rattle.ring_core.specs.Plans.{Plan}
use Rattle.roaming_consumer.specs.Gathering.{StopsTaking}
use Rattle.roaming_consumer.specs.Gathering.StopsTaking.{batch_is_full, body_is_full, nothing_is_there, all_has_ended}
use Rattle.roaming_consumer.specs.Roamers.{EndAfterTaking}

-- ---- writers that had ended

-- no frame came, and the end answered again that all had ended
pub none_of_ended : {S : Type 0} (ended : S → Bool) (loads : S → ℕ) (pair : S → List ℕ) (plan : S → Plan) (ends : List S) (writer frames : ℕ) (all : Bool) (before after : S) → slice_get ends writer ≡ Some before → EndAfterTaking ended loads pair plan frames all before after
    → (end : S) → slice_get ends writer ≡ Some end → ended end ≡ true → (frames ≡ 0) × (all ≡ true)
none_of_ended ended loads pair plan ends writer frames all before after was took end there over =
    took.stays_ended (ap ended (same_Some before end (sym was ∙ there)) ∙ over)

-- ---- no more frames

pub goes_on_while_room : {S : Type 0} (got : S → List (List ℕ)) (ended : S → Bool) (loads : S → ℕ) (batch taken free : ℕ) (before after : S) → StopsTaking got ended loads batch taken free before after → taken < batch → 8192 ≤ free → (ended after ≡ true) ⊎ Rose (loads before) (loads after)
goes_on_while_room got ended loads batch taken free before after (batch_is_full full) few room = absurd (omega (arith, full, few))
goes_on_while_room got ended loads batch taken free before after (body_is_full full) few room = absurd (omega (arith, full, room))
goes_on_while_room got ended loads batch taken free before after (nothing_is_there last less found) few room = inr (omega (arith, less, found.2))
goes_on_while_room got ended loads batch taken free before after (all_has_ended over) few room = inl over
