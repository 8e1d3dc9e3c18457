-- What is taken from the roamer's end of a ring in one visit.
use Rattle.std.specs.Prelude.{◌≡◌, ℕ, ◌<◌, ◌≤◌, Bool, true, false, List, ◌++◌, length}
use Rattle.std.specs.List.{AllByRecursion}
use Rattle.nl_io.specs.Count.{Rose}
use Rattle.log_dictionary.specs.declared.message.Message.{Message}
use Rattle.arg_records.specs.declared.call.Call.{Call}
use Rattle.arg_records.specs.Calls.{IsCall}
use Rattle.buffer_extent.specs.declared.put.TheConstants.{RECORD_ROOM}
use Rattle.ring_core.specs.Plans.{Plan, frames_of, AreFramesOf, plan_of}
use Rattle.roaming_consumer.specs.declared.draft.Draft.{Draft}
use Rattle.roaming_consumer.specs.Drafts.{IsDraft}

-- The frames of these calls came behind those that were taken before. Of whatever calls those were, the frames of all are
-- lawful together.
pub record CallsCame (plan : Plan) (before after : List (List ℕ)) (records : List Call) : Type 0 where
  pub joined : after ≡ before ++ frames_of records
  pub lawful : (calls : List Call) → AreFramesOf plan before calls → AreFramesOf plan after (calls ++ records)

-- Frames of calls of the dictionary were taken, and the draft has the records of all of them.
pub record DraftsFrames (messages : List Message) (tick : ℕ) (before after : List (List ℕ)) (draft : Draft)
    (body : List ℕ) : Type 0 where
  pub records : List Call
  pub comes : CallsCame (plan_of messages tick) before after records
  pub right : AllByRecursion (IsCall messages) records
  pub drafted : IsDraft messages tick records draft body

-- so many frames came behind those that were taken before
abbrev pub FramesCame : List (List ℕ) → List (List ℕ) → ℕ → Type 0
FramesCame before after count = (frames : List (List ℕ)) × (after ≡ before ++ frames) × (length frames ≡ count)

-- the end answered that it has no frame now
abbrev pub FindsNothing : {S : Type 0} → (S → List (List ℕ)) → (S → Bool) → (S → ℕ) → S → S → Type 0
FindsNothing got ended loads before after =
    (got after ≡ got before) × (ended after ≡ false) × Rose (loads before) (loads after)

-- Why a visit takes no more frames from an end: it took as many as a batch has, a record might have no room in what is
-- free of the extent's body, or the end gave none. Of the frames that were taken none came behind that answer.
pub data StopsTaking {S : Type 0} (got : S → List (List ℕ)) (ended : S → Bool) (loads : S → ℕ) (batch taken free : ℕ)
    (before after : S) : Type 0 where
  batch_is_full : taken ≡ batch → StopsTaking got ended loads batch taken free before after
  body_is_full : free < RECORD_ROOM → StopsTaking got ended loads batch taken free before after
  nothing_is_there : (last : S)
      → loads before ≤ loads last
      → FindsNothing got ended loads last after
      → StopsTaking got ended loads batch taken free before after
  all_has_ended : ended after ≡ true → StopsTaking got ended loads batch taken free before after
