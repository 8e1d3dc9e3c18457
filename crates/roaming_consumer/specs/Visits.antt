-- What is told of a visit.
use Rattle.std.specs.Prelude.{◌≡◌, ◌≢◌, ◌⊎◌, ℕ, ◌-◌, ◌≤◌, Bool, true, false, List, ◌++◌, length, Result, Ok, if◌then◌else◌}
use Rattle.std.specs.List.{AllByRecursion}
use Rattle.nl_io.specs.Content.{Told, with_end, PutsFront}
use Rattle.arg_records.specs.declared.call.Call.{Call}
use Rattle.arg_records.specs.Calls.{IsCall}
use Rattle.checkpoint_io.specs.Blocks.{SpellsExtent, close_bytes}
use Rattle.checkpoint_io.specs.Logs.{new_messages, new_clocks}
use Rattle.ring_core.specs.Plans.{Plan}
use Rattle.roaming_consumer.specs.declared.visit.Visit.{Visit}
use Rattle.roaming_consumer.specs.declared.visit.Visit.TheVariants.{Wrote, Idle, Ended, Discarded}
use Rattle.roaming_consumer.specs.declared.visit.SinkFault.{SinkFault}
use Rattle.roaming_consumer.specs.declared.roamer.Roamer.{Roamer}
use Rattle.roaming_consumer.specs.Growth.{PrefaceFor}
use Rattle.roaming_consumer.specs.Gathering.{FramesCame, CallsCame, FindsNothing, StopsTaking}
use Rattle.roaming_consumer.specs.Roamers.{roamer_messages, roamer_version, roamer_clocks, roamer_room, roamer_batch, roamer_progress, roamer_header, is_faulted, is_marked, plan_of_roamer}

-- what the answer says of the end: how many frames were taken, or that there was none, or that all had ended
abbrev pub VisitTells : {S : Type 0} → (S → List (List ℕ)) → (S → Bool) → (S → ℕ) → Visit → S → S → Type 0
VisitTells got ended loads (Wrote n) before after = (1 ≤ n) × FramesCame (got before) (got after) n
VisitTells got ended loads Idle before after = FindsNothing got ended loads before after
VisitTells got ended loads Ended before after = (got after ≡ got before) × (ended after ≡ true)
VisitTells got ended loads (Discarded n) before after = (1 ≤ n) × FramesCame (got before) (got after) n

-- what every visit leaves of an end: which ring it is, what the ends of the ring agree on, and that it has ended, if so
pub record KeepsRing {S : Type 0} (ended : S → Bool) (loads : S → ℕ) (pair : S → List ℕ) (plan : S → Plan)
    (before after : S) : Type 0 where
  pub loads_never_fall : loads before ≤ loads after
  pub same_pair : pair after ≡ pair before
  pub same_plan : plan after ≡ plan before
  pub stays_ended : ended before ≡ true → ended after ≡ true

-- the answer is that of a visit before any write had failed
abbrev pub IsWritten : Visit → Type 0
IsWritten (Discarded n) = ⊥
IsWritten _ = Unit {0}

-- the answer is that of a visit after a write had failed
abbrev pub IsThrown : Visit → Type 0
IsThrown (Wrote n) = ⊥
IsThrown _ = Unit {0}

-- What a visit of the writer does to the close marks. None is lost, and only the writer's may be new. It is new only where
-- a visit before any write had failed answers that the writer has ended, and where one answers so the mark is written.
pub record Marks {S : Type 0} (outcome : Result Visit SinkFault) (writer : ℕ) (old new : Roamer S) : Type 0 where
  pub others : (other : ℕ) → other ≢ writer → is_marked new other ≡ is_marked old other
  pub kept : is_marked old writer ≡ true → is_marked new writer ≡ true
  pub written : is_faulted old ≡ false → outcome ≡ Ok Ended → is_marked new writer ≡ true
  pub new_where : is_marked old writer ≡ false → is_marked new writer ≡ true
      → (is_faulted old ≡ false) × (outcome ≡ Ok Ended)

-- at most so many frames were taken
abbrev pub TakesAtMost : ℕ → Visit → Type 0
TakesAtMost most (Wrote n) = n ≤ most
TakesAtMost most Idle = Unit {0}
TakesAtMost most Ended = Unit {0}
TakesAtMost most (Discarded n) = n ≤ most

-- The bytes are what stands in front of an extent of these records: the clocks that they have reached and that aren't
-- written, and the fragments of the messages that they want and that aren't defined.
abbrev pub IsPrefaceOf : {S : Type 0} → Roamer S → List Call → List ℕ → Type 0
IsPrefaceOf roamer records bytes =
    PrefaceFor (new_clocks (roamer_clocks roamer) (roamer_progress roamer).written records)
    (roamer_progress roamer).defined (new_messages (roamer_messages roamer) (roamer_progress roamer).defined records) bytes

-- A visit took the frames of so many calls, up to a reason to stop. The sink took the preface of one extent of the records
-- of all these calls, and the extent.
pub record WritesExtent {S : Type 0} (got : S → List (List ℕ)) (ended : S → Bool) (loads : S → ℕ) (roamer : Roamer S)
    (writer taken : ℕ) (put put_after : Told) (before after : S) : Type 0 where
  pub records : List Call
  pub comes : CallsCame (plan_of_roamer roamer) (got before) (got after) records
  pub right : AllByRecursion (IsCall (roamer_messages roamer)) records
  pub count : length records ≡ taken
  pub preface : List ℕ
  pub standing : IsPrefaceOf roamer records preface
  pub extent : List ℕ
  pub spelled : SpellsExtent (roamer_messages roamer) (roamer_header roamer) writer records extent
  pub puts : put_after ≡ with_end (preface ++ extent) put
  pub stops : StopsTaking got ended loads (roamer_batch roamer) taken (roamer_room roamer - length spelled.body) before
      after

-- What a visit that answers so has given to the sink, and why it took no more frames: the fragments and the extent of
-- what it took, nothing, or the close mark of a writer that has ended, where no write had failed and it wasn't written
-- before. Where frames are thrown away all of a body is free.
abbrev pub VisitWrites : {S : Type 0} → (S → List (List ℕ)) → (S → Bool) → (S → ℕ) → Roamer S → ℕ → Told → Told → Visit
    → S → S → Type 0
VisitWrites got ended loads roamer writer put put_after (Wrote n) before after =
    WritesExtent got ended loads roamer writer n put put_after before after
VisitWrites got ended loads roamer writer put put_after Idle before after = put_after ≡ put
VisitWrites got ended loads roamer writer put put_after Ended before after =
    put_after ≡ (if is_faulted roamer then put
    else if is_marked roamer writer then put else with_end (close_bytes (roamer_version roamer) writer) put)
VisitWrites got ended loads roamer writer put put_after (Discarded n) before after =
    (put_after ≡ put) × StopsTaking got ended loads (roamer_batch roamer) n (roamer_room roamer) before after

-- Frames of these calls were taken, and the sink took some bytes, from the front, of what was to be written of them.
pub record StopsInExtent {S : Type 0} (got : S → List (List ℕ)) (roamer : Roamer S) (writer : ℕ) (put put_after : Told)
    (before after : S) : Type 0 where
  pub records : List Call
  pub comes : CallsCame (plan_of_roamer roamer) (got before) (got after) records
  pub right : AllByRecursion (IsCall (roamer_messages roamer)) records
  pub some : 1 ≤ length records
  pub few : length records ≤ roamer_batch roamer
  pub preface : List ℕ
  pub standing : IsPrefaceOf roamer records preface
  pub extent : List ℕ
  pub spelled : SpellsExtent (roamer_messages roamer) (roamer_header roamer) writer records extent
  pub puts : PutsFront (preface ++ extent) put put_after

-- No frame was taken, all had ended, and the sink took some bytes, from the front, of the writer's close mark, which
-- wasn't written before.
pub record StopsInMark {S : Type 0} (got : S → List (List ℕ)) (ended : S → Bool) (roamer : Roamer S) (writer : ℕ)
    (put put_after : Told) (before after : S) : Type 0 where
  pub none : got after ≡ got before
  pub over : ended after ≡ true
  pub unmarked : is_marked roamer writer ≡ false
  pub puts : PutsFront (close_bytes (roamer_version roamer) writer) put put_after

-- how far a visit came of which a write failed
abbrev pub VisitStops : {S : Type 0} → (S → List (List ℕ)) → (S → Bool) → Roamer S → ℕ → Told → Told → S → S → Type 0
VisitStops got ended roamer writer put put_after before after =
    StopsInExtent got roamer writer put put_after before after
    ⊎ StopsInMark got ended roamer writer put put_after before after
