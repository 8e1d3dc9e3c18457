-- What a writer's end stands for, and what logging does.
use Rattle.std.specs.Prelude.{◌≡◌, ◌↔◌, ℕ, ◌+◌, ◌<◌, ◌≤◌, ⊤, Bool, true, false, List, [], ◌∷◌, ◌++◌, Result, OnOk, OnErr, IsErrOf, IfErr}
use Rattle.nl_io.specs.Count.{Rose}
use Rattle.printf_grammar.specs.declared.argument.Value.{Value}
use Rattle.log_dictionary.specs.declared.message.Message.{Message}
use Rattle.log_dictionary.specs.Calls.{Takes}
use Rattle.arg_records.specs.declared.frame.TheConstants.{MAX_FRAME_WORDS}
use Rattle.arg_records.specs.Frames.{Frame, FrameLen}
use Rattle.ring_core.specs.declared.answers.Full.{Full}
use Rattle.ring_core.specs.declared.limits.TheConstants.{MAX_POSITION, OFFER_ROOM}
use Rattle.ring_core.specs.Answers.{IsFull, HasRoom}
use Rattle.ring_core.specs.Counts.{RisesBy}
use Rattle.ring_core.specs.Positions.{Need}
use Rattle.word_ring.specs.Ends.{WordWriterEnd, seen_by}
use Rattle.log_ends.specs.declared.writer.WriterEnd.{WriterEnd}
use Rattle.log_ends.specs.declared.writer.LogFault.{LogFault}
use Rattle.log_ends.specs.declared.writer.LogFault.TheVariants as faults

-- the writer's end of its ring
abbrev pub ring_of : WriterEnd → WordWriterEnd
ring_of writer = writer.writer.end

-- the frames of the calls that were logged
abbrev pub logged : WriterEnd → List (List ℕ)
logged writer = (ring_of writer).sent

abbrev pub is_finished : WriterEnd → Bool
is_finished writer = (ring_of writer).closed

-- no call may be earlier: the stamp of the last one, or the clock's tick
abbrev pub writer_stamp : WriterEnd → ℕ
writer_stamp writer = writer.writer.last

-- the messages that calls name
abbrev pub writer_messages : WriterEnd → List Message
writer_messages writer = writer.dictionary.now

-- the ring has no words left to count
abbrev pub IsWornOut : WriterEnd → Type 0
IsWornOut writer = MAX_POSITION < (ring_of writer).at + OFFER_ROOM

-- where the ring had too little room, this holds of what is told
abbrev pub IfFull : LogFault → (Full → Type 0) → Type 0
IfFull (faults.Full full) P = P full
IfFull faults.TooLong P = ⊤
IfFull faults.Misfit P = ⊤
IfFull faults.Early P = ⊤
IfFull faults.Finished P = ⊤
IfFull faults.WornOut P = ⊤

-- Which call may be logged, as far as it is known without the ring: the first of these that doesn't hold is told.
pub record MayLog (writer : WriterEnd) (stamp id : ℕ) (args : List Value) : Type 0 where
  pub unfinished : is_finished writer ≡ false
  pub fits : Takes (writer_messages writer) id args
  pub not_early : writer_stamp writer ≤ stamp
  pub counted : ¬ (IsWornOut writer)

-- the same ring, with the same messages
pub record IsSameWriter (old new : WriterEnd) : Type 0 where
  pub same_pair : (ring_of new).pair ≡ (ring_of old).pair
  pub same_words : (ring_of new).words ≡ (ring_of old).words
  pub same_plan : (ring_of new).plan ≡ (ring_of old).plan
  pub same_messages : writer_messages new ≡ writer_messages old

-- What became of a call that was to be logged, and of the writer.
pub record LogsCall (old : WriterEnd) (stamp id : ℕ) (args : List Value) (outcome : Result (Unit {0}) LogFault)
    (new : WriterEnd) : Type 0 where
  -- The first of these causes that holds is answered.
  pub finished : IsErrOf outcome faults.Finished ↔ (is_finished old ≡ true)
  pub misfit : IsErrOf outcome faults.Misfit
      ↔ ((is_finished old ≡ false) × (¬ (Takes (writer_messages old) id args)))
  pub early : IsErrOf outcome faults.Early
      ↔ ((is_finished old ≡ false) × Takes (writer_messages old) id args × (stamp < writer_stamp old))
  pub worn_out : IsErrOf outcome faults.WornOut
      ↔ ((is_finished old ≡ false) × Takes (writer_messages old) id args × (writer_stamp old ≤ stamp) × IsWornOut old)
  pub too_long : IsErrOf outcome faults.TooLong ↔ (MayLog old stamp id args × (MAX_FRAME_WORDS < FrameLen args))
  -- The ring had too little room, at the position of the consumer that was loaded in this call.
  pub full : IfErr outcome (λ fault. IfFull fault (IsFull (ring_of old).at (FrameLen args) (ring_of old).words
      (seen_by (ring_of new))))
  pub looked : IfErr outcome (λ fault. IfFull fault (λ _. Rose (ring_of old).looks (ring_of new).looks))
  -- The call's frame had room there. It stands behind those before, and takes its places of the ring.
  pub room : OnOk outcome (HasRoom (ring_of old).at (FrameLen args) (ring_of old).words (seen_by (ring_of new)))
  pub ok : OnOk outcome (logged new ≡ logged old ++ Frame id stamp args ∷ [])
  pub stamped : OnOk outcome (writer_stamp new ≡ stamp)
  pub moved : OnOk outcome ((ring_of new).at
      ≡ (ring_of old).at + Need (ring_of old).at (FrameLen args) (ring_of old).words)
  -- Nothing was logged.
  pub err : OnErr outcome ((logged new ≡ logged old) × ((ring_of new).at ≡ (ring_of old).at)
      × (writer_stamp new ≡ writer_stamp old))
  pub same_finish : is_finished new ≡ is_finished old
  pub steps : RisesBy (FrameLen args + 3) (ring_of old).steps (ring_of new).steps
  pub same : IsSameWriter old new

-- The writer has its close mark in its ring, behind the frames of the calls that were logged.
pub record IsFinishedFrom (old new : WriterEnd) : Type 0 where
  pub finished : is_finished new ≡ true
  pub same_logged : logged new ≡ logged old
  pub same_position : (ring_of new).at ≡ (ring_of old).at
  pub same_stamp : writer_stamp new ≡ writer_stamp old
  pub same : IsSameWriter old new

-- The writer is finished, and it was told whether it wasn't before.
pub record FinishesWriter (old : WriterEnd) (outcome : Bool) (new : WriterEnd) : Type 0 where
  pub finished : IsFinishedFrom old new
  pub first : (outcome ≡ true) ↔ (is_finished old ≡ false)
  pub again : outcome ≡ false → new ≡ old
