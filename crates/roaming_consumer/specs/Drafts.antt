-- The body of an extent while it is made.
use Rattle.std.specs.Prelude.{◌≡◌, ℕ, ◌≤◌, List, length, take, All}
use Rattle.log_dictionary.specs.declared.message.Message.{Message}
use Rattle.arg_records.specs.declared.call.Call.{Call}
use Rattle.arg_records.specs.Calls.{IsCall, NeverFalls, last_stamp}
use Rattle.arg_records.specs.Frames.{Frame, IsStaged}
use Rattle.arg_records.specs.Kinds.{HoldsBytes}
use Rattle.buffer_extent.specs.Bodies.{SpellsRecords}
use Rattle.checkpoint_io.specs.Logs.{ids_used}
use Rattle.roaming_consumer.specs.declared.draft.Draft.{Draft}

-- the words are the frame of the call, which names one of the messages and fits it, and was made at this stamp or later
pub record IsFrameOfCall (messages : List Message) (before : ℕ) (frame : List ℕ) (call : Call) : Type 0 where
  pub named : IsCall messages call
  pub bytes : All HoldsBytes call.args
  pub staged : IsStaged call.id call.stamp call.args
  pub not_before : before ≤ call.stamp
  pub is : frame ≡ Frame call.id call.stamp call.args

-- the records of these calls stand in the front of the body, and the draft tells of them
pub record IsDraft (messages : List Message) (tick : ℕ) (records : List Call) (draft : Draft)
    (body : List ℕ) : Type 0 where
  pub count : draft.records ≡ length records
  pub ids : draft.ids ≡ ids_used records
  pub last : draft.last ≡ last_stamp tick records
  pub rising : NeverFalls tick records
  pub within : draft.len ≤ length body
  pub spelled : SpellsRecords messages tick records (take draft.len body)
