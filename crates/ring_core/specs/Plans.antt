-- What the two ends of a ring agree on: the messages that calls name, and the stamp that none is below.
use Rattle.std.specs.Prelude.{◌≡◌, ℕ, ◌≤◌, List, ◌++◌, map, slice_get, Some, All}
use Rattle.printf_grammar.specs.declared.arg_type.ArgType.{ArgType}
use Rattle.printf_grammar.specs.declared.argument.Value.{Value}
use Rattle.printf_grammar.specs.Types.{Types, Fits}
use Rattle.log_dictionary.specs.declared.message.Message.{Message}
use Rattle.arg_records.specs.declared.call.Call.{Call}
use Rattle.arg_records.specs.Calls.{NeverFalls}
use Rattle.arg_records.specs.Frames.{Frame, IsStaged}
use Rattle.arg_records.specs.Kinds.{HoldsBytes}

-- for each id the types of its message's arguments, and the first stamp
pub record Plan : Type 0 where
  pub types : List (List ArgType)
  pub first : ℕ

-- for each of the messages the types of its arguments
abbrev pub types_by_id : List Message → List (List ArgType)
types_by_id messages = map (λ message. Types message.format.pieces) messages

-- the plan of these messages
abbrev pub plan_of : List Message → ℕ → Plan
plan_of messages first = record { types = types_by_id messages; first = first }

-- the call with this stamp, id and arguments
abbrev pub call_of : ℕ → ℕ → List Value → Call
call_of stamp id args = record { stamp = stamp; id = id; args = args }

-- the call has one of the ids, arguments that fit its types, and a frame
pub record IsPlanned (known_types : List (List ArgType)) (call : Call) : Type 0 where
  pub types : List ArgType
  pub known : slice_get known_types call.id ≡ Some types
  pub fits : Fits call.args types
  pub bytes : All HoldsBytes call.args
  pub staged : IsStaged call.id call.stamp call.args

-- the frame of a call
abbrev pub frame_of : Call → List ℕ
frame_of call = Frame call.id call.stamp call.args

-- the frames of calls, in order
abbrev pub frames_of : List Call → List (List ℕ)
frames_of calls = map frame_of calls

-- these are the frames of the calls, each of which is planned, and no stamp falls, from the first stamp on
pub record AreFramesOf (plan : Plan) (frames : List (List ℕ)) (calls : List Call) : Type 0 where
  pub frames_are : frames ≡ frames_of calls
  pub planned : All (IsPlanned plan.types) calls
  pub rising : NeverFalls plan.first calls

-- each frame spells an id of the plan and arguments that fit, and stamps never fall from the first stamp on
abbrev pub Lawful : Plan → List (List ℕ) → Type 0
Lawful plan frames = (calls : List Call) × AreFramesOf plan frames calls

-- The call may come behind others, the last of which has this stamp.
pub record MayFollow (plan : Plan) (last : ℕ) (call : Call) : Type 0 where
  pub planned : IsPlanned plan.types call
  pub not_before : last ≤ call.stamp

-- the list begins with these frames
abbrev pub BeginsWith : List (List ℕ) → List (List ℕ) → Type 0
BeginsWith frames front = (rest : List (List ℕ)) × (frames ≡ front ++ rest)
