-- Calls as a trace has them and a log keeps them, and what they say together.
use Rattle.std.specs.Prelude.{◌≡◌, ℕ, ◌≤◌, List, [], ◌∷◌, Option, Some, option_map, slice_get}
use Rattle.std.specs.List.{flat_map, filter_map, enumerate_from}
use Rattle.printf_grammar.specs.Types.{Types, Fits}
use Rattle.log_dictionary.specs.declared.message.Message.{Message}
use Rattle.log_dictionary.specs.Calls.{LogCall}
use Rattle.arg_records.specs.declared.frame.TheConstants.{MAX_FRAME_WORDS}
use Rattle.arg_records.specs.Frames.{FrameLen}
use Rattle.arg_records.specs.declared.call.Call.{Call}

-- the call names one of the messages, its arguments fit it, and it is short enough to be staged
pub record IsCall (messages : List Message) (call : Call) : Type 0 where
  pub message : Message
  pub known : slice_get messages call.id ≡ Some message
  pub fits : Fits call.args (Types message.format.pieces)
  pub short : FrameLen call.args ≤ MAX_FRAME_WORDS

-- no stamp is below the one before, nor the first below this
abbrev pub NeverFalls : ℕ → List Call → Type 0
NeverFalls least [] = Unit {0}
NeverFalls least (call ∷ calls) = (least ≤ call.stamp) × NeverFalls call.stamp calls

-- the stamp of the last of the calls, or this number where there is none
abbrev pub last_stamp : ℕ → List Call → ℕ
last_stamp least [] = least
last_stamp least (call ∷ calls) = last_stamp call.stamp calls

-- a writer's call at a place, with the message that its id names
abbrev pub log_call : List Message → ℕ → ℕ × Call → Option LogCall
log_call messages writer (ordinal, call) =
    option_map (λ message. record {
      writer = writer;
      ordinal = ordinal;
      stamp = call.stamp;
      message = message;
      args = call.args;
    }) (slice_get messages call.id)

-- the calls of one writer, numbered by their places
abbrev pub writer_calls : List Message → ℕ × List Call → List LogCall
writer_calls messages (writer, calls) = filter_map (log_call messages writer) (enumerate_from 0 calls)

-- the calls of all writers, writer by writer
abbrev pub calls_by_writer : List Message → List (List Call) → List LogCall
calls_by_writer messages writers = flat_map (writer_calls messages) (enumerate_from 0 writers)
