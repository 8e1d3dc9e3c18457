-- How a run is written: its one text that is canonical.
use Rattle.std.specs.Prelude.{ℕ, List, [], ◌∷◌, ◌++◌, length, codes, decimal, Option, option_and_then, slice_get, ◌<◌, ◌^◌, ◌≤◌}
use Rattle.std.specs.Fmt.{signed_decimal}
use Rattle.std.specs.Option.{option_map}
use Rattle.std.specs.List.{AllByRecursion, flat_map, filter_map}
use Rattle.printf_grammar.specs.declared.argument.Value.{Value}
use Rattle.printf_grammar.specs.declared.argument.Value.TheVariants as values
use Rattle.log_dictionary.specs.declared.dictionary.TheConstants.{MAX_MESSAGES}
use Rattle.log_dictionary.specs.Canonical.{quoted_text, messages_text, HasLine}
use Rattle.log_dictionary.specs.Messages.{AreDistinct}
use Rattle.log_dictionary.specs.declared.clock.Clock.{Clock}
use Rattle.log_dictionary.specs.declared.message.Message.{Message}
use Rattle.arg_records.specs.declared.call.Call.{Call}
use Rattle.arg_records.specs.Kinds.{HoldsBytes}
use Rattle.trace_text.specs.declared.order.CallPlace.{CallPlace}
use Rattle.trace_text.specs.Recordings.{Recording, IsRecording}
use Rattle.trace_text.specs.Lines.{WriterCall, first_line, clock_line, writers_line}
use Rattle.trace_text.specs.Order.{places_in_order}

-- ---- the calls

-- an argument behind its space: a number, or a text in quotation marks
abbrev pub argument_text : Value → List ℕ
argument_text (values.Signed z) = 32 ∷ signed_decimal z
argument_text (values.Unsigned n) = 32 ∷ decimal n
argument_text (values.Text bytes) = 32 ∷ quoted_text bytes

-- the line of a call up to its arguments
abbrev pub call_front : WriterCall → List ℕ
call_front made = codes "call " ++ decimal made.writer ++ 32 ∷ decimal made.call.stamp ++ 32 ∷ decimal made.call.id

-- the line of a call
abbrev pub call_line : WriterCall → List ℕ
call_line made = call_front made ++ flat_map argument_text made.call.args

-- the same, with its line feed
abbrev pub call_text : WriterCall → List ℕ
call_text made = call_line made ++ 10 ∷ []

-- a call with its writer
abbrev pub made_by : ℕ → Call → WriterCall
made_by writer call = record { writer = writer; call = call }

-- the call that stands in the run at a place, with its writer
abbrev pub made_at : Recording → CallPlace → Option WriterCall
made_at run place =
    option_and_then
    (λ calls. option_map (made_by place.writer) (slice_get calls place.ordinal))
    (slice_get run.writers place.writer)

-- the calls of a run by stamp, those of one stamp by writer, and those of one writer in the order in which it made them
abbrev pub calls_in_order : Recording → List WriterCall
calls_in_order run = filter_map (made_at run) (places_in_order run)

-- ---- the text

-- the line of a clock, with its line feed
abbrev pub clock_text : Clock → List ℕ
clock_text clock = clock_line clock ++ 10 ∷ []

-- the text up to the calls: the version, the messages, the clocks, and the number of writers
abbrev pub front_text : Recording → List ℕ
front_text run =
    first_line run.version ++ 10 ∷ messages_text run.dictionary ++ flat_map clock_text run.clocks
    ++ writers_line (length run.writers) ++ 10 ∷ []

-- the canonical text of a run
abbrev pub Canonical : Recording → List ℕ
Canonical run = front_text run ++ flat_map call_text (calls_in_order run) ++ codes "end\n"

-- ---- which runs a text can have

-- a call that a line can spell: its stamp is a u64, and its texts are bytes
pub record HasCallLine (call : Call) : Type 0 where
  pub stamp : call.stamp < 2 ^ 64
  pub texts : AllByRecursion HoldsBytes call.args

-- messages that the front of a text can spell: no two are equal, they are at most 65,536, and each has a line
pub record HaveMessageLines (messages : List Message) : Type 0 where
  pub distinct : AreDistinct messages
  pub few : length messages ≤ MAX_MESSAGES
  pub lines : AllByRecursion HasLine messages

-- a run that a text can spell: its messages and its calls have lines
pub record HasText (run : Recording) : Type 0 where
  pub recorded : IsRecording run
  pub messages : HaveMessageLines run.dictionary
  pub calls : AllByRecursion (AllByRecursion HasCallLine) run.writers
