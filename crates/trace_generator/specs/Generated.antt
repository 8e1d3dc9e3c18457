-- Traces that are generated: calls of four messages, drawn one after the other.
use Rattle.std.specs.Prelude.{ℕ, zero, suc, ◌+◌, ◌*◌, ◌/◌, ◌%◌, pos, List, [], ◌∷◌, length, map, codes, true}
use Rattle.std.specs.List.{range_with_len}
use Rattle.std.proofs.Common.{lit≤}
use Rattle.printf_grammar.specs.declared.argument.Value.{Value}
use Rattle.printf_grammar.specs.declared.argument.Value.TheVariants.{Signed, Unsigned, Text}
use Rattle.printf_grammar.specs.declared.piece.Piece.{Piece}
use Rattle.printf_grammar.specs.declared.piece.Piece.TheVariants.{Literal, Percent, Field}
use Rattle.printf_grammar.specs.declared.piece.Size.TheVariants.{Given}
use Rattle.printf_grammar.specs.declared.piece.Length.TheVariants.{L, LL}
use Rattle.printf_grammar.specs.declared.piece.Conversion.TheVariants.{U, X, S, C}
use Rattle.printf_grammar.specs.Narrow.{plain_d}
use Rattle.log_dictionary.specs.declared.clock.Clock.{Clock}
use Rattle.log_dictionary.specs.declared.message.Message.{Message}
use Rattle.log_dictionary.specs.declared.severity.Severity.{Severity}
use Rattle.log_dictionary.specs.declared.severity.Severity.TheVariants.{Error, Warning, Notice, Debug}
use Rattle.arg_records.specs.declared.call.Call.{Call}
use Rattle.trace_generator.specs.declared.generator.Generator.{Generator}
use Rattle.trace_generator.specs.declared.generator.TheConstants.{MULTIPLIER, INCREMENT, MODULUS, FIRST_TICK}
use Rattle.trace_text.specs.Lines.{WriterCall}
use Rattle.trace_text.specs.Traces.{calls_by}
use Rattle.trace_text.specs.Recordings.{Recording}

-- ---- draws

-- the state that follows
abbrev pub next_state : ℕ → ℕ
next_state state = (state * MULTIPLIER + INCREMENT) % MODULUS

-- the state behind so many draws
abbrev pub state_after : ℕ → ℕ → ℕ
state_after zero state = state
state_after (suc draws) state = state_after draws (next_state state)

-- one of `count` numbers, from 0 on, drawn in a state; the low half of the next state is left out
abbrev pub draw : ℕ → ℕ → ℕ
draw state count = next_state state / 65536 % count

-- ---- messages

-- the file where the statements stand
abbrev pub generated_file : List ℕ
generated_file = codes "gen.cc"

-- a statement with this severity, on this line, with this format
abbrev pub generated_message : Severity → ℕ → List ℕ → List Piece → Message
generated_message severity line format pieces = record {
  file = generated_file;
  line = line;
  severity = severity;
  format = record { bytes = format; pieces = pieces };
  file_length = (lit≤ tt, lit≤ tt);
}

abbrev pub disk_format : List ℕ
disk_format = codes "disk %u failed at %#lx"

abbrev pub disk_pieces : List Piece
disk_pieces =
    Literal 0 5 ∷ Field (record plain_d { conversion = U }) ∷ Literal 7 18
    ∷ Field (record plain_d { sharp = true; length = L; conversion = X }) ∷ []

abbrev pub disk_message : Message
disk_message = generated_message Error 10 disk_format disk_pieces

abbrev pub queue_format : List ℕ
queue_format = codes "queue %s is %d%% full"

abbrev pub queue_pieces : List Piece
queue_pieces =
    Literal 0 6 ∷ Field (record plain_d { conversion = S }) ∷ Literal 8 12 ∷ Field plain_d ∷ Percent
    ∷ Literal 16 21 ∷ []

abbrev pub queue_message : Message
queue_message = generated_message Warning 20 queue_format queue_pieces

abbrev pub request_format : List ℕ
request_format = codes "request %llu took %5d us"

abbrev pub request_pieces : List Piece
request_pieces =
    Literal 0 8 ∷ Field (record plain_d { length = LL; conversion = U }) ∷ Literal 12 18
    ∷ Field (record plain_d { width = Given 5 }) ∷ Literal 21 24 ∷ []

abbrev pub request_message : Message
request_message = generated_message Notice 30 request_format request_pieces

abbrev pub state_format : List ℕ
state_format = codes "state %c"

abbrev pub state_pieces : List Piece
state_pieces = Literal 0 6 ∷ Field (record plain_d { conversion = C }) ∷ []

abbrev pub state_message : Message
state_message = generated_message Debug 40 state_format state_pieces

-- the four messages
abbrev pub generated_messages : List Message
generated_messages = disk_message ∷ queue_message ∷ request_message ∷ state_message ∷ []

-- ---- calls

-- the arguments of a call of the message with this id, drawn one after the other from this state on; a text is `q` and
-- a digit, and a character is one of `!` to `~`
abbrev pub drawn_arguments : ℕ → ℕ → List Value
drawn_arguments zero state = Unsigned (draw state 32768) ∷ Unsigned (draw (next_state state) 32768 * 65536) ∷ []
drawn_arguments (suc zero) state =
    Text (113 ∷ (48 + draw state 8) ∷ []) ∷ Signed (pos (draw (next_state state) 101)) ∷ []
drawn_arguments (suc (suc zero)) state =
    Unsigned (draw state 32768) ∷ Signed (pos (draw (next_state state) 32768)) ∷ []
drawn_arguments (suc (suc (suc id))) state = Signed (pos (33 + draw state 94)) ∷ []

-- The call that is drawn next: its id, how far its stamp lies behind the one before, and its arguments.
abbrev pub drawn_call : Generator → Call
drawn_call generator =
    let id = draw generator.state 4 in
    record {
      id = id;
      stamp = generator.stamp + draw (next_state generator.state) 100;
      args = drawn_arguments id (state_after 2 generator.state);
    }

-- the generator behind that call
abbrev pub after_call : Generator → Generator
after_call generator =
    let call = drawn_call generator in
    record { state = state_after (2 + length call.args) generator.state; stamp = call.stamp }

-- the generator in front of call `k` of a seed, counted from 0
abbrev pub generator_at : ℕ → ℕ → Generator
generator_at seed zero = record { state = seed % MODULUS; stamp = FIRST_TICK }
generator_at seed (suc k) = after_call (generator_at seed k)

-- call `k`, of writer `k mod writers`
abbrev pub generated_call : ℕ → ℕ → ℕ → WriterCall
generated_call seed writers k = record { writer = k % writers; call = drawn_call (generator_at seed k) }

-- ---- the trace

abbrev pub generated_clock : Clock
generated_clock = record { tick = FIRST_TICK; nanos = 1514764800000000000; rate = 2000000000 }

-- the calls 0 to `calls - 1`
abbrev pub generated_calls : ℕ → ℕ → ℕ → List WriterCall
generated_calls seed calls writers = map (generated_call seed writers) (range_with_len 0 calls)

-- the trace of a seed, with so many calls and writers
abbrev pub Generated : ℕ → ℕ → ℕ → Recording
Generated seed calls writers = record {
  version = 1;
  dictionary = generated_messages;
  clocks = generated_clock ∷ [];
  writers = map (calls_by (generated_calls seed calls writers)) (range_with_len 0 writers);
}
