-- A run that a text spells is one that a text can spell, and so is one that is read line by line.
use Rattle.std.proofs.Common.{◌≡◌, ℕ, ◌+◌, ◌<◌, ◌≤◌, lit≤, Bool, true, false, cond, eqb, List, [], ◌∷◌, length, map, Ok, sym, subst, inl, inr, arith}
use Rattle.std.specs.Prelude.{filter}
use Rattle.std.proofs.lemmas.Bool.Decides.{nat_tests}
use Rattle.std.specs.Char.{digit_value, IsAsciiHexdigit}
use Rattle.std.specs.List.{AllByRecursion}
use Rattle.std.proofs.lemmas.List.Elements.{All-nil, All-cons}
use Rattle.nibble_pack.specs.Bytes.{AreBytes}
use Rattle.arg_records.specs.Kinds.{HoldsBytes}
use Rattle.printf_grammar.specs.declared.argument.Value.{Value}
use Rattle.printf_grammar.specs.declared.argument.Value.TheVariants as values
use Rattle.log_dictionary.specs.declared.message.Message.{Message}
use Rattle.log_dictionary.specs.Texts.{SpellsByte, SpellsText}
use Rattle.log_dictionary.specs.Texts.SpellsByte.{itself, quotation_mark, backslash, line_feed, tab, hexadecimal}
use Rattle.log_dictionary.specs.Canonical.{HasLine}
use Rattle.log_dictionary.specs.Messages.{SpellsMessage}
use Rattle.log_dictionary.specs.Additions.{ReadsLine}
use Rattle.log_dictionary.specs.declared.clock.Clock.{Clock}
use Rattle.log_dictionary.proofs.lemmas.Distinct.{still_distinct}
use Rattle.printf_grammar.proofs.lemmas.Worked.{all_copies}
use Rattle.std.proofs.lemmas.List.{length-append}
use Rattle.session_options.specs.Versions.{is_known, most_writers, MayHaveClocks}
use Rattle.trace_text.specs.CallReading.{call_at, with_call}
use Rattle.trace_text.proofs.lemmas.CallRuns.{all-push, all_after, all_at, recorded_after}
use Rattle.trace_text.proofs.CallLines.{call_spelled}
use Rattle.trace_text.proofs.CallSteps.{can_follow}
use Rattle.trace_text.proofs.lemmas.RunSteps.{start_recorded}
use Rattle.trace_text.specs.Recordings.{Recording, start_of}
use Rattle.trace_text.specs.Lines.{WriterCall, SpellsArgumentFields, SpellsCall, SpellsMessages, SpellsCalls}
use Rattle.trace_text.specs.Traces.{TraceText, calls_by}
use Rattle.trace_text.specs.Canonical.{HasCallLine, HaveMessageLines, HasText}

digit_small : (b : ℕ) → IsAsciiHexdigit b → digit_value b < 16
digit_small b is = grind (arith, nat_tests)

spelled_byte : (unit : List ℕ) (b : ℕ) → SpellsByte unit b → b < 256
spelled_byte unit b (itself (inl plain) is) = omega (arith, plain.1)
spelled_byte unit b (itself (inr plain) is) = omega (arith, plain.1)
spelled_byte unit b (quotation_mark is e) = omega (arith, e)
spelled_byte unit b (backslash is e) = omega (arith, e)
spelled_byte unit b (line_feed is e) = omega (arith, e)
spelled_byte unit b (tab is e) = omega (arith, e)
spelled_byte unit b (hexadecimal high low first second is e) = omega (arith, e, digit_small high first, digit_small low second)

spelled_bytes : (spelled bytes : List ℕ) → SpellsText spelled bytes → AreBytes bytes
spelled_bytes spelled [] spells = All-nil (λ (b : ℕ). b < 256)
spelled_bytes spelled (b ∷ bytes) (unit, rest, joined, byte, others) =
    All-cons (λ (b : ℕ). b < 256) b bytes (spelled_byte unit b byte) (spelled_bytes rest bytes others)

spelled_message : (line : List ℕ) (id : ℕ) (message : Message) → SpellsMessage line id message → HasLine message
spelled_message line id message spells = record { file = spelled_bytes _ _ spells.file; bytes = spelled_bytes _ _ spells.bytes; formed = spells.formed; line_fits = spells.line_fits }

pub spelled_messages : (n : ℕ) (lines : List (List ℕ)) (messages : List Message) → SpellsMessages n lines messages → AllByRecursion HasLine messages
spelled_messages n [] [] spells = tt
spelled_messages n (line ∷ lines) (message ∷ messages) spells = (spelled_message line n message spells.0, spelled_messages (n + 1) lines messages spells.1)
spelled_messages n [] (message ∷ messages) spells = absurd spells
spelled_messages n (line ∷ lines) [] spells = absurd spells

spelled_arguments : (fields : List ℕ) (args : List Value) → SpellsArgumentFields fields args → AllByRecursion HoldsBytes args
spelled_arguments fields [] spells = tt
spelled_arguments fields (values.Signed z ∷ args) (field, others, joined, argument, rest) = (tt, spelled_arguments others args rest)
spelled_arguments fields (values.Unsigned n ∷ args) (field, others, joined, argument, rest) = (tt, spelled_arguments others args rest)
spelled_arguments fields (values.Text bytes ∷ args) (field, others, joined, argument, rest) = (spelled_bytes argument.0 bytes argument.2, spelled_arguments others args rest)

abbrev HasLineOf : WriterCall → Type 0
HasLineOf made = HasCallLine made.call

spelled_call : (line : List ℕ) (made : WriterCall) → SpellsCall line made → HasLineOf made
spelled_call line made spells = record { stamp = spells.stamp_fits; texts = spelled_arguments spells.fields made.call.args spells.arguments }

spelled_calls : (lines : List (List ℕ)) (calls : List WriterCall) → SpellsCalls lines calls → AllByRecursion HasLineOf calls
spelled_calls [] [] spells = tt
spelled_calls (line ∷ lines) (made ∷ calls) spells = (spelled_call line made spells.0, spelled_calls lines calls spells.1)
spelled_calls [] (made ∷ calls) spells = absurd spells
spelled_calls (line ∷ lines) [] spells = absurd spells

of_one_writer : (writer : ℕ) (calls : List WriterCall) → AllByRecursion HasLineOf calls → AllByRecursion HasCallLine (calls_by calls writer)
of_one_writer writer [] all = tt
of_one_writer writer (made ∷ calls) all = at_test (eqb made.writer writer) (of_one_writer writer calls all.1)
  where
    at_test : (own : Bool) → AllByRecursion HasCallLine (calls_by calls writer) → AllByRecursion HasCallLine (map (λ (m : WriterCall). m.call) (cond own (made ∷ filter (λ (m : WriterCall). eqb m.writer writer) calls) (filter (λ (m : WriterCall). eqb m.writer writer) calls)))
    at_test true others = (all.0, others)
    at_test false others = others

of_all_writers : (calls : List WriterCall) (writers : List ℕ) → AllByRecursion HasLineOf calls → AllByRecursion (AllByRecursion HasCallLine) (map (calls_by calls) writers)
of_all_writers calls [] all = tt
of_all_writers calls (writer ∷ writers) all = (of_one_writer writer calls all, of_all_writers calls writers all)

-- what is read can be written, and read again where that is within the limit
pub read_has_text : (bytes : List ℕ) (run : Recording) → TraceText bytes run → HasText run
read_has_text bytes run text = record {
  recorded = text.recorded;
  messages = record { distinct = text.distinct; few = text.few_messages; lines = spelled_messages 0 text.message_lines run.dictionary text.messages_spelled };
  calls = subst (AllByRecursion (AllByRecursion HasCallLine)) (sym text.by_writer) (of_all_writers text.calls _ (spelled_calls text.call_lines text.calls text.calls_spelled));
}

-- ---- runs that are read line by line

pub no_messages : HaveMessageLines []
no_messages = record { distinct = λ i j d earlier within. absurd (omega (arith, within)); few = lit≤ tt; lines = tt }

-- the messages with the one that a line brings
pub lines_after : (before after : List Message) (line : List ℕ) (u : Unit {0}) → HaveMessageLines before → ReadsLine before line after (Ok u) → HaveMessageLines after
lines_after before after line u have (message, new, room, is) =
    subst HaveMessageLines (sym is) (record {
      distinct = still_distinct before message have.distinct new.new;
      few = omega (arith, length-append before (message ∷ []), room);
      lines = all-push HasLine before message have.lines (spelled_message line (length before) message new.spelled);
    })

-- a run without calls
pub start_has_text : (version : ℕ) (dictionary : List Message) (clocks : List Clock) (count : ℕ) → is_known version ≡ true → HaveMessageLines dictionary → MayHaveClocks version clocks → 1 ≤ count → count ≤ most_writers version → HasText (start_of version dictionary clocks count)
start_has_text version dictionary clocks count known have may some few =
    record { recorded = start_recorded version dictionary clocks count known may some few; messages = have; calls = all_copies (AllByRecursion HasCallLine) [] count tt }

-- the run with the call that a line brings
pub text_after : (run : Recording) (line : List ℕ) (made : WriterCall) → HasText run → call_at run line ≡ Ok made → HasText (with_call run made)
text_after run line made has read =
    let next = can_follow run line made read in
    let own = all_at (AllByRecursion HasCallLine) run.writers made.writer next.calls next.known has.calls in
    record {
      recorded = recorded_after run made has.recorded next;
      messages = has.messages;
      calls = all_after (AllByRecursion HasCallLine) run.writers made.writer made.call next.calls next.known (all-push HasCallLine next.calls made.call own (spelled_call line made (call_spelled run line made read))) has.calls;
    }
