-- What a line of a call that is right says, and that the run with it is one that can be recorded.
use Rattle.std.proofs.Common.{◌≡◌, ◌≢◌, ℕ, ◌+◌, ◌<◌, Bool, true, false, List, length, Some, Result, Ok, Err, sym, subst}
use Rattle.std.specs.Prelude.{nat_le, nat_lt, sum_by, slice_get, codes, ◌&&◌}
use Rattle.std.specs.Option.{ok_or}
use Rattle.std.proofs.lemmas.Bool.{ltb-false, leb-false}
use Rattle.std.proofs.lemmas.Option.{slice_get_within}
use Rattle.printf_grammar.specs.declared.argument.Value.{Value}
use Rattle.printf_grammar.specs.Types.{Types}
use Rattle.log_dictionary.specs.declared.message.Message.{Message}
use Rattle.arg_records.specs.declared.call.Call.{Call}
use Rattle.arg_records.specs.declared.frame.TheConstants.{MAX_FRAME_WORDS}
use Rattle.arg_records.specs.Frames.{FrameLen}
use Rattle.trace_text.specs.declared.cause.TraceCause.{TraceCause}
use Rattle.trace_text.specs.declared.cause.TraceCause.TheVariants.{TooMany, CallForm, Writer, BeforeClock, StampFalls, Id, TooLong}
use Rattle.trace_text.specs.declared.trace.TheConstants.{MAX_CALLS}
use Rattle.trace_text.specs.Recordings.{Recording}
use Rattle.log_dictionary.specs.Clocks.{first_tick}
use Rattle.log_dictionary.specs.Fields.{IsFirstSplit}
use Rattle.trace_text.specs.declared.call_line.CallFault.{CallFault}
use Rattle.trace_text.specs.declared.call_line.CallFault.TheVariants.{Refused, NoMemory}
use Rattle.trace_text.specs.declared.lines.Lines.{Lines}
use Rattle.trace_text.specs.CallAnswers.{ReadsCall}
use Rattle.trace_text.specs.Reading as parts
use Rattle.trace_text.specs.Progress.{progress, IsRefusal, call_fault}
use Rattle.trace_text.specs.Lines.{WriterCall, last_line}
use Rattle.trace_text.specs.LineFields.{begins_with, CallHead, head_at}
use Rattle.trace_text.proofs.lemmas.CallRuns.{CanFollow, sum_by-with_call_of}
use Rattle.trace_text.proofs.Steps.{refused_here}
use Rattle.trace_text.proofs.LineFronts.{call_begins}
use Rattle.trace_text.proofs.Arguments.{arguments_fit, bind-ok, ok_or-ok, refused_if-ok}
use Rattle.trace_text.specs.CallReading.{◌>>=◌, refused_if, arguments_at, last_stamp, call_at, with_call}

-- the steps of a call's line, from the last on
abbrev pub made_of : CallHead → List Value → WriterCall
made_of head args = record { writer = head.writer; call = record { stamp = head.stamp; id = head.id; args = args } }

abbrev pub with_args : CallHead → List Value → Result WriterCall TraceCause
with_args head args = refused_if (nat_lt MAX_FRAME_WORDS (FrameLen args)) TooLong >>= (λ _. Ok (made_of head args))

abbrev pub with_message : CallHead → Message → Result WriterCall TraceCause
with_message head message = arguments_at (Types message.format.pieces) head.fields >>= with_args head

abbrev pub when_risen : Recording → CallHead → Result WriterCall TraceCause
when_risen run head = ok_or (slice_get run.dictionary head.id) Id >>= with_message head

abbrev pub when_ticked : Recording → CallHead → List Call → Result WriterCall TraceCause
when_ticked run head calls = refused_if (nat_lt head.stamp (last_stamp (first_tick run.clocks) calls)) StampFalls >>= (λ _. when_risen run head)

abbrev pub with_calls : Recording → CallHead → List Call → Result WriterCall TraceCause
with_calls run head calls = refused_if (nat_lt head.stamp (first_tick run.clocks)) BeforeClock >>= (λ _. when_ticked run head calls)

abbrev pub with_head : Recording → CallHead → Result WriterCall TraceCause
with_head run head = ok_or (slice_get run.writers head.writer) Writer >>= with_calls run head

abbrev pub when_few : Recording → List ℕ → Result WriterCall TraceCause
when_few run line = ok_or (head_at line) CallForm >>= with_head run

-- a line of a call that is right in the run
pub record IsAccepted (run : Recording) (line : List ℕ) (made : WriterCall) : Type 0 where
  pub head : CallHead
  pub calls : List Call
  pub message : Message
  pub args : List Value
  pub few : (begins_with (codes "call ") line && nat_le MAX_CALLS (sum_by length run.writers)) ≡ false
  pub formed : head_at line ≡ Some head
  pub writer_known : slice_get run.writers head.writer ≡ Some calls
  pub ticked : nat_lt head.stamp (first_tick run.clocks) ≡ false
  pub risen : nat_lt head.stamp (last_stamp (first_tick run.clocks) calls) ≡ false
  pub known : slice_get run.dictionary head.id ≡ Some message
  pub arguments : arguments_at (Types message.format.pieces) head.fields ≡ Ok args
  pub short : nat_lt MAX_FRAME_WORDS (FrameLen args) ≡ false
  pub made_is : made ≡ made_of head args

made_from : (head : CallHead) (args : List Value) (made : WriterCall) → ◌≡◌ {A = Result WriterCall TraceCause} (Ok (made_of head args)) (Ok made) → made ≡ made_of head args
made_from head args made e = cc

pub accepted : (run : Recording) (line : List ℕ) (made : WriterCall) → call_at run line ≡ Ok made → IsAccepted run line made
accepted run line made e =
    let few = bind-ok (refused_if (begins_with (codes "call ") line && nat_le MAX_CALLS (sum_by length run.writers)) TooMany) (λ _. when_few run line) made e in
    let formed = bind-ok (ok_or (head_at line) CallForm) (with_head run) made few.2 in
    let head = formed.0 in
    let writer_known = bind-ok (ok_or (slice_get run.writers head.writer) Writer) (with_calls run head) made formed.2 in
    let calls = writer_known.0 in
    let ticked = bind-ok (refused_if (nat_lt head.stamp (first_tick run.clocks)) BeforeClock) (λ _. when_ticked run head calls) made writer_known.2 in
    let risen = bind-ok (refused_if (nat_lt head.stamp (last_stamp (first_tick run.clocks) calls)) StampFalls) (λ _. when_risen run head) made ticked.2 in
    let known = bind-ok (ok_or (slice_get run.dictionary head.id) Id) (with_message head) made risen.2 in
    let arguments = bind-ok (arguments_at (Types known.0.format.pieces) head.fields) (with_args head) made known.2 in
    let short = bind-ok (refused_if (nat_lt MAX_FRAME_WORDS (FrameLen arguments.0)) TooLong) (λ _. Ok (made_of head arguments.0)) made arguments.2 in
    record {
      head = head;
      calls = calls;
      message = known.0;
      args = arguments.0;
      few = refused_if-ok _ _ _ few.1;
      formed = ok_or-ok _ _ _ formed.1;
      writer_known = ok_or-ok _ _ _ writer_known.1;
      ticked = refused_if-ok _ _ _ ticked.1;
      risen = refused_if-ok _ _ _ risen.1;
      known = ok_or-ok _ _ _ known.1;
      arguments = arguments.1;
      short = refused_if-ok _ _ _ short.1;
      made_is = made_from head arguments.0 made short.2;
    }

-- ---- the call can be the run's next one

few_before : (begun full : Bool) → begun ≡ true → (begun && full) ≡ false → full ≡ false
few_before true full begun e = e
few_before false full begun e = absurd cc

-- a call whose line is right can follow in the run
next_call : (run : Recording) (line : List ℕ) (made : WriterCall) (is : IsAccepted run line made) → CanFollow run (made_of is.head is.args)
next_call run line made is = record {
  few = leb-false _ _ (few_before _ _ (call_begins line is.head is.formed) is.few);
  calls = is.calls;
  known = is.writer_known;
  risen = ltb-false _ _ is.risen;
  is_call = record {
    message = is.message;
    known = is.known;
    fits = arguments_fit (Types is.message.format.pieces) is.head.fields is.args is.arguments;
    short = ltb-false _ _ is.short;
  };
}

pub can_follow : (run : Recording) (line : List ℕ) (made : WriterCall) → call_at run line ≡ Ok made → CanFollow run made
can_follow run line made e =
    let is = accepted run line made e in
    subst (CanFollow run) (sym is.made_is) (next_call run line made is)

-- its writer is there
pub writer_is_there : (run : Recording) (made : WriterCall) → CanFollow run made → made.writer < length run.writers
writer_is_there run made next = slice_get_within run.writers made.writer next.calls next.known

-- there is one call more
pub one_call_more : (run : Recording) (made : WriterCall) → CanFollow run made → sum_by length (with_call run made).writers ≡ sum_by length run.writers + 1
one_call_more run made next = sum_by-with_call_of run.writers made.writer made.call next.calls next.known

-- the line is refused as its fault says
pub breaks_call : (run : Recording) (lines : Lines) (line behind : List ℕ) (fault : CallFault) → IsFirstSplit 10 lines.bytes.now line behind → line ≢ last_line → ReadsCall run line (Err fault) → IsRefusal (progress (parts.calls run) lines) (call_fault lines.number fault)
breaks_call run lines line behind (Refused cause) split other read = refused_here (progress (parts.calls run) lines) line behind cause split (other, read)
breaks_call run lines line behind NoMemory split other read = tt
