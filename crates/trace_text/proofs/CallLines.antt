-- A line of a call is spelled as it is read.
use Rattle.std.proofs.Common.{◌≡◌, ◌≢◌, ℕ, ◌<◌, ◌≤◌, ◌^◌, Bool, true, false, leb, ltb, List, ◌∷◌, ◌++◌, length, Option, Some, Ok, refl, sym, ap, ◌∙◌, subst, append_assoc, arith}
use Rattle.std.specs.Prelude.{codes, decimal, ◌&&◌, slice_get, sum_by}
use Rattle.std.specs.Option.{ok_or}
use Rattle.std.proofs.lemmas.Bool.{le-ltb}
use Rattle.std.proofs.lemmas.Bool.Decides.{nat_tests}
use Rattle.std.proofs.lemmas.Option.{slice_get_within, same_Some}
use Rattle.printf_grammar.specs.Types.{Types}
use Rattle.log_dictionary.specs.declared.message.Message.{Message}
use Rattle.log_dictionary.specs.declared.dictionary.TheConstants.{MAX_MESSAGES}
use Rattle.log_dictionary.specs.Fields.{after, split_at_first, ◌>>=◌ as ◌>>>◌}
use Rattle.log_dictionary.specs.Fields.{first_field}
use Rattle.log_dictionary.specs.Clocks.{first_tick}
use Rattle.log_dictionary.proofs.lemmas.Splits.{split_takes, after_takes, found}
use Rattle.arg_records.specs.declared.call.Call.{Call}
use Rattle.arg_records.specs.declared.frame.TheConstants.{MAX_FRAME_WORDS}
use Rattle.arg_records.specs.Frames.{FrameLen}
use Rattle.arg_records.specs.Calls.{NeverFalls}
use Rattle.session_options.proofs.lemmas.VersionLimits.{few_writers}
use Rattle.trace_text.specs.declared.cause.TraceCause.{TraceCause}
use Rattle.trace_text.specs.declared.cause.TraceCause.TheVariants.{TooMany, CallForm, Writer, BeforeClock, StampFalls, Id, TooLong}
use Rattle.trace_text.specs.declared.trace.TheConstants.{MAX_CALLS}
use Rattle.trace_text.specs.Recordings.{Recording, IsRecording}
use Rattle.trace_text.specs.Lines.{WriterCall, SpellsCall}
use Rattle.trace_text.specs.LineFields.{begins_with, field_number, CallHead, head_at}
use Rattle.trace_text.specs.CallReading.{refused_if, ends_field, arguments_at, last_stamp, call_at}
use Rattle.trace_text.proofs.NumberFields.{number_read, number_taken}
use Rattle.trace_text.proofs.HeadLines.{split_number, three_joined}
use Rattle.trace_text.proofs.DecimalBytes.{decimal_all}
use Rattle.trace_text.proofs.ArgumentLines.{first_read, first_taken, arguments_end, arguments_read, arguments_taken, bind-Ok}
use Rattle.trace_text.proofs.CallSteps.{made_of, with_args, with_message, when_risen, when_ticked, with_calls, with_head, when_few, accepted}
use Rattle.trace_text.proofs.lemmas.CallRuns.{CanFollow, last_stamp-least, all_at}

-- ---- the front of a line

-- a writer, a stamp and an id, each below 2^64, and fields that begin with a space or aren't there
pub record IsHead (head : CallHead) : Type 0 where
  pub writer : head.writer < 2 ^ 64
  pub stamp : head.stamp < 2 ^ 64
  pub id : head.id < 2 ^ 64
  pub ends : ends_field head.fields ≡ true

-- the line with this front
abbrev pub line_of : CallHead → List ℕ
line_of head = codes "call " ++ decimal head.writer ++ 32 ∷ decimal head.stamp ++ 32 ∷ decimal head.id ++ head.fields

abbrev nested : CallHead → List ℕ
nested head = codes "call " ++ (decimal head.writer ++ 32 ∷ (decimal head.stamp ++ 32 ∷ (decimal head.id ++ head.fields)))

line_of-nested : (head : CallHead) → line_of head ≡ nested head
line_of-nested head = simp append_assoc

pub head_read : (head : CallHead) → IsHead head → head_at (line_of head) ≡ Some head
head_read head is =
    let id = first_read (decimal head.id) head.fields (decimal_all (λ byte. byte ≢ 32) (λ d small e. omega (arith, e)) head.id) is.ends in
    let stamp = split_number head.stamp (decimal head.id ++ head.fields) is.stamp in
    let writer = split_number head.writer (decimal head.stamp ++ 32 ∷ (decimal head.id ++ head.fields)) is.writer in
    ap head_at (line_of-nested head) ∙ rw (writer, number_read head.writer is.writer, stamp, number_read head.stamp is.stamp, id, number_read head.id is.id) refl

-- the steps by which the front of a line is read, from the last to the first
abbrev at_id : ℕ → ℕ → List ℕ → ℕ → Option CallHead
at_id writer stamp fields id = Some (record { writer = writer; stamp = stamp; id = id; fields = fields })

abbrev at_stamp : ℕ → List ℕ → ℕ → Option CallHead
at_stamp writer rest stamp = field_number (first_field rest).0 >>> at_id writer stamp (first_field rest).1

abbrev at_second : ℕ → List ℕ × List ℕ → Option CallHead
at_second writer parts = field_number parts.0 >>> at_stamp writer parts.1

abbrev at_writer : List ℕ → ℕ → Option CallHead
at_writer rest writer = split_at_first 32 rest >>> at_second writer

abbrev at_first : List ℕ × List ℕ → Option CallHead
at_first parts = field_number parts.0 >>> at_writer parts.1

abbrev at_fields : List ℕ → Option CallHead
at_fields fields = split_at_first 32 fields >>> at_first

-- what the front of a line of a call says
record SaysHead (line : List ℕ) (head : CallHead) : Type 0 where
  spelled : line ≡ line_of head
  is : IsHead head

head_taken : (line : List ℕ) (head : CallHead) → head_at line ≡ Some head → SaysHead line head
head_taken line head e =
    let fields = found (after (codes "call ") line) at_fields head e in
    let first = found (split_at_first 32 fields.x) at_first head fields.second in
    let writer = found (field_number first.x.0) (at_writer first.x.1) head first.second in
    let second = found (split_at_first 32 first.x.1) (at_second writer.x) head writer.second in
    let stamp = found (field_number second.x.0) (at_stamp writer.x second.x.1) head second.second in
    let id = found (field_number (first_field second.x.1).0) (at_id writer.x stamp.x (first_field second.x.1).1) head stamp.second in
    let made : CallHead = record { writer = writer.x; stamp = stamp.x; id = id.x; fields = (first_field second.x.1).1 } in
    let same : made ≡ head = same_Some made head id.second in
    let parted = first_taken second.x.1 in
    let writer_is = number_taken first.x.0 writer.x writer.first in
    let stamp_is = number_taken second.x.0 stamp.x stamp.first in
    let id_is = number_taken (first_field second.x.1).0 id.x id.first in
    let last : second.x.1 ≡ decimal id.x ++ made.fields = parted.joined ∙ ap (λ (front : List ℕ). front ++ made.fields) id_is.0 in
    let first_parted = split_takes 32 fields.x first.x.0 first.x.1 first.first in
    let second_parted = split_takes 32 first.x.1 second.x.0 second.x.1 second.first in
    let joined = three_joined (codes "call ") line fields.x first.x.0 first.x.1 second.x.0 second.x.1 (decimal writer.x) (decimal stamp.x) (decimal id.x ++ made.fields) (after_takes (codes "call ") line fields.x fields.first) first_parted.parts writer_is.0 second_parted.parts stamp_is.0 last in
    let spelled : line ≡ line_of made = joined ∙ sym (line_of-nested made) in
    subst (SaysHead line) same (record { spelled = spelled; is = record { writer = writer_is.1; stamp = stamp_is.1; id = id_is.1; ends = parted.ends } })

-- ---- a line that is spelled is read

not_full : (begins : Bool) (most n : ℕ) → n < most → (begins && leb most n) ≡ false
not_full true most n h = grind (arith, nat_tests)
not_full false most n h = refl

let_pass : (test : Bool) (cause : TraceCause) → test ≡ false → refused_if test cause ≡ Ok tt
let_pass test cause e = rw e refl

-- a line whose head is right in the run is read as far as its arguments
pub call_begun : (run : Recording) (line : List ℕ) (head : CallHead) (calls : List Call) (message : Message) → sum_by length run.writers < MAX_CALLS → head_at line ≡ Some head → slice_get run.writers head.writer ≡ Some calls
    → first_tick run.clocks ≤ head.stamp → last_stamp (first_tick run.clocks) calls ≤ head.stamp → slice_get run.dictionary head.id ≡ Some message → call_at run line ≡ with_message head message
call_begun run line head calls message few formed writer ticked risen known =
    let first = first_tick run.clocks in
    bind-Ok (refused_if (begins_with (codes "call ") line && leb MAX_CALLS (sum_by length run.writers)) TooMany) tt (λ _. when_few run line) (let_pass _ TooMany (not_full (begins_with (codes "call ") line) MAX_CALLS (sum_by length run.writers) few))
    ∙ bind-Ok (ok_or (head_at line) CallForm) head (with_head run) (ap (λ (o : Option CallHead). ok_or o CallForm) formed)
    ∙ bind-Ok (ok_or (slice_get run.writers head.writer) Writer) calls (with_calls run head) (ap (λ (o : Option (List Call)). ok_or o Writer) writer)
    ∙ bind-Ok (refused_if (ltb head.stamp first) BeforeClock) tt (λ _. when_ticked run head calls) (let_pass _ BeforeClock (le-ltb head.stamp first ticked))
    ∙ bind-Ok (refused_if (ltb head.stamp (last_stamp first calls)) StampFalls) tt (λ _. when_risen run head) (let_pass _ StampFalls (le-ltb head.stamp (last_stamp first calls) risen))
    ∙ bind-Ok (ok_or (slice_get run.dictionary head.id) Id) message (with_message head) (ap (λ (o : Option Message). ok_or o Id) known)

pub call_read : (run : Recording) (line : List ℕ) (made : WriterCall) → IsRecording run → length run.dictionary ≤ MAX_MESSAGES → SpellsCall line made → CanFollow run made → call_at run line ≡ Ok made
call_read run line made recorded few spells next =
    let message = next.is_call.message in
    let head : CallHead = record { writer = made.writer; stamp = made.call.stamp; id = made.call.id; fields = spells.fields } in
    let writer_there = slice_get_within run.writers made.writer next.calls next.known in
    let message_there = slice_get_within run.dictionary made.call.id message next.is_call.known in
    let is : IsHead head = record { writer = omega (arith, writer_there, recorded.few_writers, few_writers run.version); stamp = spells.stamp_fits; id = omega (arith, message_there, few); ends = arguments_end spells.fields made.call.args spells.arguments } in
    let headed : head_at line ≡ Some head = ap head_at spells.spelled ∙ head_read head is in
    let first = first_tick run.clocks in
    let ticked : first ≤ made.call.stamp = omega (arith, last_stamp-least first next.calls (all_at (NeverFalls first) run.writers made.writer next.calls next.known recorded.stamps), next.risen) in
    call_begun run line head next.calls message next.few headed next.known ticked next.risen next.is_call.known
    ∙ bind-Ok (arguments_at (Types message.format.pieces) head.fields) made.call.args (with_args head) (arguments_read (Types message.format.pieces) spells.fields made.call.args spells.arguments next.is_call.fits)
    ∙ bind-Ok (refused_if (ltb MAX_FRAME_WORDS (FrameLen made.call.args)) TooLong) tt (λ _. Ok (made_of head made.call.args)) (let_pass _ TooLong (le-ltb MAX_FRAME_WORDS (FrameLen made.call.args) next.is_call.short))

-- ---- a line that is read is spelled

-- the line that a call is read of spells it
pub call_spelled : (run : Recording) (line : List ℕ) (made : WriterCall) → call_at run line ≡ Ok made → SpellsCall line made
call_spelled run line made e =
    let is = accepted run line made e in
    let says = head_taken line is.head is.formed in
    let spells : SpellsCall line (made_of is.head is.args) = record { fields = is.head.fields; spelled = says.spelled; arguments = arguments_taken (Types is.message.format.pieces) is.head.fields is.args says.is.ends is.arguments; stamp_fits = says.is.stamp } in
    subst (SpellsCall line) (sym is.made_is) spells
