-- Where reading a text line by line gives a run, the text is one of that run.
use Rattle.std.proofs.Common.{◌≡◌, ℕ, ◌+◌, ◌<◌, ◌≤◌, true, List, [], ◌∷◌, ◌++◌, map, length, Result, Ok, Err, refl, ap, sym, ◌∙◌, subst, append_assoc, inl, inr, arith}
use Rattle.std.specs.Prelude.{Some, codes, IsErrOf}
use Rattle.std.specs.List.{AllByRecursion, range_with_len}
use Rattle.std.proofs.lemmas.Bool.{and_parts}
use Rattle.std.proofs.lemmas.List.{append-nil, length-append, length-replicate}
use Rattle.log_dictionary.specs.declared.clock.Clock.{Clock}
use Rattle.log_dictionary.specs.declared.message.Message.{Message}
use Rattle.log_dictionary.specs.declared.dictionary.TheConstants.{MAX_MESSAGES}
use Rattle.log_dictionary.specs.Messages.{AreDistinct}
use Rattle.log_dictionary.proofs.lemmas.Distinct.{still_distinct}
use Rattle.session_options.specs.Versions.{is_known, has_clocks, MayHaveClocks}
use Rattle.session_options.proofs.lemmas.RunClocks.{may_have_more}
use Rattle.trace_text.specs.declared.trace.TheConstants.{MAX_TRACE}
use Rattle.trace_text.specs.declared.reading.TraceFault.{TraceFault}
use Rattle.trace_text.specs.declared.reading.TraceFault.TheVariants.{ReadFault, Refused, NoMemory}
use Rattle.trace_text.specs.Progress.{TraceProgress, progress, ReadsToEnd}
use Rattle.trace_text.specs.declared.lines.Lines.{Lines}
use Rattle.trace_text.specs.TraceReading.{IsAnswer}
use Rattle.trace_text.specs.Recordings.{Recording, start_of, IsRecording}
use Rattle.trace_text.specs.Lines.{WriterCall, first_line, last_line, clock_line, writers_line, SpellsMessages, SpellsCalls, text_of_lines}
use Rattle.trace_text.specs.LineFields.{begins_with, clock_at, writers_at}
use Rattle.trace_text.specs.Traces.{calls_by, TraceText}
use Rattle.trace_text.specs.CallReading.{with_call_of, with_call}
use Rattle.trace_text.specs.Reading.{TracePart, opening, messages, clocks, calls, ended, ReadsLines, Gives}
use Rattle.trace_text.proofs.HeadLines.{version_taken, clock_taken, later_taken, writers_taken}
use Rattle.trace_text.proofs.lemmas.CallRuns.{with_calls, writers_are, recorded_after, length-writers_with, length-with_call_of}
use Rattle.trace_text.proofs.lemmas.RunSteps.{one_clock, start_recorded}
use Rattle.trace_text.proofs.TextReads.{NextCalls}
use Rattle.trace_text.proofs.CallLines.{call_spelled}
use Rattle.trace_text.proofs.CallSteps.{can_follow, writer_is_there}

-- ---- part by part, from the last

ended_taken : (run outcome : Recording) (n : ℕ) (lines : List (List ℕ)) (rest : List ℕ) → ReadsLines (ended run) n lines rest (Ok outcome) → (lines ≡ []) × (rest ≡ []) × (outcome ≡ run)
ended_taken run outcome n [] [] reads = (refl, refl, cc)
ended_taken run outcome n [] (byte ∷ rest) reads = absurd cc
ended_taken run outcome n (line ∷ lines) rest (inl (next, follows, reads)) = absurd follows
ended_taken run outcome n (line ∷ lines) rest (inr (cause, breaks, is)) = absurd cc

-- lines of calls, the last line and nothing behind it, which add the calls to the run
record CallsTaken (run : Recording) (lines : List (List ℕ)) (rest : List ℕ) (outcome : Recording) : Type 0 where
  call_lines : List (List ℕ)
  made : List WriterCall
  split : lines ≡ call_lines ++ last_line ∷ []
  nothing : rest ≡ []
  next : NextCalls run call_lines made
  is : outcome ≡ with_calls run made

calls_taken : (run outcome : Recording) (n : ℕ) (lines : List (List ℕ)) (rest : List ℕ) → ReadsLines (calls run) n lines rest (Ok outcome) → CallsTaken run lines rest outcome
calls_taken run outcome n [] rest reads = absurd cc
calls_taken run outcome n (line ∷ lines) rest (inl (next, inl (last, is), reads)) =
    let end = ended_taken run outcome (n + 1) lines rest (subst (λ (part : TracePart). ReadsLines part (n + 1) lines rest (Ok outcome)) is reads) in
    record { call_lines = []; made = []; split = ap (λ (text : List ℕ). text ∷ lines) last ∙ ap (λ (others : List (List ℕ)). last_line ∷ others) end.0; nothing = end.1; next = tt; is = end.2 }
calls_taken run outcome n (line ∷ lines) rest (inl (next, inr (other, (made, found, is)), reads)) =
    let then = calls_taken (with_call run made) outcome (n + 1) lines rest (subst (λ (part : TracePart). ReadsLines part (n + 1) lines rest (Ok outcome)) is reads) in
    record { call_lines = line ∷ then.call_lines; made = made ∷ then.made; split = ap (λ (others : List (List ℕ)). line ∷ others) then.split; nothing = then.nothing; next = (found, then.next); is = then.is }
calls_taken run outcome n (line ∷ lines) rest (inr (cause, breaks, is)) = absurd cc

-- lines of clocks and that of the number of writers, and what follows them
record ClocksTaken (version : ℕ) (dictionary : List Message) (before : List Clock) (lines : List (List ℕ)) (rest : List ℕ) (outcome : Recording) : Type 0 where
  later : List Clock
  text : List ℕ
  count : ℕ
  behind : List (List ℕ)
  n : ℕ
  split : lines ≡ map clock_line later ++ text ∷ behind
  may : MayHaveClocks version (before ++ later)
  found : writers_at version text ≡ Some count
  reads : ReadsLines (calls (start_of version dictionary (before ++ later) count)) n behind rest (Ok outcome)

clocks_taken : (version : ℕ) (dictionary : List Message) (before : List Clock) (outcome : Recording) (n : ℕ) (lines : List (List ℕ)) (rest : List ℕ) → MayHaveClocks version before → ReadsLines (clocks version dictionary before) n lines rest (Ok outcome)
    → ClocksTaken version dictionary before lines rest outcome
clocks_taken version dictionary before outcome n [] rest may reads = absurd cc
clocks_taken version dictionary before outcome n (line ∷ lines) rest may (inl (next, inl (later, (time, read, is)), reads)) =
    let says = later_taken before line time read in
    let after : List Clock = before ++ time ∷ [] in
    let has = (and_parts (has_clocks version) (begins_with (codes "clock ") line) later).0 in
    let then = clocks_taken version dictionary after outcome (n + 1) lines rest (may_have_more version before after time may has says.follows says.fits refl) (subst (λ (part : TracePart). ReadsLines part (n + 1) lines rest (Ok outcome)) is reads) in
    let one : after ++ then.later ≡ before ++ time ∷ then.later = append_assoc before (time ∷ []) then.later in
    record {
      later = time ∷ then.later;
      text = then.text;
      count = then.count;
      behind = then.behind;
      n = then.n;
      split = ap (λ (text : List ℕ). text ∷ lines) says.spelled ∙ ap (λ (others : List (List ℕ)). clock_line time ∷ others) then.split;
      may = subst (MayHaveClocks version) one then.may;
      found = then.found;
      reads = subst (λ (all : List Clock). ReadsLines (calls (start_of version dictionary all then.count)) then.n then.behind rest (Ok outcome)) one then.reads;
    }
clocks_taken version dictionary before outcome n (line ∷ lines) rest may (inl (next, inr (other, (count, found, is)), reads)) =
    let all : before ≡ before ++ [] = sym (append-nil before) in
    record {
      later = [];
      text = line;
      count = count;
      behind = lines;
      n = n + 1;
      split = refl;
      may = subst (MayHaveClocks version) all may;
      found = found;
      reads = subst (λ (part : TracePart). ReadsLines part (n + 1) lines rest (Ok outcome)) (is ∙ ap (λ (times : List Clock). calls (start_of version dictionary times count)) all) reads;
    }
clocks_taken version dictionary before outcome n (line ∷ lines) rest may (inr (cause, breaks, is)) = absurd cc

-- lines of messages and that of the first clock, and what follows them
record MessagesTaken (version : ℕ) (before : List Message) (lines : List (List ℕ)) (rest : List ℕ) (outcome : Recording) : Type 0 where
  message_lines : List (List ℕ)
  dictionary : List Message
  text : List ℕ
  time : Clock
  behind : List (List ℕ)
  n : ℕ
  split : lines ≡ message_lines ++ text ∷ behind
  spelled : SpellsMessages (length before) message_lines dictionary
  distinct : AreDistinct (before ++ dictionary)
  few : length (before ++ dictionary) ≤ MAX_MESSAGES
  found : clock_at text ≡ Some time
  reads : ReadsLines (clocks version (before ++ dictionary) (time ∷ [])) n behind rest (Ok outcome)

messages_taken : (version : ℕ) (before : List Message) (outcome : Recording) (n : ℕ) (lines : List (List ℕ)) (rest : List ℕ) → AreDistinct before → length before ≤ MAX_MESSAGES → ReadsLines (messages version before) n lines rest (Ok outcome) → MessagesTaken version before lines rest outcome
messages_taken version before outcome n [] rest distinct few reads = absurd cc
messages_taken version before outcome n (line ∷ lines) rest distinct few (inl (next, inl (begins, room, (message, new, is)), reads)) =
    let after : List Message = before ++ message ∷ [] in
    let count : length after ≡ length before + 1 = length-append before (message ∷ []) in
    let then = messages_taken version after outcome (n + 1) lines rest (still_distinct before message distinct new.new) (omega (arith, count, room)) (subst (λ (part : TracePart). ReadsLines part (n + 1) lines rest (Ok outcome)) is reads) in
    let one : after ++ then.dictionary ≡ before ++ message ∷ then.dictionary = append_assoc before (message ∷ []) then.dictionary in
    record {
      message_lines = line ∷ then.message_lines;
      dictionary = message ∷ then.dictionary;
      text = then.text;
      time = then.time;
      behind = then.behind;
      n = then.n;
      split = ap (λ (others : List (List ℕ)). line ∷ others) then.split;
      spelled = (new.spelled, subst (λ (id : ℕ). SpellsMessages id then.message_lines then.dictionary) count then.spelled);
      distinct = subst AreDistinct one then.distinct;
      few = subst (λ (all : List Message). length all ≤ MAX_MESSAGES) one then.few;
      found = then.found;
      reads = subst (λ (all : List Message). ReadsLines (clocks version all (then.time ∷ [])) then.n then.behind rest (Ok outcome)) one then.reads;
    }
messages_taken version before outcome n (line ∷ lines) rest distinct few (inl (next, inr (other, (time, found, is)), reads)) =
    let all : before ≡ before ++ [] = sym (append-nil before) in
    record {
      message_lines = [];
      dictionary = [];
      text = line;
      time = time;
      behind = lines;
      n = n + 1;
      split = refl;
      spelled = tt;
      distinct = subst AreDistinct all distinct;
      few = subst (λ (all : List Message). length all ≤ MAX_MESSAGES) all few;
      found = found;
      reads = subst (λ (part : TracePart). ReadsLines part (n + 1) lines rest (Ok outcome)) (is ∙ ap (λ (all : List Message). clocks version all (time ∷ [])) all) reads;
    }
messages_taken version before outcome n (line ∷ lines) rest distinct few (inr (cause, breaks, is)) = absurd cc

-- the first line, and what follows it
record OpeningTaken (lines : List (List ℕ)) (rest : List ℕ) (outcome : Recording) : Type 0 where
  version : ℕ
  behind : List (List ℕ)
  n : ℕ
  known : is_known version ≡ true
  split : lines ≡ first_line version ∷ behind
  reads : ReadsLines (messages version []) n behind rest (Ok outcome)

opening_taken : (outcome : Recording) (n : ℕ) (lines : List (List ℕ)) (rest : List ℕ) → ReadsLines opening n lines rest (Ok outcome) → OpeningTaken lines rest outcome
opening_taken outcome n [] rest reads = absurd cc
opening_taken outcome n (line ∷ lines) rest (inl (next, (version, found, is), reads)) =
    let says = version_taken line version found in
    record { version = version; behind = lines; n = n + 1; known = says.known; split = ap (λ (text : List ℕ). text ∷ lines) says.spelled; reads = subst (λ (part : TracePart). ReadsLines part (n + 1) lines rest (Ok outcome)) is reads }
opening_taken outcome n (line ∷ lines) rest (inr (cause, breaks, is)) = absurd cc

-- ---- the calls

-- calls that were read one after the other make a recorded run of a recorded run
calls_made : (run : Recording) (lines : List (List ℕ)) (made : List WriterCall) → IsRecording run → NextCalls run lines made → SpellsCalls lines made × AllByRecursion (λ call. call.writer < length run.writers) made × IsRecording (with_calls run made)
calls_made run [] [] recorded next = (tt, tt, recorded)
calls_made run (line ∷ lines) (made ∷ others) recorded next =
    let here = can_follow run line made next.0 in
    let then = calls_made (with_call run made) lines others (recorded_after run made recorded here) next.1 in
    let long : length (with_call_of run.writers made.writer made.call) ≡ length run.writers = length-with_call_of run.writers made.writer made.call in (
      (call_spelled run line made next.0, then.0),
      (writer_is_there run made here, subst (λ (n : ℕ). AllByRecursion (λ (call : WriterCall). call.writer < n) others) long then.1),
      then.2,
    )
calls_made run [] (made ∷ others) recorded next = absurd next
calls_made run (line ∷ lines) [] recorded next = absurd next

-- ---- the text

-- where reading gives a run the text is one of it
pub read_spells : (bytes : List ℕ) (run : Recording) → length bytes ≤ MAX_TRACE → Gives opening 1 bytes (Ok run) → TraceText bytes run
read_spells bytes run short gives =
    let first = opening_taken run 1 gives.lines gives.rest gives.reads in
    let version : ℕ = first.version in
    let named = messages_taken version [] run first.n first.behind gives.rest (λ i j d earlier within. absurd (omega (arith, within))) (omega arith) first.reads in
    let time = clock_taken named.text named.time named.found in
    let timed = clocks_taken version named.dictionary (named.time ∷ []) run named.n named.behind gives.rest (one_clock version named.time time.ticks time.fits) named.reads in
    let times : List Clock = named.time ∷ timed.later in
    let writers = writers_taken version timed.text timed.count timed.found in
    let start = start_of version named.dictionary times timed.count in
    let called = calls_taken start run timed.n timed.behind gives.rest timed.reads in
    let made = calls_made start called.call_lines called.made (start_recorded version named.dictionary times timed.count first.known timed.may writers.some writers.few) called.next in
    let all = with_calls start called.made in
    let long : length start.writers ≡ length all.writers = sym (length-writers_with start.writers called.made) in
    let count : timed.count ≡ length all.writers = sym (length-replicate timed.count []) ∙ long in
    let counted : timed.text ≡ writers_line (length all.writers) = writers.spelled ∙ ap writers_line count in
    let last : timed.text ∷ timed.behind ≡ writers_line (length all.writers) ∷ called.call_lines ++ last_line ∷ [] = ap (λ (text : List ℕ). text ∷ timed.behind) counted ∙ ap (λ (lines : List (List ℕ)). writers_line (length all.writers) ∷ lines) called.split in
    let later : named.behind ≡ map clock_line timed.later ++ (writers_line (length all.writers) ∷ called.call_lines ++ last_line ∷ []) = timed.split ∙ ap (λ (lines : List (List ℕ)). map clock_line timed.later ++ lines) last in
    let ticked : named.text ∷ named.behind ≡ map clock_line times ++ (writers_line (length all.writers) ∷ called.call_lines ++ last_line ∷ []) = ap (λ (text : List ℕ). text ∷ named.behind) time.spelled ∙ ap (λ (lines : List (List ℕ)). clock_line named.time ∷ lines) later in
    let lines : gives.lines ≡ first_line version ∷ named.message_lines ++ (map clock_line times ++ (writers_line (length all.writers) ∷ called.call_lines ++ last_line ∷ [])) =
    first.split ∙ ap (λ (lines : List (List ℕ)). first_line version ∷ lines) named.split ∙ ap (λ (lines : List (List ℕ)). first_line version ∷ named.message_lines ++ lines) ticked in
    let whole : bytes ≡ text_of_lines gives.lines = gives.cut.joined ∙ ap (λ (rest : List ℕ). text_of_lines gives.lines ++ rest) called.nothing ∙ append-nil (text_of_lines gives.lines) in
    subst (TraceText bytes) (sym called.is) (record {
      short = short;
      message_lines = named.message_lines;
      call_lines = called.call_lines;
      calls = called.made;
      whole = whole ∙ ap text_of_lines lines;
      messages_spelled = named.spelled;
      distinct = named.distinct;
      few_messages = named.few;
      calls_spelled = made.0;
      known_writers = subst (λ (n : ℕ). AllByRecursion (λ (call : WriterCall). call.writer < n) called.made) long made.1;
      by_writer = writers_are timed.count called.made ∙ ap (λ (n : ℕ). map (calls_by called.made) (range_with_len 0 n)) count;
      recorded = made.2;
    })

-- what a reader of the whole text says
pub answered : (text : List ℕ) (r : Result Recording TraceFault) → length text ≤ MAX_TRACE → ReadsToEnd (record { part = opening; number = 1; bytes = text }) r → IsAnswer text r
answered text (Ok run) short gives = read_spells text run short gives
answered text (Err (Refused line cause)) short gives = inr (short, gives)
answered text (Err NoMemory) short gives = tt
answered text (Err ReadFault) short gives = absurd gives

-- the same, of a reader that was given all lines of the text
pub answered_of : (text : List ℕ) (lines : Lines) (r : Result Recording TraceFault) → length text ≤ MAX_TRACE → lines.number ≡ 1 → lines.bytes.now ≡ text → ReadsToEnd (progress opening lines) r → IsAnswer text r
answered_of text lines r short number bytes whole =
    answered text r short (subst (λ (n : ℕ). ReadsToEnd (record { part = opening; number = n; bytes = text }) r) number (subst (λ (left : List ℕ). ReadsToEnd (record { part = opening; number = lines.number; bytes = left }) r) bytes whole))

-- no reader of lines says that its source failed
pub not_unread : (from : TraceProgress) (r : Result Recording TraceFault) → ReadsToEnd from r → ¬ (IsErrOf r ReadFault)
not_unread from (Ok run) finished is = absurd cc
not_unread from (Err (Refused line cause)) finished is = absurd cc
not_unread from (Err NoMemory) finished is = absurd cc
not_unread from (Err ReadFault) finished is = finished
