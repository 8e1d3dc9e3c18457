-- A text of a run, read line by line, gives that run.
use Rattle.std.proofs.Common.{◌≡◌, ◌≢◌, ℕ, ◌+◌, ◌-◌, ◌<◌, ◌≤◌, lit≤, true, List, [], ◌∷◌, ◌++◌, map, length, get_or, Result, Ok, Err, refl, ap, sym, ◌∙◌, subst, append_assoc, inl, inr, arith}
use Rattle.std.specs.Prelude.{Some, slice_get}
use Rattle.std.specs.List.{AllByRecursion}
use Rattle.std.proofs.Math.ListN.{get_or-append}
use Rattle.std.proofs.Math.Seq.{get_or-append_seam}
use Rattle.std.proofs.lemmas.Bool.{and_from, true_from_ne_false}
use Rattle.std.proofs.lemmas.List.{append-nil, length-append, length-replicate}
use Rattle.std.proofs.lemmas.List.Elements.{All-get_or, All-head}
use Rattle.std.proofs.lemmas.Option.{slice_get-get_or}
use Rattle.log_dictionary.specs.declared.clock.Clock.{Clock}
use Rattle.log_dictionary.specs.declared.message.Message.{Message}
use Rattle.log_dictionary.specs.Clocks.{AreClocks, FitsClock, FollowsClocks, last_tick}
use Rattle.log_dictionary.proofs.lemmas.ClockLists.{last_tick-place}
use Rattle.session_options.specs.Versions.{has_clocks, MayHaveClocks}
use Rattle.log_dictionary.specs.declared.dictionary.TheConstants.{MAX_MESSAGES}
use Rattle.arg_records.specs.declared.call.Call.{Call}
use Rattle.trace_text.specs.declared.cause.TraceCause.TheVariants.{CallForm}
use Rattle.trace_text.specs.Recordings.{Recording, start_of, IsRecording}
use Rattle.trace_text.specs.Lines.{WriterCall, first_line, last_line, clock_line, writers_line, SpellsMessages, SpellsCalls, text_of_lines}
use Rattle.trace_text.specs.Traces.{TraceText}
use Rattle.trace_text.specs.CallReading.{call_at, with_call_of, with_call}
use Rattle.trace_text.specs.Reading.{opening, messages, clocks, calls, ended, Broken, IsOneLine, ReadsLines, Gives}
use Rattle.trace_text.proofs.NextMessages.{message_begins, NextMessages, next_messages}
use Rattle.trace_text.proofs.OneLines.{first_is_line, last_is_line, clock_is_line, writers_is_line, message_is_line, call_is_line}
use Rattle.trace_text.proofs.HeadLines.{version_read, clock_read, later_read, writers_read, not_later}
use Rattle.trace_text.proofs.lemmas.CallRuns.{writers_with, with_calls, writers_are, recorded_before, length-with_call_of}
use Rattle.trace_text.proofs.CallLines.{call_read}

-- ---- no line has a line feed

lines-append : (front back : List (List ℕ)) → AllByRecursion IsOneLine front → AllByRecursion IsOneLine back → AllByRecursion IsOneLine (front ++ back)
lines-append [] back first second = second
lines-append (line ∷ front) back first second = (first.0, lines-append front back first.1 second)

messages_are_lines : (id : ℕ) (lines : List (List ℕ)) (dictionary : List Message) → SpellsMessages id lines dictionary → AllByRecursion IsOneLine lines
messages_are_lines id [] [] spells = tt
messages_are_lines id (line ∷ lines) (message ∷ dictionary) spells = (message_is_line line id message spells.0, messages_are_lines (id + 1) lines dictionary spells.1)
messages_are_lines id [] (message ∷ dictionary) spells = absurd spells
messages_are_lines id (line ∷ lines) [] spells = absurd spells

calls_are_lines : (lines : List (List ℕ)) (made : List WriterCall) → SpellsCalls lines made → AllByRecursion IsOneLine lines
calls_are_lines [] [] spells = tt
calls_are_lines (line ∷ lines) (first ∷ made) spells = (call_is_line line first spells.0, calls_are_lines lines made spells.1)
calls_are_lines [] (first ∷ made) spells = absurd spells
calls_are_lines (line ∷ lines) [] spells = absurd spells

-- ---- messages

module _ (version : ℕ) (rest : List ℕ) (outcome : Result Recording Broken) where
  -- lines of messages lead from the messages before them to all messages
  messages_read : (before : List Message) (lines : List (List ℕ)) (dictionary : List Message) (behind : List (List ℕ)) (n : ℕ) → NextMessages before lines dictionary
      → ((m : ℕ) → ReadsLines (messages version (before ++ dictionary)) m behind rest outcome) → ReadsLines (messages version before) n (lines ++ behind) rest outcome
  messages_read before [] [] behind n next then = subst (λ all. ReadsLines (messages version all) n behind rest outcome) (append-nil before) (then n)
  messages_read before (line ∷ lines) (message ∷ dictionary) behind n next then =
      let one : (before ++ message ∷ []) ++ dictionary ≡ before ++ message ∷ dictionary = append_assoc before (message ∷ []) dictionary in
      inl (
        messages version (before ++ message ∷ []),
        inl (message_begins line (length before) message next.0.new.spelled, next.0.room, (message, next.0.new, refl)),
        messages_read (before ++ message ∷ []) lines dictionary behind (n + 1) next.1 (λ m. subst (λ all. ReadsLines (messages version all) m behind rest outcome) (sym one) (then m)),
      )
  messages_read before [] (message ∷ dictionary) behind n next then = absurd next
  messages_read before (line ∷ lines) [] behind n next then = absurd next

-- ---- clocks

clocks_are_lines : (times : List Clock) → AllByRecursion IsOneLine (map clock_line times)
clocks_are_lines [] = tt
clocks_are_lines (clock ∷ times) = (clock_is_line clock, clocks_are_lines times)

-- among the clocks of a run each one behind others follows them
follows_before : (before later : List Clock) (clock : Clock) → 1 ≤ length before → AreClocks (before ++ clock ∷ later) → FollowsClocks before clock
follows_before before later clock some are =
    let all : List Clock = before ++ clock ∷ later in
    let at : ℕ = length before in
    let long : length all ≡ at + length (clock ∷ later) = length-append before (clock ∷ later) in
    let here : get_or all at clock ≡ clock = get_or-append_seam before clock later clock in
    let kept : get_or all (at - 1) clock ≡ get_or before (at - 1) clock = get_or-append before (clock ∷ later) clock (at - 1) (omega (arith, some)) in
    let last : last_tick before ≡ (get_or before (at - 1) clock).tick = last_tick-place before (at - 1) clock (omega (arith, some)) in
    let rises = are.rising (at - 1) at clock (omega (arith, some)) (omega (arith, long)) in
    record {
      few = omega (arith, long, are.few);
      above = omega (arith, last, rises, ap (λ (time : Clock). time.tick) kept, ap (λ (time : Clock). time.tick) here);
      rate = subst (λ (time : Clock). 1 ≤ time.rate) here (All-get_or (λ (time : Clock). 1 ≤ time.rate) all at clock (omega (arith, long)) are.rates);
    }

-- a version in which a run has a clock behind others has more clocks
has_more : (version : ℕ) (times : List Clock) → MayHaveClocks version times → 2 ≤ length times → has_clocks version ≡ true
has_more version times may more = true_from_ne_false (has_clocks version) (λ none. omega (arith, may.alone none, more))

module _ (version : ℕ) (dictionary : List Message) (rest : List ℕ) (outcome : Result Recording Broken) where
  -- lines of clocks lead from the clocks before them to all clocks
  later_clocks_read : (before times : List Clock) (behind : List (List ℕ)) (n : ℕ) → 1 ≤ length before → MayHaveClocks version (before ++ times)
      → ((m : ℕ) → ReadsLines (clocks version dictionary (before ++ times)) m behind rest outcome) → ReadsLines (clocks version dictionary before) n (map clock_line times ++ behind) rest outcome
  later_clocks_read before [] behind n some may then = subst (λ all. ReadsLines (clocks version dictionary all) n behind rest outcome) (append-nil before) (then n)
  later_clocks_read before (clock ∷ times) behind n some may then =
      let one : (before ++ clock ∷ []) ++ times ≡ before ++ clock ∷ times = append_assoc before (clock ∷ []) times in
      let long : length (before ++ clock ∷ times) ≡ length before + length (clock ∷ times) = length-append before (clock ∷ times) in
      let has = has_more version (before ++ clock ∷ times) may (omega (arith, some, long)) in
      let follows = follows_before before times clock some may.are in
      let fits = subst FitsClock (get_or-append_seam before clock times clock) (All-get_or FitsClock (before ++ clock ∷ times) (length before) clock (omega (arith, long)) may.fit) in
      inl (
        clocks version dictionary (before ++ clock ∷ []),
        inl (and_from (has_clocks version) true has refl, (clock, later_read before clock follows.few follows.above fits follows.rate, refl)),
        later_clocks_read (before ++ clock ∷ []) times behind (n + 1) (omega (arith, length-append before (clock ∷ []))) (subst (MayHaveClocks version) (sym one) may) (λ m. subst (λ all. ReadsLines (clocks version dictionary all) m behind rest outcome) (sym one) (then m)),
      )

  clocks_read : (times : List Clock) (behind : List (List ℕ)) (n : ℕ) → MayHaveClocks version times
      → ((m : ℕ) → ReadsLines (clocks version dictionary times) m behind rest outcome) → ReadsLines (messages version dictionary) n (map clock_line times ++ behind) rest outcome
  clocks_read [] behind n may then = absurd (omega (arith, may.are.some))
  clocks_read (clock ∷ times) behind n may then = inl (
    clocks version dictionary (clock ∷ []),
    inr (refl, (clock, clock_read clock (All-head FitsClock clock times may.fit) (All-head (λ (time : Clock). 1 ≤ time.rate) clock times may.are.rates), refl)),
    later_clocks_read (clock ∷ []) times behind (n + 1) (lit≤ tt) may then,
  )

-- ---- calls

-- the lines, one after the other, are read as these calls
abbrev pub NextCalls : Recording → List (List ℕ) → List WriterCall → Type 0
NextCalls run [] [] = Unit {0}
NextCalls run (line ∷ lines) (made ∷ others) = (call_at run line ≡ Ok made) × NextCalls (with_call run made) lines others
NextCalls run [] (made ∷ others) = ⊥
NextCalls run (line ∷ lines) [] = ⊥

-- no call is read of the last line
pub not_last : (run : Recording) (line : List ℕ) (made : WriterCall) → call_at run line ≡ Ok made → line ≢ last_line
not_last run line made found last = let wrong : Err CallForm ≡ Ok made = subst (λ (text : List ℕ). call_at run text ≡ Ok made) last found in cc

module _ (rest : List ℕ) (outcome : Result Recording Broken) where
  -- lines of calls lead from a run to the run with these calls
  calls_read : (run : Recording) (lines : List (List ℕ)) (made : List WriterCall) (behind : List (List ℕ)) (n : ℕ) → NextCalls run lines made
      → ((m : ℕ) → ReadsLines (calls (with_calls run made)) m behind rest outcome) → ReadsLines (calls run) n (lines ++ behind) rest outcome
  calls_read run [] [] behind n next then = then n
  calls_read run (line ∷ lines) (made ∷ others) behind n next then =
      inl (calls (with_call run made), inr (not_last run line made next.0, (made, next.0, refl)), calls_read (with_call run made) lines others behind (n + 1) next.1 then)
  calls_read run [] (made ∷ others) behind n next then = absurd next
  calls_read run (line ∷ lines) [] behind n next then = absurd next

-- the writer of a call is there
writer_there : (writers : List (List Call)) (writer : ℕ) → writer < length writers → (list : List Call) × (slice_get writers writer ≡ Some list)
writer_there writers writer within = (get_or writers writer [], slice_get-get_or writers writer [] within)

-- the calls of a run that is recorded could be made one after the other
calls_follow : (run : Recording) (lines : List (List ℕ)) (made : List WriterCall) → length run.dictionary ≤ MAX_MESSAGES → SpellsCalls lines made → AllByRecursion (λ call. call.writer < length run.writers) made → IsRecording (with_calls run made) → IsRecording run × NextCalls run lines made
calls_follow run [] [] few spells known recorded = (recorded, tt)
calls_follow run (line ∷ lines) (made ∷ others) few spells known recorded =
    let there = writer_there run.writers made.writer known.0 in
    let long : length run.writers ≡ length (with_call_of run.writers made.writer made.call) = sym (length-with_call_of run.writers made.writer made.call) in
    let then = calls_follow (with_call run made) lines others few spells.1 (subst (λ n. AllByRecursion (λ call. call.writer < n) others) long known.1) recorded in
    let here = recorded_before run made there.0 there.1 then.0 in
    (here.0, (call_read run line made here.0 few spells.0 here.1, then.1))
calls_follow run [] (made ∷ others) few spells known recorded = absurd spells
calls_follow run (line ∷ lines) [] few spells known recorded = absurd spells

-- ---- the text

-- what a text of a run gives is that run
pub text_reads : (bytes : List ℕ) (run : Recording) → TraceText bytes run → Gives opening 1 bytes (Ok run)
text_reads bytes run text =
    let version : ℕ = run.version in
    let count : ℕ = length run.writers in
    let start : Recording = start_of version run.dictionary run.clocks count in
    let last : List (List ℕ) = text.call_lines ++ last_line ∷ [] in
    let numbered : List (List ℕ) = writers_line count ∷ last in
    let clocked : List (List ℕ) = map clock_line run.clocks ++ numbered in
    let all : run.writers ≡ writers_with start.writers text.calls = text.by_writer ∙ sym (writers_are count text.calls) in
    let made : run ≡ with_calls start text.calls = ap (λ (writers : List (List Call)). record run { writers = writers }) all in
    let long : count ≡ length start.writers = sym (length-replicate count []) in
    let follow = calls_follow start text.call_lines text.calls text.few_messages text.calls_spelled (subst (λ (n : ℕ). AllByRecursion (λ (call : WriterCall). call.writer < n) text.calls) long text.known_writers) (subst IsRecording made text.recorded) in
    let ends : (m : ℕ) → ReadsLines (calls (with_calls start text.calls)) m (last_line ∷ []) [] (Ok run) = λ m. inl (ended (with_calls start text.calls), inl (refl, refl), ap Ok made) in
    let from_calls : (m : ℕ) → ReadsLines (calls start) m last [] (Ok run) = λ m. calls_read [] (Ok run) start text.call_lines text.calls (last_line ∷ []) m follow.1 ends in
    let from_writers : (m : ℕ) → ReadsLines (clocks version run.dictionary run.clocks) m numbered [] (Ok run) = λ m. inl (calls start, inr (not_later version count, (count, writers_read version count text.recorded.some_writer text.recorded.few_writers, refl)), from_calls (m + 1)) in
    let from_clocks : (m : ℕ) → ReadsLines (messages version run.dictionary) m clocked [] (Ok run) = λ m. clocks_read version run.dictionary [] (Ok run) run.clocks numbered m text.recorded.clocks from_writers in
    let last_lines = lines-append text.call_lines (last_line ∷ []) (calls_are_lines text.call_lines text.calls text.calls_spelled) (last_is_line, tt) in
    let clock_lines = lines-append (map clock_line run.clocks) numbered (clocks_are_lines run.clocks) (writers_is_line count, last_lines) in
    let other_lines = lines-append text.message_lines clocked (messages_are_lines 0 text.message_lines run.dictionary text.messages_spelled) clock_lines in
    record {
      lines = first_line version ∷ text.message_lines ++ clocked;
      rest = [];
      cut = record { joined = text.whole ∙ sym (append-nil (text_of_lines (first_line version ∷ text.message_lines ++ clocked))); whole = (first_is_line version, other_lines); unended = tt };
      reads = inl (messages version [], (version, version_read version text.recorded.known, refl), messages_read version [] (Ok run) [] text.message_lines run.dictionary clocked 2 (next_messages [] text.message_lines run.dictionary text.messages_spelled text.distinct text.few_messages) from_clocks);
    }
