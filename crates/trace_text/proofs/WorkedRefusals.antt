-- Worked texts that are refused.
use Rattle.std.proofs.Common.{◌≡◌, ◌≢◌, ℕ, ◌<◌, ◌≤◌, lit<, lit≤, true, not, eqb, List, [], ◌∷◌, ◌++◌, length, Some, Result, Err, get_or, refl, sym, ap, subst, inl, inr, append-nil, arith}
use Rattle.std.specs.Prelude.{codes}
use Rattle.std.specs.Fmt.{digits}
use Rattle.std.specs.List.{AllByRecursion, list_all}
use Rattle.std.proofs.lemmas.List.Elements.{All-from_recursion}
use Rattle.log_dictionary.specs.declared.clock.Clock.{Clock}
use Rattle.printf_grammar.specs.declared.piece.Piece.TheVariants.{Literal}
use Rattle.printf_grammar.specs.Spelling.{Spells}
use Rattle.log_dictionary.specs.declared.message.Message.{Message}
use Rattle.log_dictionary.specs.declared.severity.Severity.TheVariants.{Debug}
use Rattle.log_dictionary.specs.Messages.{SpellsMessage}
use Rattle.log_dictionary.specs.Canonical.{message_line}
use Rattle.log_dictionary.specs.Additions.{SpellsNew}
use Rattle.log_dictionary.specs.Fields.{split_at_first}
use Rattle.log_dictionary.specs.Numbers.{number_from}
use Rattle.log_dictionary.proofs.lemmas.Lines.{none_by_test}
use Rattle.log_dictionary.proofs.lemmas.LineMessages.{one_message}
use Rattle.log_dictionary.proofs.lemmas.Written.{written_message}
use Rattle.trace_text.specs.declared.cause.TraceCause.{TraceCause}
use Rattle.trace_text.specs.declared.cause.TraceCause.TheVariants as causes
use Rattle.trace_text.specs.declared.trace.TheConstants.{MAX_TRACE}
use Rattle.trace_text.specs.Recordings.{Recording}
use Rattle.trace_text.specs.Lines.{text_of_lines}
use Rattle.trace_text.specs.LineFields.{version_at}
use Rattle.trace_text.specs.Reading.{opening, messages, clocks, calls, ended, Broken, Breaks, ReadsLines, IsOneLine, TraceBreak}

pub is_line : (line : List ℕ) → list_all (λ byte. not (eqb byte 10)) line ≡ true → IsOneLine line
is_line line e = none_by_test 10 line e

abbrev small_clock : Clock
small_clock = record { tick = 1; nanos = 2; rate = 3 }

-- a run of two writers without messages
abbrev two_writers : Recording
two_writers = record { version = 1; dictionary = []; clocks = small_clock ∷ []; writers = [] ∷ [] ∷ [] }

abbrev first_of_1 : List ℕ
first_of_1 = codes "nanolog-trace 1"

abbrev first_of_2 : List ℕ
first_of_2 = codes "nanolog-trace 2"

abbrev front : List (List ℕ)
front = first_of_1 ∷ codes "clock 1 2 3" ∷ codes "writers 2" ∷ []

-- a first line and the line of a clock lead to that of the writers, or of a clock more
behind_clock : (version : ℕ) (first : List ℕ) (lines : List (List ℕ)) (rest : List ℕ) (outcome : Result Recording Broken) → version_at first ≡ Some version → ReadsLines (clocks version [] (small_clock ∷ [])) 3 lines rest outcome → ReadsLines opening 1 (first ∷ codes "clock 1 2 3" ∷ lines) rest outcome
unfolding split_at_first number_from
behind_clock version first lines rest outcome is reads =
    inl (messages version [], (version, is, refl), inl (clocks version [] (small_clock ∷ []), inr (refl, (small_clock, refl, refl)), reads))

-- the lines of that run lead to its calls
begins : (lines : List (List ℕ)) (rest : List ℕ) (outcome : Result Recording Broken) → ReadsLines (calls two_writers) 4 lines rest outcome → ReadsLines opening 1 (first_of_1 ∷ codes "clock 1 2 3" ∷ codes "writers 2" ∷ lines) rest outcome
unfolding number_from
begins lines rest outcome reads =
    behind_clock 1 first_of_1 (codes "writers 2" ∷ lines) rest outcome refl (inl (calls two_writers, inr (refl, (2, refl, refl)), reads))

-- a text whose third line is refused
third_refused : (version : ℕ) (first line : List ℕ) (more : List (List ℕ)) (cause : TraceCause) → let lines = first ∷ codes "clock 1 2 3" ∷ line ∷ more in length (text_of_lines lines) ≤ MAX_TRACE → version_at first ≡ Some version → AllByRecursion IsOneLine lines → Breaks (clocks version [] (small_clock ∷ [])) line cause → TraceBreak (text_of_lines lines) 3 cause
third_refused version first line more cause short is whole breaks =
    let lines = first ∷ codes "clock 1 2 3" ∷ line ∷ more in
    inr (
      short,
      record {
        lines = lines;
        rest = [];
        cut = record { joined = sym (append-nil (text_of_lines lines)); whole = whole; unended = tt };
        reads = behind_clock version first (line ∷ more) [] (Err (record { line = 3; cause = cause })) is (inr (cause, breaks, refl));
      },
    )

pub empty : TraceBreak [] 1 causes.NoEnd
empty = inr (lit≤ tt, record { lines = []; rest = []; cut = record { joined = refl; whole = tt; unended = tt }; reads = refl })

pub no_line_feed : TraceBreak (codes "nanolog-trace 1") 1 causes.NoEnd
no_line_feed = inr (lit≤ tt, record { lines = []; rest = first_of_1; cut = record { joined = refl; whole = tt; unended = is_line first_of_1 refl }; reads = refl })

pub no_last_line : TraceBreak (codes "nanolog-trace 1\nclock 1 2 3\nwriters 2\nend") 4 causes.NoEnd
no_last_line = inr (
  lit≤ tt,
  record {
    lines = front;
    rest = codes "end";
    cut = record { joined = refl; whole = (is_line first_of_1 refl, (is_line (codes "clock 1 2 3") refl, (is_line (codes "writers 2") refl, tt))); unended = is_line (codes "end") refl };
    reads = begins [] (codes "end") (Err (record { line = 4; cause = causes.NoEnd })) refl;
  },
)

pub other_version : TraceBreak (codes "nanolog-trace 3\nclock") 1 causes.Header
unfolding number_from
other_version = inr (
  lit≤ tt,
  record {
    lines = codes "nanolog-trace 3" ∷ [];
    rest = codes "clock";
    cut = record { joined = refl; whole = (is_line (codes "nanolog-trace 3") refl, tt); unended = is_line (codes "clock") refl };
    reads = inr (causes.Header, (refl, refl), refl);
  },
)

pub leading_zero : TraceBreak (codes "nanolog-trace 02\nclock") 1 causes.Header
unfolding number_from
leading_zero = inr (
  lit≤ tt,
  record {
    lines = codes "nanolog-trace 02" ∷ [];
    rest = codes "clock";
    cut = record { joined = refl; whole = (is_line (codes "nanolog-trace 02") refl, tt); unended = is_line (codes "clock") refl };
    reads = inr (causes.Header, (refl, refl), refl);
  },
)

abbrev second_message : Message
second_message = record { file = codes "a"; line = 1; severity = Debug; format = record { bytes = codes "b"; pieces = Literal 0 1 ∷ [] }; file_length = (lit≤ tt, lit≤ tt) }

second_formed : Spells (codes "b") (Literal 0 1 ∷ [])
second_formed = record { short = lit≤ tt; few = lit≤ tt; apart = (tt, tt); spelled = (codes "b", [], refl, record { start_is = refl; end_is = refl; nonempty = lit< tt; literal = ((λ h. cc, λ h. cc), tt) }, refl) }

second_written : message_line 1 second_message ≡ codes "message 1 DEBUG 1 \"a\" \"b\""
unfolding digits
second_written = refl

second_spelled : SpellsMessage (codes "message 1 DEBUG 1 \"a\" \"b\"") 1 second_message
second_spelled = subst (λ (line : List ℕ). SpellsMessage line 1 second_message) second_written (written_message 1 second_message (lit< tt) (record { file = All-from_recursion (λ (b : ℕ). b < 256) (codes "a") (lit< tt, tt); bytes = All-from_recursion (λ (b : ℕ). b < 256) (codes "b") (lit< tt, tt); formed = second_formed; line_fits = lit< tt }))

-- the id of the first message is 0
pub no_message : (message : Message) → ¬ (SpellsNew [] (codes "message 1 DEBUG 1 \"a\" \"b\"") 0 message)
no_message message new = omega (arith, (one_message _ 0 1 message second_message new.spelled second_spelled).0)

pub other_id : TraceBreak (codes "nanolog-trace 1\nmessage 1 DEBUG 1 \"a\" \"b\"\n") 2 causes.Message
unfolding number_from
other_id = inr (
  lit≤ tt,
  record {
    lines = first_of_1 ∷ codes "message 1 DEBUG 1 \"a\" \"b\"" ∷ [];
    rest = [];
    cut = record { joined = refl; whole = (is_line first_of_1 refl, (is_line (codes "message 1 DEBUG 1 \"a\" \"b\"") refl, tt)); unended = tt };
    reads = inl (messages 1 [], (1, refl, refl), inr (causes.Message, inl (refl, inr (lit< tt, no_message, refl)), refl));
  },
)

pub no_rate : TraceBreak (codes "nanolog-trace 1\nclock 1 2 0\nend\n") 2 causes.Clock
unfolding split_at_first number_from
no_rate = inr (
  lit≤ tt,
  record {
    lines = first_of_1 ∷ codes "clock 1 2 0" ∷ codes "end" ∷ [];
    rest = [];
    cut = record { joined = refl; whole = (is_line first_of_1 refl, (is_line (codes "clock 1 2 0") refl, (is_line (codes "end") refl, tt))); unended = tt };
    reads = inl (messages 1 [], (1, refl, refl), inr (causes.Clock, inr (refl, refl, refl), refl));
  },
)

pub no_clock : TraceBreak (codes "nanolog-trace 1\nwriters 2\nend\n") 2 causes.Clock
unfolding number_from
no_clock = inr (
  lit≤ tt,
  record {
    lines = first_of_1 ∷ codes "writers 2" ∷ codes "end" ∷ [];
    rest = [];
    cut = record { joined = refl; whole = (is_line first_of_1 refl, (is_line (codes "writers 2") refl, (is_line (codes "end") refl, tt))); unended = tt };
    reads = inl (messages 1 [], (1, refl, refl), inr (causes.Clock, inr (refl, refl, refl), refl));
  },
)

pub no_writer : TraceBreak (codes "nanolog-trace 1\nclock 1 2 3\nwriters 0\nend\n") 3 causes.Writers
unfolding split_at_first number_from
no_writer = third_refused 1 first_of_1 (codes "writers 0") (codes "end" ∷ []) causes.Writers (lit≤ tt) refl (is_line first_of_1 refl, (is_line (codes "clock 1 2 3") refl, (is_line (codes "writers 0") refl, (is_line (codes "end") refl, tt)))) (inr (refl, refl, refl))

pub many_writers : TraceBreak (codes "nanolog-trace 1\nclock 1 2 3\nwriters 65\nend\n") 3 causes.Writers
unfolding split_at_first number_from
many_writers = third_refused 1 first_of_1 (codes "writers 65") (codes "end" ∷ []) causes.Writers (lit≤ tt) refl (is_line first_of_1 refl, (is_line (codes "clock 1 2 3") refl, (is_line (codes "writers 65") refl, (is_line (codes "end") refl, tt)))) (inr (refl, refl, refl))

pub many_writers_of_2 : TraceBreak (codes "nanolog-trace 2\nclock 1 2 3\nwriters 1025\nend\n") 3 causes.Writers
unfolding split_at_first number_from
many_writers_of_2 = third_refused 2 first_of_2 (codes "writers 1025") (codes "end" ∷ []) causes.Writers (lit≤ tt) refl (is_line first_of_2 refl, (is_line (codes "clock 1 2 3") refl, (is_line (codes "writers 1025") refl, (is_line (codes "end") refl, tt)))) (inr (refl, refl, refl))

pub second_clock_of_1 : TraceBreak (codes "nanolog-trace 1\nclock 1 2 3\nclock 2 2 3\n") 3 causes.Writers
unfolding split_at_first number_from
second_clock_of_1 = third_refused 1 first_of_1 (codes "clock 2 2 3") [] causes.Writers (lit≤ tt) refl (is_line first_of_1 refl, (is_line (codes "clock 1 2 3") refl, (is_line (codes "clock 2 2 3") refl, tt))) (inr (refl, refl, refl))

pub second_without_rate : TraceBreak (codes "nanolog-trace 2\nclock 1 2 3\nclock 1 2 0\n") 3 causes.Clock
unfolding split_at_first number_from
second_without_rate = third_refused 2 first_of_2 (codes "clock 1 2 0") [] causes.Clock (lit≤ tt) refl (is_line first_of_2 refl, (is_line (codes "clock 1 2 3") refl, (is_line (codes "clock 1 2 0") refl, tt))) (inl (refl, refl))

pub same_tick : TraceBreak (codes "nanolog-trace 2\nclock 1 2 3\nclock 1 2 3\n") 3 causes.ClockOrder
unfolding split_at_first number_from
same_tick = third_refused 2 first_of_2 (codes "clock 1 2 3") [] causes.ClockOrder (lit≤ tt) refl (is_line first_of_2 refl, (is_line (codes "clock 1 2 3") refl, (is_line (codes "clock 1 2 3") refl, tt))) (inl (refl, refl))

no_end : codes "call 2 1 0" ≢ codes "end"
no_end e = let wrong : ◌≡◌ {A = ℕ} 99 101 = ap (λ line. get_or line 0 0) e in omega arith

pub call_of_none : TraceBreak (codes "nanolog-trace 1\nclock 1 2 3\nwriters 2\ncall 2 1 0\nend\n") 4 causes.Writer
unfolding split_at_first number_from
call_of_none = inr (
  lit≤ tt,
  record {
    lines = front ++ codes "call 2 1 0" ∷ codes "end" ∷ [];
    rest = [];
    cut = record { joined = refl; whole = (is_line first_of_1 refl, (is_line (codes "clock 1 2 3") refl, (is_line (codes "writers 2") refl, (is_line (codes "call 2 1 0") refl, (is_line (codes "end") refl, tt))))); unended = tt };
    reads = begins (codes "call 2 1 0" ∷ codes "end" ∷ []) [] (Err (record { line = 4; cause = causes.Writer })) (inr (causes.Writer, (no_end, refl), refl));
  },
)

pub line_behind : TraceBreak (codes "nanolog-trace 1\nclock 1 2 3\nwriters 2\nend\nend\n") 5 causes.AfterEnd
line_behind = inr (
  lit≤ tt,
  record {
    lines = front ++ codes "end" ∷ codes "end" ∷ [];
    rest = [];
    cut = record { joined = refl; whole = (is_line first_of_1 refl, (is_line (codes "clock 1 2 3") refl, (is_line (codes "writers 2") refl, (is_line (codes "end") refl, (is_line (codes "end") refl, tt))))); unended = tt };
    reads = begins (codes "end" ∷ codes "end" ∷ []) [] (Err (record { line = 5; cause = causes.AfterEnd })) (inl (ended two_writers, inl (refl, refl), inr (causes.AfterEnd, refl, refl)));
  },
)

pub byte_behind : TraceBreak (codes "nanolog-trace 1\nclock 1 2 3\nwriters 2\nend\n ") 5 causes.AfterEnd
byte_behind = inr (
  lit≤ tt,
  record {
    lines = front ++ codes "end" ∷ [];
    rest = 32 ∷ [];
    cut = record { joined = refl; whole = (is_line first_of_1 refl, (is_line (codes "clock 1 2 3") refl, (is_line (codes "writers 2") refl, (is_line (codes "end") refl, tt)))); unended = is_line (32 ∷ []) refl };
    reads = begins (codes "end" ∷ []) (32 ∷ []) (Err (record { line = 5; cause = causes.AfterEnd })) (inl (ended two_writers, inl (refl, refl), refl));
  },
)
