-- Reading the text of a trace line by line: where it gives a run, and where a line is refused.
use Rattle.std.specs.Prelude.{◌≡◌, ◌≢◌, ◌⊎◌, ℕ, ◌+◌, ◌<◌, ◌≤◌, nat_le, Bool, ◌&&◌, true, false, List, [], ◌∷◌, ◌++◌, length, codes, None, Some, Result, Ok, Err}
use Rattle.std.specs.List.{AllByRecursion}
use Rattle.std.specs.Option.{ok_or}
use Rattle.log_dictionary.specs.declared.clock.Clock.{Clock}
use Rattle.log_dictionary.specs.declared.clocks.TheConstants.{MAX_CLOCKS}
use Rattle.log_dictionary.specs.declared.message.Message.{Message}
use Rattle.log_dictionary.specs.Clocks.{last_tick}
use Rattle.log_dictionary.specs.declared.dictionary.TheConstants.{MAX_MESSAGES}
use Rattle.log_dictionary.specs.Additions.{SpellsNew}
use Rattle.session_options.specs.Versions.{has_clocks}
use Rattle.trace_text.specs.declared.cause.TraceCause.{TraceCause}
use Rattle.trace_text.specs.declared.cause.TraceCause.TheVariants as causes
use Rattle.trace_text.specs.declared.trace.TheConstants.{MAX_TRACE}
use Rattle.trace_text.specs.Recordings.{Recording, start_of}
use Rattle.trace_text.specs.Lines.{WriterCall, last_line, text_of_lines}
use Rattle.trace_text.specs.LineFields.{begins_with, version_at, clock_at, writers_at}
use Rattle.trace_text.specs.CallReading.{◌>>=◌, refused_if, call_at, with_call}

-- how far the lines of a text have come
pub data TracePart : Type 0 where
  opening : TracePart
  -- behind the first line, which says the version
  messages : ℕ → List Message → TracePart
  -- behind a clock's line
  clocks : ℕ → List Message → List Clock → TracePart
  -- behind the writers' line: the run so far
  calls : Recording → TracePart
  -- behind the last line
  ended : Recording → TracePart

-- a line that is refused, and why
pub record Broken : Type 0 where
  pub line : ℕ
  pub cause : TraceCause

-- ---- one line

-- the line spells a new message with the next id
abbrev pub FollowsMessages : ℕ → List Message → List ℕ → TracePart → Type 0
FollowsMessages version before line next =
    (begins_with (codes "message ") line ≡ true)
    × (length before < MAX_MESSAGES)
    × ((message : Message) × SpellsNew before line (length before) message
    × (next ≡ messages version (before ++ message ∷ [])))

-- a line of a message is one too many, or spells no new message with the next id
abbrev pub BreaksMessages : List Message → List ℕ → TraceCause → Type 0
BreaksMessages before line cause =
    (begins_with (codes "message ") line ≡ true)
    × (((MAX_MESSAGES ≤ length before) × (cause ≡ causes.TooMany))
    ⊎ ((length before < MAX_MESSAGES)
    × ((message : Message) → ¬ (SpellsNew before line (length before) message))
    × (cause ≡ causes.Message)))

-- behind a clock's line this is to be the line of a clock more
abbrev pub is_later_clock : ℕ → List ℕ → Bool
is_later_clock version line = has_clocks version && begins_with (codes "clock ") line

-- the clock of the line, which follows these, or the first cause why it is refused
abbrev pub later_clock : List Clock → List ℕ → Result Clock TraceCause
later_clock times line = do
  few ← refused_if (nat_le MAX_CLOCKS (length times)) causes.TooManyClocks
  time ← ok_or (clock_at line) causes.Clock
  risen ← refused_if (nat_le time.tick (last_tick times)) causes.ClockOrder
  Ok time

-- the line is right in this part, and the next line stands in that part
abbrev pub Follows : TracePart → List ℕ → TracePart → Type 0
Follows opening line next = (version : ℕ) × (version_at line ≡ Some version) × (next ≡ messages version [])
Follows (messages version before) line next =
    FollowsMessages version before line next
    ⊎ ((begins_with (codes "message ") line ≡ false)
    × ((time : Clock) × (clock_at line ≡ Some time) × (next ≡ clocks version before (time ∷ []))))
Follows (clocks version dictionary times) line next =
    ((is_later_clock version line ≡ true)
    × ((time : Clock) × (later_clock times line ≡ Ok time) × (next ≡ clocks version dictionary (times ++ time ∷ []))))
    ⊎ ((is_later_clock version line ≡ false)
    × ((count : ℕ) × (writers_at version line ≡ Some count)
    × (next ≡ calls (start_of version dictionary times count))))
Follows (calls run) line next =
    ((line ≡ last_line) × (next ≡ ended run))
    ⊎ ((line ≢ last_line) × ((made : WriterCall) × (call_at run line ≡ Ok made) × (next ≡ calls (with_call run made))))
Follows (ended run) line next = ⊥

-- the line is refused in this part, and this is the first cause that holds
abbrev pub Breaks : TracePart → List ℕ → TraceCause → Type 0
Breaks opening line cause = (version_at line ≡ None) × (cause ≡ causes.Header)
Breaks (messages version before) line cause =
    BreaksMessages before line cause
    ⊎ ((begins_with (codes "message ") line ≡ false) × (clock_at line ≡ None) × (cause ≡ causes.Clock))
Breaks (clocks version dictionary times) line cause =
    ((is_later_clock version line ≡ true) × (later_clock times line ≡ Err cause))
    ⊎ ((is_later_clock version line ≡ false) × (writers_at version line ≡ None) × (cause ≡ causes.Writers))
Breaks (calls run) line cause = (line ≢ last_line) × (call_at run line ≡ Err cause)
Breaks (ended run) line cause = cause ≡ causes.AfterEnd

-- ---- all lines

-- what it gives that no whole line is left, where the next line would have this number and these bytes are left
abbrev pub at_end : TracePart → ℕ → List ℕ → Result Recording Broken
at_end (ended run) n [] = Ok run
at_end (ended run) n (byte ∷ rest) = Err (record { line = n; cause = causes.AfterEnd })
at_end _ n rest = Err (record { line = n; cause = causes.NoEnd })

-- what whole lines, of which the first has this number, and the bytes after them give
abbrev pub ReadsLines : TracePart → ℕ → List (List ℕ) → List ℕ → Result Recording Broken → Type 0
ReadsLines part n [] rest outcome = outcome ≡ at_end part n rest
ReadsLines part n (line ∷ lines) rest outcome =
    ((next : TracePart) × Follows part line next × ReadsLines next (n + 1) lines rest outcome)
    ⊎ ((cause : TraceCause) × Breaks part line cause × (outcome ≡ Err (record { line = n; cause = cause })))

-- bytes without a line feed
abbrev pub IsOneLine : List ℕ → Type 0
IsOneLine bytes = AllByRecursion (λ byte. byte ≢ 10) bytes

-- the bytes are whole lines, and a rest in which no line ends
pub record IsCutIntoLines (bytes : List ℕ) (lines : List (List ℕ)) (rest : List ℕ) : Type 0 where
  pub joined : bytes ≡ text_of_lines lines ++ rest
  pub whole : AllByRecursion IsOneLine lines
  pub unended : IsOneLine rest

-- what the bytes from a line on give, which has this number
pub record Gives (part : TracePart) (n : ℕ) (bytes : List ℕ) (outcome : Result Recording Broken) : Type 0 where
  pub lines : List (List ℕ)
  pub rest : List ℕ
  pub cut : IsCutIntoLines bytes lines rest
  pub reads : ReadsLines part n lines rest outcome

-- ---- a text

-- the text is refused at this line, from this cause: it is too long, or a line of it is refused
abbrev pub TraceBreak : List ℕ → ℕ → TraceCause → Type 0
TraceBreak bytes line cause =
    ((MAX_TRACE < length bytes) × (line ≡ 0) × (cause ≡ causes.TooLarge))
    ⊎ ((length bytes ≤ MAX_TRACE) × Gives opening 1 bytes (Err (record { line = line; cause = cause })))
