-- What the answer of a reader says of a text.
use Rattle.std.specs.Prelude.{◌≡◌, ◌⊎◌, ℕ, List, Result, Ok, Err, MatchResult, ⊤}
use Rattle.trace_text.specs.declared.reading.TraceFault.{TraceFault}
use Rattle.trace_text.specs.declared.reading.TraceFault.TheVariants.{ReadFault, Refused, NoMemory}
use Rattle.trace_text.specs.declared.cause.TraceCause.{TraceCause}
use Rattle.trace_text.specs.Recordings.{Recording}
use Rattle.trace_text.specs.Traces.{TraceText}
use Rattle.trace_text.specs.Reading.{TraceBreak}

-- ---- any text, by what is right of it, and where it is refused and why

-- this value is right, or the text is refused at the line from the cause; the other answers say nothing of it
abbrev pub IsAnswerTo : {A : Type 0} → (A → Type 0) → (ℕ → TraceCause → Type 0) → Result A TraceFault → Type 0
IsAnswerTo IsRight IsRefused (Ok value) = IsRight value
IsAnswerTo IsRight IsRefused (Err (Refused line cause)) = IsRefused line cause
IsAnswerTo IsRight IsRefused (Err ReadFault) = ⊤
IsAnswerTo IsRight IsRefused (Err NoMemory) = ⊤

-- the fault says nothing of a text
abbrev pub IsNoAnswer : TraceFault → Type 0
IsNoAnswer (Refused line cause) = ⊥
IsNoAnswer ReadFault = ⊤
IsNoAnswer NoMemory = ⊤

-- where a value is right the answer is that value, and where the text is refused the answer is the refusal, unless the
-- answer says nothing of it
pub record IsOnlyAnswerTo {A : Type 0} (IsRight : A → Type 0) (IsRefused : ℕ → TraceCause → Type 0)
    (answer : Result A TraceFault) : Type 0 where
  pub right : (value : A) → IsRight value → MatchResult answer (λ found. found ≡ value) IsNoAnswer
  pub refusal : (line : ℕ) (cause : TraceCause) → IsRefused line cause
      → MatchResult answer (λ _. ⊥) (λ fault. (fault ≡ Refused line cause) ⊎ IsNoAnswer fault)

-- ---- the text of a trace

abbrev pub IsAnswer : List ℕ → Result Recording TraceFault → Type 0
IsAnswer bytes = IsAnswerTo (TraceText bytes) (TraceBreak bytes)

abbrev pub IsOnlyAnswer : List ℕ → Result Recording TraceFault → Type 0
IsOnlyAnswer bytes = IsOnlyAnswerTo (TraceText bytes) (TraceBreak bytes)
