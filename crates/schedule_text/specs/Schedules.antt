-- Schedules, their texts, and the texts that are refused.
use Rattle.std.specs.Prelude.{◌≡◌, ◌≢◌, ◌⊎◌, ℕ, ◌+◌, ◌<◌, ◌≤◌, List, [], ◌∷◌, ◌++◌, length, codes, decimal, None, Some}
use Rattle.std.specs.List.{flat_map, AllByRecursion}
use Rattle.session_options.specs.declared.limits.TheConstants.{MIN_RING}
use Rattle.ring_machine.specs.declared.rings.TheConstants.{MAX_RINGS}
use Rattle.ring_machine.specs.declared.steps.Event.{Event}
use Rattle.ring_machine.specs.declared.steps.Barred.{Barred}
use Rattle.ring_machine.specs.RingStates.{RingState}
use Rattle.ring_machine.specs.Steps.{event_barred, after_event, Run}
use Rattle.ring_machine.specs.Rings.{new_rings}
use Rattle.schedule_text.specs.declared.cause.ScheduleCause.{ScheduleCause}
use Rattle.schedule_text.specs.declared.cause.ScheduleCause.TheVariants as causes
use Rattle.schedule_text.specs.declared.head_line.TheConstants.{MAX_WORDS}
use Rattle.schedule_text.specs.declared.playing.TheConstants.{MAX_STEPS}
use Rattle.schedule_text.specs.Causes.{bar_cause}
use Rattle.schedule_text.specs.StepLines.{step_line, FitsStep}
use Rattle.schedule_text.specs.Printed.{event_line, ring_lines}
use Rattle.schedule_text.specs.Judged.{ScheduleOutcome, refused_at, line_number, first_line}

-- so many rings of so many words, and what happens in them, one event after the other
pub record Schedule : Type 0 where
  pub rings : ℕ
  pub words : ℕ
  pub events : List Event

-- the numbers of rings and of their words that a schedule may have
pub record AreSizes (rings words : ℕ) : Type 0 where
  pub some_ring : 1 ≤ rings
  pub few_rings : rings ≤ MAX_RINGS
  pub least : MIN_RING ≤ words
  pub most : words ≤ MAX_WORDS

-- the line of the rings, with its line feed
abbrev pub rings_line : ℕ → ℕ → List ℕ
rings_line rings words = codes "rings " ++ decimal rings ++ 32 ∷ decimal words ++ 10 ∷ []

-- the text of a schedule: the first line, the line of the rings, and a line for each event
abbrev pub schedule_text : Schedule → List ℕ
schedule_text s = first_line ++ rings_line s.rings s.words ++ flat_map step_line s.events

-- its events happen one after another, none of which is barred, and behind them the rings are these
pub record IsPlayed (s : Schedule) (last : List RingState) : Type 0 where
  pub sizes : AreSizes s.rings s.words
  pub few : length s.events ≤ MAX_STEPS
  pub fits : AllByRecursion FitsStep s.events
  pub run : Run (new_rings s.rings s.words) s.events last

-- the lines of events, behind so many others
abbrev pub event_lines : ℕ → List RingState → List Event → List ℕ
event_lines made rings [] = []
event_lines made rings (event ∷ events) =
    event_line (made + 1) event (after_event rings event) ++ event_lines (made + 1) (after_event rings event) events

-- the lines of all its events
abbrev pub played_lines : Schedule → List ℕ
played_lines s = event_lines 0 (new_rings s.rings s.words) s.events

-- ---- texts that are refused

-- the first line is another one, or the second is that of no rings
abbrev pub HeadBreak : List ℕ → ℕ → Type 0
HeadBreak bytes line =
    ((line ≡ 1) × ((rest : List ℕ) → bytes ≢ first_line ++ rest))
    ⊎ ((line ≡ 2) × ((rest : List ℕ) × (bytes ≡ first_line ++ rest)
    × ((rings words : ℕ) (more : List ℕ) → AreSizes rings words → rest ≢ rings_line rings words ++ more)))

-- The line with which the bytes begin is refused, behind so many others, where the rings are these: it is one too many, or
-- else it is no line of an event, or else its event is barred.
abbrev pub StepBreak : List RingState → ℕ → List ℕ → ScheduleCause → Type 0
StepBreak rings made bytes cause =
    ((made ≡ MAX_STEPS) × (cause ≡ causes.TooMany))
    ⊎ ((made < MAX_STEPS) × ((event : Event) (rest : List ℕ) → FitsStep event → bytes ≢ step_line event ++ rest)
    × (cause ≡ causes.Step))
    ⊎ ((made < MAX_STEPS) × ((event : Event) × (rest : List ℕ) × (bar : Barred) × FitsStep event
    × (bytes ≡ step_line event ++ rest) × (event_barred rings event ≡ Some bar) × (cause ≡ bar_cause bar)))

-- the bytes begin with the text of a schedule that is played, and the line behind it is refused
pub record RefusesStep (bytes : List ℕ) (s : Schedule) (line : ℕ) (cause : ScheduleCause) : Type 0 where
  pub last : List RingState
  pub rest : List ℕ
  pub joined : bytes ≡ schedule_text s ++ rest
  pub some : rest ≢ []
  pub played : IsPlayed s last
  pub line_is : line ≡ line_number (length s.events)
  pub breaks : StepBreak last (length s.events) rest cause

-- the bytes are the text of a schedule that is played
pub record ScheduleText (bytes : List ℕ) (s : Schedule) (last : List RingState) : Type 0 where
  pub spelled : bytes ≡ schedule_text s
  pub played : IsPlayed s last

-- the text is refused at this line, from 1, for this cause
abbrev pub ScheduleBreak : List ℕ → ℕ → ScheduleCause → Type 0
ScheduleBreak bytes line cause =
    (HeadBreak bytes line × (cause ≡ causes.Header)) ⊎ ((s : Schedule) × RefusesStep bytes s line cause)

-- ---- what is printed

-- The bytes are the text of a schedule that is played, whose lines and those of its rings are printed; or they are refused
-- in the first two lines, and nothing is printed; or behind a schedule that is played, whose lines are printed.
abbrev pub ComesTo : List ℕ → ScheduleOutcome → Type 0
ComesTo bytes outcome =
    ((s : Schedule) × (last : List RingState) × ScheduleText bytes s last
    × (outcome ≡ record { printed = played_lines s ++ ring_lines 0 last; refused = None }))
    ⊎ ((line : ℕ) × HeadBreak bytes line × (outcome ≡ refused_at line causes.Header))
    ⊎ ((s : Schedule) × (line : ℕ) × (cause : ScheduleCause) × RefusesStep bytes s line cause
    × (outcome ≡ record { printed = played_lines s; refused = Some (line, cause) }))
