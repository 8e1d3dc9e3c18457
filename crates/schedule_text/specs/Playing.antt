-- What is answered of a schedule that is played.
use Rattle.std.specs.Prelude.{◌≡◌, ℕ, ◌≤◌, List, length, All, None, Some, Result, Ok, Err, ⊤}
use Rattle.nl_io.specs.Content.{Told, with_end, PutsFront}
use Rattle.nl_io.specs.TextWriters.{Carries, IsCutOff}
use Rattle.ring_machine.specs.declared.rings.TheConstants.{MAX_RINGS}
use Rattle.ring_machine.specs.RingStates.{RingState}
use Rattle.schedule_text.specs.declared.head_line.TheConstants.{MAX_WORDS}
use Rattle.schedule_text.specs.declared.playing.ScheduleFault.{ScheduleFault}
use Rattle.schedule_text.specs.declared.playing.ScheduleFault.TheVariants as faults
use Rattle.schedule_text.specs.Judged.{ScheduleOutcome, refused_at, printing}
use Rattle.schedule_text.specs.Printed.{ring_lines}

-- a ring of a schedule behind so many steps
pub record HasStored (made : ℕ) (s : RingState) : Type 0 where
  pub least : 1 ≤ s.size
  pub most : s.size ≤ MAX_WORDS
  pub few : length s.writer.stream ≤ made

-- the rings of a schedule behind so many steps
pub record Reached (made : ℕ) (rings : List RingState) : Type 0 where
  pub few : length rings ≤ MAX_RINGS
  pub stored : All (HasStored made) rings

-- The first line is refused so. Want of memory says nothing of it, and nothing is written.
abbrev pub StopsInHead : ScheduleOutcome → ScheduleFault → Type 0
StopsInHead outcome (faults.Refused line cause) = outcome ≡ refused_at line cause
StopsInHead outcome faults.WriteFault = ⊥
StopsInHead outcome faults.NoMemory = ⊤

-- The steps were made up to the end, behind which the rings are these, or up to a line that is refused; what is printed of
-- them is put or held back. Or a call failed behind a front of it, or memory was wanting.
abbrev pub RunsSteps : ScheduleOutcome → List RingState → Told → Told → ℕ → ℕ → List ℕ → Result (Unit {0}) ScheduleFault → Type 0
RunsSteps outcome rings was is before after held (Ok done) =
    ((text : List ℕ) × Carries text was is held
    × (outcome ≡ printing text (record { printed = ring_lines 0 rings; refused = None }))) × (after ≡ before)
RunsSteps outcome rings was is before after held (Err (faults.Refused line cause)) =
    (Carries outcome.printed was is held × (outcome.refused ≡ Some (line, cause))) × (after ≡ before)
RunsSteps outcome rings was is before after held (Err faults.WriteFault) = IsCutOff outcome.printed was is before after
RunsSteps outcome rings was is before after held (Err faults.NoMemory) =
    PutsFront outcome.printed was is × (after ≡ before)

-- All that the outcome prints was put, and no call failed; or a call failed behind a front of it, or memory was wanting.
abbrev pub Plays : ScheduleOutcome → Told → Told → ℕ → ℕ → Result (Unit {0}) ScheduleFault → Type 0
Plays outcome was is before after (Ok done) =
    (outcome.refused ≡ None) × (is ≡ with_end outcome.printed was) × (after ≡ before)
Plays outcome was is before after (Err (faults.Refused line cause)) =
    (outcome.refused ≡ Some (line, cause)) × (is ≡ with_end outcome.printed was) × (after ≡ before)
Plays outcome was is before after (Err faults.WriteFault) = IsCutOff outcome.printed was is before after
Plays outcome was is before after (Err faults.NoMemory) = PutsFront outcome.printed was is × (after ≡ before)
