-- What the command over schedules does.
use Rattle.std.specs.Prelude.{◌≡◌, ℕ, List, Option, Some, None}
use Rattle.ring_machine.specs.RingStates.{RingState}
use Rattle.schedule_text.specs.declared.cause.ScheduleCause.{ScheduleCause}
use Rattle.schedule_text.specs.declared.playing.ScheduleFault.{ScheduleFault}
use Rattle.schedule_text.specs.declared.playing.ScheduleFault.TheVariants as faults
use Rattle.schedule_text.specs.Causes.{cause_number, cause_name}
use Rattle.schedule_text.specs.Schedules.{Schedule, ScheduleText, ComesTo}
use Rattle.command_base.specs.Endings.{ToldCause, Ending, Done, Refused, WriteFault, NoMemory}
use Rattle.command_base.specs.HeldFiles.{HoldsSuch}
use Rattle.command_base.specs.Tasks.{WhilePrinting, Task}
use Rattle.command_base.specs.Readings.{Form, never, printing_task}
use Rattle.command_base.specs.Words.{standard_output}

-- a cause as it is told
abbrev pub schedule_cause : ScheduleCause → ToldCause
schedule_cause cause = record { number = cause_number cause; name = cause_name cause }

-- why a schedule wasn't played to its end, as an end
abbrev pub fault_ending : List ℕ → ScheduleFault → Ending
fault_ending name (faults.Refused line cause) = Refused name (Some line) (schedule_cause cause)
fault_ending name faults.WriteFault = WriteFault standard_output
fault_ending name faults.NoMemory = NoMemory

-- the end that goes with a line that is refused, or with none
abbrev pub verdict_of : List ℕ → Option (ℕ × ScheduleCause) → Ending
verdict_of name None = Done
verdict_of name (Some (line, cause)) = Refused name (Some line) (schedule_cause cause)

-- What a file gives: where it holds the text of a schedule that is played, the lines of its steps and of its rings; where
-- a line is refused, the lines of the steps before it.
abbrev pub GivesSteps : List ℕ → Form
GivesSteps file old product ending =
    (refused : Option (ℕ × ScheduleCause)) × (ending ≡ verdict_of file refused) × (product.made ≡ None)
    × HoldsSuch old file (λ bytes. ComesTo bytes (record { printed = product.text; refused = refused }))

-- the bytes are the text of a schedule that is played
abbrev pub IsSchedule : List ℕ → Type 0
IsSchedule bytes = (s : Schedule) × (last : List RingState) × ScheduleText bytes s last

-- `schedule`: the steps of a schedule are made, and their lines are printed
abbrev pub schedule_task : List ℕ → Task
schedule_task file = printing_task file WhilePrinting (GivesSteps file) never IsSchedule
