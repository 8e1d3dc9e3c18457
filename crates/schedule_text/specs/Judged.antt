-- What a schedule comes to: what is printed, and where and why a line is refused, if one is.
use Rattle.std.specs.Prelude.{ℕ, zero, suc, ◌+◌, List, [], ◌∷◌, ◌++◌, codes, Option, None, Some}
use Rattle.log_dictionary.specs.Fields.{after}
use Rattle.ring_machine.specs.declared.steps.Barred.{Barred}
use Rattle.ring_machine.specs.declared.steps.Event.{Event}
use Rattle.ring_machine.specs.RingStates.{RingState}
use Rattle.ring_machine.specs.Steps.{event_barred, after_event}
use Rattle.ring_machine.specs.Rings.{new_rings}
use Rattle.schedule_text.specs.declared.cause.ScheduleCause.{ScheduleCause}
use Rattle.schedule_text.specs.declared.cause.ScheduleCause.TheVariants as causes
use Rattle.schedule_text.specs.declared.playing.TheConstants.{MAX_STEPS}
use Rattle.schedule_text.specs.Causes.{bar_cause}
use Rattle.schedule_text.specs.Lines.{NumberedStep, sizes_at, step_at, first_line_says}
use Rattle.schedule_text.specs.Printed.{event_line, ring_lines}

pub record ScheduleOutcome : Type 0 where
  pub printed : List ℕ
  -- the number of the line, from 1, and the cause
  pub refused : Option (ℕ × ScheduleCause)

-- a line is refused, and nothing is printed
abbrev pub refused_at : ℕ → ScheduleCause → ScheduleOutcome
refused_at line cause = record { printed = []; refused = Some (line, cause) }

-- this text is printed before
abbrev pub printing : List ℕ → ScheduleOutcome → ScheduleOutcome
printing text outcome = record { printed = text ++ outcome.printed; refused = outcome.refused }

-- the step of a line as an event
abbrev pub event_of : NumberedStep → Event
event_of said = record { ring = said.0; step = said.1 }

-- the number of the line of a step, behind so many others
abbrev pub line_number : ℕ → ℕ
line_number made = made + 3

-- what the line of an event comes to, behind so many others, by what bars the event, if anything does: its line is printed,
-- and then what the lines behind it come to
abbrev pub by_bar : Option Barred → ℕ → List ℕ → ScheduleOutcome → ScheduleOutcome
by_bar (Some barred) made line behind = refused_at (line_number made) (bar_cause barred)
by_bar None made line behind = printing line behind

-- what a line comes to, behind so many others, by what it says
abbrev pub by_line : (List RingState → List ℕ → ScheduleOutcome) → List RingState → ℕ → Option (NumberedStep × List ℕ) → ScheduleOutcome
by_line behind rings made None = refused_at (line_number made) causes.Step
by_line behind rings made (Some (said, rest)) =
    by_bar (event_barred rings (event_of said)) made
    (event_line (made + 1) (event_of said) (after_event rings (event_of said)))
    (behind (after_event rings (event_of said)) rest)

-- What the lines of steps come to, behind so many others, where so many more may be made and the rings are these.
unfoldable pub steps_judged : (left : ℕ) (rings : List RingState) (made : ℕ) (bytes : List ℕ) → ScheduleOutcome
steps_judged left rings made [] = record { printed = ring_lines 0 rings; refused = None }
steps_judged zero rings made (byte ∷ bytes) = refused_at (line_number made) causes.TooMany
steps_judged (suc left) rings made (byte ∷ bytes) =
    by_line (λ next rest. steps_judged left next (made + 1) rest) rings made (first_line_says step_at (byte ∷ bytes))

-- the first line of a schedule, with its line feed
abbrev pub first_line : List ℕ
first_line = codes "nanolog-schedule 1\n"

-- what the lines behind the first one come to
abbrev pub rings_judged : Option ((ℕ × ℕ) × List ℕ) → ScheduleOutcome
rings_judged None = refused_at 2 causes.Header
rings_judged (Some (sizes, rest)) = steps_judged MAX_STEPS (new_rings sizes.0 sizes.1) 0 rest

abbrev pub head_judged : Option (List ℕ) → ScheduleOutcome
head_judged None = refused_at 1 causes.Header
head_judged (Some rest) = rings_judged (first_line_says sizes_at rest)

-- what the text of a schedule comes to
abbrev pub judged : List ℕ → ScheduleOutcome
judged bytes = head_judged (after first_line bytes)
