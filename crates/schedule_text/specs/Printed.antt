-- The lines that a schedule prints.
use Rattle.std.specs.Prelude.{ℕ, ◌+◌, Bool, List, [], ◌∷◌, ◌++◌, codes, decimal, Option, None, Some, if◌then◌else◌, slice_get}
use Rattle.std.specs.List.{concat}
use Rattle.std.specs.Option.{option_map}
use Rattle.ring_machine.specs.declared.steps.Event.{Event}
use Rattle.ring_machine.specs.declared.view.RingView.{RingView}
use Rattle.ring_machine.specs.RingStates.{RingState}
use Rattle.ring_machine.specs.Rings.{view_of}
use Rattle.schedule_text.specs.StepLines.{step_name}

-- the positions of a ring
abbrev pub positions_text : RingView → List ℕ
positions_text view = concat (
    codes ": written " ∷ decimal view.written ∷ codes " published " ∷ decimal view.published
    ∷ codes " released " ∷ decimal view.released ∷ codes " seen " ∷ decimal view.seen
    ∷ codes " loaded " ∷ decimal view.loaded ∷ codes " read " ∷ decimal view.read ∷ codes "\n" ∷ [])

-- the number of a step, its name and its ring
abbrev pub event_text : ℕ → Event → List ℕ
event_text number event =
    concat (decimal number ∷ codes " " ∷ step_name event.step ∷ codes " " ∷ decimal event.ring ∷ [])

-- the positions of a ring that is there
abbrev pub shown_text : Option RingState → List ℕ
shown_text None = []
shown_text (Some s) = positions_text (view_of s)

-- the line of an event with this number, behind which the rings are these
abbrev pub event_line : ℕ → Event → List RingState → List ℕ
event_line number event rings = event_text number event ++ shown_text (slice_get rings event.ring)

-- how far a ring is closed
abbrev pub state_name : RingView → List ℕ
state_name view =
    if view.ended then codes "ended" else if view.closed then codes "closed" else codes "open"

-- the line of a ring at the end
abbrev pub ring_line : ℕ → RingView → List ℕ
ring_line ring view = concat (
    codes "ring " ∷ decimal ring ∷ codes ": sent " ∷ decimal view.sent ∷ codes " got " ∷ decimal view.got
    ∷ codes " " ∷ state_name view ∷ codes "\n" ∷ [])

-- the lines of rings, the first of which has this number
abbrev pub ring_lines : ℕ → List RingState → List ℕ
ring_lines ring [] = []
ring_lines ring (s ∷ rings) = ring_line ring (view_of s) ++ ring_lines (ring + 1) rings
