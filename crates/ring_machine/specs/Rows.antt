-- A worked schedule of a ring, and what is barred in it.
use Rattle.std.specs.Prelude.{ℕ, List, [], ◌∷◌, Option}
use Rattle.ring_machine.specs.declared.steps.StepKind.{StepKind}
use Rattle.ring_machine.specs.declared.steps.StepKind.TheVariants as steps
use Rattle.ring_machine.specs.declared.steps.Barred.{Barred}
use Rattle.ring_machine.specs.RingStates.{RingState, written, taken, new_ring}
use Rattle.ring_machine.specs.Steps.{after_step, barred}

-- the positions of a ring: written, published, released, seen, loaded and read
abbrev pub positions_of : RingState → List ℕ
positions_of s = (written s).at ∷ s.published ∷ s.released ∷ s.writer.seen ∷ s.roamer.loaded ∷ (taken s).at ∷ []

-- the ring after these steps
abbrev pub after_all : RingState → List StepKind → RingState
after_all s [] = s
after_all s (step ∷ more) = after_all (after_step s step) more

-- the positions after each of these steps
abbrev pub positions_after : RingState → List StepKind → List (List ℕ)
positions_after s [] = []
positions_after s (step ∷ more) = positions_of (after_step s step) ∷ positions_after (after_step s step) more

-- what bars each of these steps, if they are made one after another
abbrev pub bars_after : RingState → List StepKind → List (Option Barred)
bars_after s [] = []
bars_after s (step ∷ more) = barred s step ∷ bars_after (after_step s step) more

-- a frame of three words is stored, published, loaded, read and released
abbrev pub row_steps : List StepKind
row_steps =
    steps.Look ∷ steps.Store 3 ∷ steps.Store 1003 ∷ steps.Store 7 ∷ steps.Publish
    ∷ steps.Load ∷ steps.Read ∷ steps.Read ∷ steps.Read ∷ steps.Release ∷ []

abbrev pub row_ring : RingState
row_ring = new_ring 1024
