-- How steps are spelled.
use Rattle.std.specs.Prelude.{ℕ, ◌<◌, ◌^◌, List, [], ◌∷◌, ◌++◌, codes, decimal, ⊤}
use Rattle.ring_machine.specs.declared.steps.StepKind.{StepKind}
use Rattle.ring_machine.specs.declared.steps.StepKind.TheVariants as steps
use Rattle.ring_machine.specs.declared.steps.Event.{Event}

-- the name of a step
abbrev pub step_name : StepKind → List ℕ
step_name steps.Look = codes "look"
step_name (steps.Store word) = codes "store"
step_name steps.Skip = codes "skip"
step_name steps.Publish = codes "publish"
step_name steps.Close = codes "close"
step_name steps.Load = codes "load"
step_name steps.Read = codes "read"
step_name steps.Release = codes "release"

-- the word that is stored, behind a space
abbrev pub step_word : StepKind → List ℕ
step_word (steps.Store word) = 32 ∷ decimal word
step_word _ = []

-- the line of an event, with its line feed: the name of the step, the ring, and the word that is stored
abbrev pub step_line : Event → List ℕ
step_line event = step_name event.step ++ 32 ∷ decimal event.ring ++ step_word event.step ++ 10 ∷ []

abbrev pub FitsWord : StepKind → Type 0
FitsWord (steps.Store word) = word < 2 ^ 64
FitsWord _ = ⊤

-- the numbers of an event that has a line
pub record FitsStep (event : Event) : Type 0 where
  pub ring : event.ring < 2 ^ 64
  pub word : FitsWord event.step
