-- What is asked of a task, so that its command says what there is to say of its inputs. The laws on any command follow.
use Rattle.std.specs.Prelude.{◌≡◌, ◌≢◌, ◌⊎◌, ℕ, List, [], ◌∷◌, Some, None, Contains}
use Rattle.std.specs.FinMap as map
use Rattle.nl_io.specs.Count.{Rose}
use Rattle.nl_io.specs.Desk.{Desk, Held, OnlyReadFaults}
use Rattle.command_base.specs.Endings.{Ending, IsDone, Absent, ReadFault, WriteFault, NoMemory, Usage}
use Rattle.command_base.specs.Tasks.{Product, nothing, Task}
use Rattle.command_base.specs.Effects.{IsPrinted}

-- it is told that this name, the first of the inputs, isn't there
pub record LacksFirst (task : Task) (desk : Desk) (name : List ℕ) : Type 0 where
  pub others : List (List ℕ)
  pub held : Held
  pub first : task.inputs ≡ name ∷ others
  pub told : desk.held ≡ Some held
  pub none : map.get held name ≡ None

-- Reading failed. Nothing is made then, and the end tells of it, or may stand in its place; so may the failed write of a
-- text, and a want of memory while it is printed.
pub record FailsToRead (task : Task) (old new : Desk) (product : Product) (ending : Ending) : Type 0 where
  pub only : OnlyReadFaults old new
  pub unmade : product.made ≡ None
  pub told : ((name : List ℕ) × Contains task.inputs name × (ending ≡ ReadFault name)) ⊎ task.hides old new ending
  pub cut_off : product.text ≢ [] → (name : List ℕ) → task.hides old new (WriteFault name)
  pub stopped : IsPrinted ending task.course → task.hides old new NoMemory

-- What the reading of a task comes to.
pub record IsSound (task : Task) : Type 0 where
  -- it changes nothing, or fails
  pub changes : (old new : Desk) (product : Product) (ending : Ending) → task.reads old new product ending
      → (new ≡ old) ⊎ FailsToRead task old new product ending
  -- it isn't broken off by a write where nothing is printed, and it is no reading of words
  pub writes_nothing : (old new : Desk) (name : List ℕ) → ¬ (task.reads old new nothing (WriteFault name))
  pub has_words : (old new : Desk) (product : Product) (lines : List ℕ)
      → ¬ (task.reads old new product (Usage lines))
  -- right inputs give all that is wanted, where none of its calls failed, memory sufficed, and no write breaks it off
  pub done : (old new : Desk) (product : Product) (ending : Ending) → task.reads old new product ending
      → task.right old → ¬ (Rose old.read_faults new.read_faults) → ((name : List ℕ) → ending ≢ WriteFault name)
      → IsDone ending ⊎ (ending ≡ NoMemory)
  -- where the first input isn't there that is told, and nothing comes of it, unless a call failed
  pub absent : (old new : Desk) (product : Product) (ending : Ending) (name : List ℕ)
      → task.reads old new product ending → LacksFirst task old name → ¬ (Rose old.read_faults new.read_faults)
      → (ending ≡ Absent name) × (product ≡ nothing)
  -- a part of an output is left only where it is there
  pub there : (old : Desk) (bytes : List ℕ) (name : List ℕ) → task.leaves old bytes → ¬ (LacksFirst task old name)
