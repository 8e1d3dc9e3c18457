-- How a command ends: what its answer says of the files and of the standard output. It is said once, for any command.
use Rattle.std.specs.Prelude.{◌≡◌, ◌≢◌, ◌⊎◌, ℕ, List, [], Option, Some, None, Contains, ⊤}
use Rattle.nl_io.specs.Count.{Rose}
use Rattle.nl_io.specs.Content.{with_end, PutsFront}
use Rattle.nl_io.specs.Desk.{Desk, OnlyName, found_in}
use Rattle.command_base.specs.Endings.{Ending, ReadFault, WriteFault, NoMemory, Absent, Usage}
use Rattle.command_base.specs.HeldFiles.{IsHeld, IsThere}
use Rattle.command_base.specs.Scenes.{Scene}
use Rattle.command_base.specs.Tasks.{Product, Course, WhileReading, UntilBegun, WhilePrinting, Streaming, Task}
use Rattle.command_base.specs.Words.{standard_output}

-- ---- the output

-- the output of this name holds the bytes that were made, all else of the files is as it was, and no call failed; or
-- nothing was made, and all of the files is as it was
abbrev pub IsMade : Option (List ℕ) → Option (List ℕ) → Desk → Desk → Type 0
IsMade None output old new = new ≡ old
IsMade (Some bytes) (Some name) old new =
    IsHeld new name bytes × OnlyName name old new × (new.write_faults ≡ old.write_faults)
IsMade (Some bytes) None old new = ⊥

-- ---- the ends

-- All was read, made and printed, and no write failed.
pub record Completes (task : Task) (old new : Scene) (ending : Ending) : Type 0 where
  pub product : Product
  -- the files once the inputs were read
  pub read : Desk
  pub reading : task.reads old.desk read product ending
  pub made : IsMade product.made task.output read new.desk
  pub printed : new.put ≡ with_end product.text old.put
  pub counted : new.faults ≡ old.faults

-- All was read and made, and then a write of the text failed: a front of it went out. There was something to print.
pub record FailsToPrint (task : Task) (old new : Scene) : Type 0 where
  pub product : Product
  pub read : Desk
  pub verdict : Ending
  pub reading : task.reads old.desk read product verdict
  pub made : IsMade product.made task.output read new.desk
  pub some : product.text ≢ []
  pub printed : PutsFront product.text old.put new.put
  pub rose : Rose old.faults new.faults

-- The output couldn't be created, and is as it was, or a write of it failed. Nothing was printed.
pub record FailsToMake (task : Task) (name : List ℕ) (old new : Scene) : Type 0 where
  pub output : task.output ≡ Some name
  pub bytes : List ℕ
  pub leaves : task.leaves old.desk bytes
  pub holds : (found_in new.desk name ≡ found_in old.desk name) ⊎ IsHeld new.desk name bytes
  pub only : OnlyName name old.desk new.desk
  pub failed : Rose old.desk.write_faults new.desk.write_faults
  pub unprinted : new.put ≡ old.put
  pub counted : new.faults ≡ old.faults

-- Memory was wanting while the inputs were read. Nothing was made or printed.
pub record StopsReading (task : Task) (old new : Scene) : Type 0 where
  pub product : Product
  pub reading : task.reads old.desk new.desk product NoMemory
  pub unprinted : new.put ≡ old.put
  pub counted : new.faults ≡ old.faults

-- Memory was wanting once the output was created, which holds no bytes. Nothing was printed.
pub record StopsBegun (task : Task) (old new : Scene) : Type 0 where
  pub name : List ℕ
  pub output : task.output ≡ Some name
  pub leaves : task.leaves old.desk []
  pub emptied : IsMade (Some []) task.output old.desk new.desk
  pub unprinted : new.put ≡ old.put
  pub counted : new.faults ≡ old.faults

-- a text is printed of inputs whose reading ends so
abbrev pub IsPrinted : Ending → Course → Type 0
IsPrinted (ReadFault name) Streaming = ⊤
IsPrinted (ReadFault name) course = ⊥
IsPrinted (Absent name) course = ⊥
IsPrinted NoMemory course = ⊥
IsPrinted verdict course = ⊤

-- Memory was wanting while the text was printed: a front of it went out.
pub record StopsPrinting (task : Task) (old new : Scene) : Type 0 where
  pub product : Product
  pub read : Desk
  pub verdict : Ending
  pub reading : task.reads old.desk read product verdict
  pub is_printed : IsPrinted verdict task.course
  pub there : (name : List ℕ) → Contains task.inputs name → IsThere old.desk name
  pub made : IsMade product.made task.output read new.desk
  pub printed : PutsFront product.text old.put new.put
  pub counted : new.faults ≡ old.faults

-- Memory was wanting, as the course of the command has it.
abbrev pub WantsMemory : Course → Task → Scene → Scene → Type 0
WantsMemory WhileReading task old new = StopsReading task old new
WantsMemory UntilBegun task old new = StopsReading task old new ⊎ StopsBegun task old new
WantsMemory WhilePrinting task old new = StopsReading task old new ⊎ StopsPrinting task old new
WantsMemory Streaming task old new = StopsReading task old new ⊎ StopsPrinting task old new

-- What the answer of a command says.
abbrev pub CommandEffect : Task → Scene → Scene → Ending → Type 0
CommandEffect task old new (WriteFault name) =
    ((name ≡ standard_output) × FailsToPrint task old new) ⊎ FailsToMake task name old new
CommandEffect task old new NoMemory = WantsMemory task.course task old new
CommandEffect task old new (Usage lines) = ⊥
CommandEffect task old new ending = Completes task old new ending
