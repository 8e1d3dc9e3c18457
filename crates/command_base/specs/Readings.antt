-- How the reading of inputs ends, for commands that read two files, one or none.
use Rattle.std.specs.Prelude.{◌≡◌, ◌≢◌, ◌⊎◌, ℕ, List, [], ◌∷◌, Option, None, ⊤}
use Rattle.nl_io.specs.Count.{Rose}
use Rattle.nl_io.specs.Desk.{Desk, OnlyReadFaults, IsAbsent}
use Rattle.command_base.specs.Endings.{ToldCause, Ending, IsDone, Done, Absent, ReadFault, Refused, WriteFault, NoMemory, Usage}
use Rattle.command_base.specs.HeldFiles.{IsThere, Holds}
use Rattle.command_base.specs.Tasks.{Product, nothing, IsFrontMade, Course, WhileReading, Streaming, Task}

-- ---- one input

-- Why a file gave no bytes: it isn't there, a call failed, or memory was wanting.
abbrev pub GivesNoBytes : List ℕ → Desk → Desk → Ending → Type 0
GivesNoBytes input old new (Absent name) = (name ≡ input) × (new ≡ old) × IsAbsent old input
GivesNoBytes input old new (ReadFault name) =
    (name ≡ input) × OnlyReadFaults old new × Rose old.read_faults new.read_faults
GivesNoBytes input old new NoMemory = (new ≡ old) × IsThere old input
GivesNoBytes input old new ending = ⊥

-- What files whose input was read give: what comes of it, and the end that the command has. What is told of the input's
-- bytes is said by `HoldsSuch` in it; what isn't told of bytes, as what a text has to do with a run, stands beside it,
-- since real files tell no bytes.
abbrev pub Form : Type 1
Form = Desk → Product → Ending → Type 0

-- The file is refused so, by what is said of the name, the line and the cause, and nothing else is said.
abbrev pub OnlyRefused : (Desk → Product → List ℕ → Option ℕ → ToldCause → Type 0) → Form
OnlyRefused IsRefused old product (Refused name line cause) = IsRefused old product name line cause
OnlyRefused IsRefused old product ending = ⊥

-- the texts that may be begun where the reading is broken off in the middle, by what broke it off, which is a failed read
-- or a failed write, and by the files
abbrev pub Begun : Type 1
Begun = Ending → Desk → List ℕ → Type 0

-- no text is begun
abbrev pub never : Begun
never ending desk text = ⊥

-- nothing comes of a read that failed, or a text that was begun
abbrev pub HasBegun : Begun → Ending → Desk → Product → Type 0
HasBegun begun ending old product = (product ≡ nothing) ⊎ ((product.made ≡ None) × begun ending old product.text)

-- a text was begun in the middle of a file that is there
pub record BreaksOff (input : List ℕ) (begun : Begun) (ending : Ending) (old new : Desk) (product : Product) : Type 0 where
  pub same : new ≡ old
  pub there : IsThere old input
  pub unmade : product.made ≡ None
  pub some : product.text ≢ []
  pub text : begun ending old product.text

-- The one input gave no bytes, or it is there, and what it holds says how the command ends; or the reading is broken off.
abbrev pub ReadsFile : List ℕ → Form → Begun → Desk → Desk → Product → Ending → Type 0
ReadsFile input form begun old new product (Absent name) =
    GivesNoBytes input old new (Absent name) × (product ≡ nothing)
ReadsFile input form begun old new product (ReadFault name) =
    GivesNoBytes input old new (ReadFault name) × HasBegun begun (ReadFault name) old product
ReadsFile input form begun old new product NoMemory = GivesNoBytes input old new NoMemory × (product ≡ nothing)
ReadsFile input form begun old new product (WriteFault name) = BreaksOff input begun (WriteFault name) old new product
ReadsFile input form begun old new product (Usage lines) = ⊥
ReadsFile input form begun old new product ending = (new ≡ old) × IsThere old input × form old product ending

-- what may be told in place of a failed read: that a write failed, or that memory was wanting, behind a text that was
-- begun
abbrev pub HidesRead : Course → Ending → Type 0
HidesRead Streaming (WriteFault name) = ⊤
HidesRead Streaming NoMemory = ⊤
HidesRead course ending = ⊥

-- A command that reads one file, which is right where its bytes are so. It may make a file of it.
abbrev pub file_task : List ℕ → Course → Form → Begun → (List ℕ → Type 0) → Option (List ℕ)
    → (Desk → List ℕ → Type 0) → Task
file_task input course form begun is_right output leaves = record {
  inputs = input ∷ [];
  output = output;
  course = course;
  reads = ReadsFile input form begun;
  leaves = leaves;
  right = λ desk. Holds desk input is_right;
  hides = λ old new ending. HidesRead course ending;
}

-- one that makes no file
abbrev pub printing_task : List ℕ → Course → Form → Begun → (List ℕ → Type 0) → Task
printing_task input course form begun is_right = file_task input course form begun is_right None (λ desk bytes. ⊥)

-- What is asked of such a command. What right bytes give is done; a text that is begun is only had by one that streams;
-- and a part of an output is left only where the input is there.
pub record IsFormed (input : List ℕ) (course : Course) (form : Form) (begun : Begun) (is_right : List ℕ → Type 0)
    (leaves : Desk → List ℕ → Type 0) : Type 0 where
  pub done : (desk : Desk) (product : Product) (ending : Ending) → Holds desk input is_right → form desk product ending
      → IsDone ending
  pub streams : (desk : Desk) (text : List ℕ) → begun (ReadFault input) desk text → course ≡ Streaming
  pub there : (desk : Desk) (bytes : List ℕ) → leaves desk bytes → IsThere desk input

-- ---- two inputs

-- The first file gave nothing, or is refused; or it gives a value, and then the second file is read, and what it holds
-- says by that value how the command ends.
abbrev pub ReadsPair : {V : Type 0} → List ℕ → List ℕ → Form → (Desk → V → Type 0) → (V → Form)
    → Desk → Desk → Product → Ending → Type 0
ReadsPair {V = V} first second refuses has form old new product ending =
    ReadsFile first refuses never old new product ending
    ⊎ ((value : V) × has old value × ReadsFile second (form value) never old new product ending)

-- A command that reads one file and then another, and may make a file of them.
abbrev pub pair_task : {V : Type 0} → List ℕ → List ℕ → Form → (Desk → V → Type 0) → (V → Form) → Option (List ℕ)
    → (Desk → Type 0) → Task
pair_task {V = V} first second refuses has form output right = record {
  inputs = first ∷ second ∷ [];
  output = output;
  course = WhileReading;
  reads = ReadsPair first second refuses has form;
  leaves = λ desk bytes.
      (value : V) × has desk value × ((product : Product) × form value desk product Done × IsFrontMade product.made bytes);
  right = right;
  hides = λ old new ending. ⊥;
}

-- What is asked of such a command. A first file that gives a value is there. Where both files are right they are there,
-- the first isn't refused, and what the second gives is done.
pub record ArePaired {V : Type 0} (first second : List ℕ) (refuses : Form) (has : Desk → V → Type 0) (form : V → Form)
    (right : Desk → Type 0) : Type 0 where
  pub there : (desk : Desk) (value : V) → has desk value → IsThere desk first
  pub first_there : (desk : Desk) → right desk → ¬ (IsAbsent desk first)
  pub second_there : (desk : Desk) → right desk → ¬ (IsAbsent desk second)
  pub accepted : (desk : Desk) (product : Product) (ending : Ending) → right desk → ¬ (refuses desk product ending)
  pub done : (desk : Desk) (value : V) (product : Product) (ending : Ending) → right desk → has desk value
      → form value desk product ending → IsDone ending

-- ---- no input

-- The command is done with this product, or memory was wanting for it.
abbrev pub ReadsNone : (Product → Type 0) → Desk → Desk → Product → Ending → Type 0
ReadsNone gives old new product Done = (new ≡ old) × gives product
ReadsNone gives old new product NoMemory = (new ≡ old) × (product ≡ nothing)
ReadsNone gives old new product ending = ⊥

-- a command that reads no file and makes none
abbrev pub free_task : Course → (Product → Type 0) → Task
free_task course gives = record {
  inputs = [];
  output = None;
  course = course;
  reads = ReadsNone gives;
  leaves = λ desk bytes. ⊥;
  right = λ desk. ⊤;
  hides = λ old new ending. ⊥;
}
