-- What commands over sources read, and what of that is refused.
use Rattle.std.specs.Prelude.{◌≡◌, ◌≢◌, ◌⊎◌, ℕ, ◌≤◌, List, [], ◌∷◌, ◌++◌, length, take, map, Option, Some, None, ⊤}
use Rattle.std.specs.List.{AllByRecursion, flat_map}
use Rattle.nl_io.specs.Count.{Rose}
use Rattle.nl_io.specs.Desk.{Desk, Held, OnlyReadFaults, IsAbsent}
use Rattle.log_dictionary.specs.declared.message.Message.{Message}
use Rattle.log_dictionary.specs.declared.dictionary.TheConstants.{MAX_MESSAGES}
use Rattle.preprocessor.specs.declared.refusal.SourceRefusal.{SourceRefusal}
use Rattle.preprocessor.specs.Causes.{refusal_line}
use Rattle.preprocessor.specs.Findings.{SourceFile, Finding, AllHave}
use Rattle.preprocessor.specs.declared.numbering.Numbering.{Numbering}
use Rattle.preprocessor.specs.Numbering.{numbered, IsFullAt, Refusals, NumbersSources}
use Rattle.command_base.specs.Endings.{Ending, Done, Absent, ReadFault, RefusedSources, NoMemory}
use Rattle.command_base.specs.HeldFiles.{IsHeld, IsThere}
use Rattle.command_base.specs.Tasks.{Product, nothing, IsFrontMade, WhileReading, Task}

-- ---- the sources

abbrev pub source_name : SourceFile → List ℕ
source_name source = source.name

-- These sources were read, and then come the names that weren't. Each name held the bytes of its source, where that is
-- told.
pub record AreRead (desk : Desk) (names : List (List ℕ)) (sources : List SourceFile) (unread : List (List ℕ))
    : Type 0 where
  pub named : names ≡ map source_name sources ++ unread
  pub held : AllByRecursion (λ source. IsHeld desk source.name source.bytes) sources

-- a message of the sources is one too many
pub record HaveExcess (sources : List SourceFile) : Type 0 where
  pub front : List SourceFile
  pub others : List SourceFile
  pub joined : sources ≡ front ++ others
  pub findings : List Finding
  pub have : AllHave front findings
  pub before : List Finding
  pub message : Message
  pub stops : IsFullAt findings before message

-- no message of the sources is one too many
pub record HaveNoExcess (sources : List SourceFile) : Type 0 where
  pub findings : List Finding
  pub have : AllHave sources findings
  pub few : length (numbered findings) ≤ MAX_MESSAGES

-- Why no more than these sources were read: they are all, or a message of them is one too many, or the next name isn't
-- there or can't be read.
pub data EndsReading (old new : Desk) (sources : List SourceFile) (unread : List (List ℕ)) : Type 0 where
  all_read : unread ≡ [] → new ≡ old → EndsReading old new sources unread
  too_many : HaveExcess sources → new ≡ old → EndsReading old new sources unread
  absent : (name : List ℕ) (others : List (List ℕ)) → unread ≡ name ∷ others → HaveNoExcess sources
      → IsAbsent old name → new ≡ old → EndsReading old new sources unread
  failed : (name : List ℕ) (others : List (List ℕ)) → unread ≡ name ∷ others → HaveNoExcess sources
      → OnlyReadFaults old new → Rose old.read_faults new.read_faults → EndsReading old new sources unread

-- A numbering of the sources of these names, of which the first ones were read: all of them, or something of these is
-- refused.
pub record IsNumbered (names : List (List ℕ)) (old new : Desk) (numbering : Numbering) : Type 0 where
  pub sources : List SourceFile
  pub unread : List (List ℕ)
  pub read : AreRead old names sources unread
  pub numbers : NumbersSources sources numbering
  pub ends : EndsReading old new sources unread
  pub whole : numbering.refusals.items ≡ [] → (unread ≡ []) × (new ≡ old)

-- all sources were read, and nothing of them is refused
pub record AreTaken (desk : Desk) (names : List (List ℕ)) : Type 0 where
  pub sources : List SourceFile
  pub read : AreRead desk names sources []
  pub right : Refusals sources []

-- it is told that the names are there, and nothing of what they hold is refused
pub record AreRight (desk : Desk) (names : List (List ℕ)) : Type 0 where
  pub held : Held
  pub told : desk.held ≡ Some held
  pub taken : AreTaken desk names

-- ---- sources that give nothing

-- a file isn't there, or can't be read
abbrev pub IsMissing : Ending → Type 0
IsMissing (Absent name) = ⊤
IsMissing (ReadFault name) = ⊤
IsMissing ending = ⊥

-- Of the sources that were read something is refused, and these are the lines that tell of it.
pub record AreRefused (names : List (List ℕ)) (old new : Desk) (lines : List ℕ) : Type 0 where
  pub sources : List SourceFile
  pub unread : List (List ℕ)
  pub refusals : List SourceRefusal
  pub read : AreRead old names sources unread
  pub ends : EndsReading old new sources unread
  pub refused : Refusals sources refusals
  pub some : refusals ≢ []
  pub lines_are : lines ≡ flat_map refusal_line refusals

-- the sources before this name were read, and nothing of them is refused
pub record IsReached (desk : Desk) (names : List (List ℕ)) (name : List ℕ) : Type 0 where
  pub sources : List SourceFile
  pub others : List (List ℕ)
  pub read : AreRead desk names sources (name ∷ others)
  pub right : Refusals sources []

-- memory was wanting for the next name, which is there, or after the last
pub record LackMemory (names : List (List ℕ)) (old new : Desk) : Type 0 where
  pub sources : List SourceFile
  pub unread : List (List ℕ)
  pub read : AreRead old names sources unread
  pub there : (name : List ℕ) (others : List (List ℕ)) → unread ≡ name ∷ others → IsThere old name
  pub same : new ≡ old

-- Why the sources gave nothing: the first of them that isn't there, can't be read or is refused says why, or
-- memory was wanting, also for the lines on what is refused.
abbrev pub GiveNothing : List (List ℕ) → Desk → Desk → Ending → Type 0
GiveNothing names old new (Absent name) = IsReached old names name × IsAbsent old name × (new ≡ old)
GiveNothing names old new (ReadFault name) =
    IsReached old names name × OnlyReadFaults old new × Rose old.read_faults new.read_faults
GiveNothing names old new (RefusedSources lines) = AreRefused names old new lines
GiveNothing names old new NoMemory = LackMemory names old new ⊎ ((lines : List ℕ) × AreRefused names old new lines)
GiveNothing names old new ending = ⊥

-- ---- commands over sources

-- The sources were all read, and nothing of them is refused: what they give is done; or they gave nothing.
abbrev pub ReadsSources : List (List ℕ) → (List SourceFile → Product → Type 0) → Desk → Desk → Product → Ending → Type 0
ReadsSources names gives old new product Done =
    (new ≡ old) × ((taken : AreTaken old names) × gives taken.sources product)
ReadsSources names gives old new product ending = GiveNothing names old new ending × (product ≡ nothing)

-- A command that reads sources and makes something of them. What is refused of the sources may be told in place of a
-- failed read behind them.
abbrev pub source_task : List (List ℕ) → Option (List ℕ) → (List SourceFile → Product → Type 0) → Task
source_task names output gives = record {
  inputs = names;
  output = output;
  course = WhileReading;
  reads = ReadsSources names gives;
  leaves = λ desk bytes.
      (taken : AreTaken desk names) × (product : Product) × gives taken.sources product × IsFrontMade product.made bytes;
  right = λ desk. AreRight desk names;
  hides = λ old new ending. (lines : List ℕ) × AreRefused names old new lines;
}
