-- What a command does: which files it reads, which one it makes, and what it makes and prints of what they hold.
use Rattle.std.specs.Prelude.{◌≡◌, ℕ, ◌≤◌, List, [], length, take, Option, Some, None}
use Rattle.nl_io.specs.Desk.{Desk}
use Rattle.command_base.specs.Endings.{Ending}

-- what comes of the inputs: the bytes of the output, if one is made, and the text that is printed
pub record Product : Type 0 where
  pub made : Option (List ℕ)
  pub text : List ℕ

-- nothing is made and nothing printed
abbrev pub nothing : Product
nothing = record { made = None; text = [] }

-- this text is printed, and nothing made
abbrev pub text_alone : List ℕ → Product
text_alone text = record { made = None; text = text }

-- these are bytes of a part of what is made, from its front
abbrev pub IsFrontMade : Option (List ℕ) → List ℕ → Type 0
IsFrontMade None bytes = ⊥
IsFrontMade (Some made) bytes = (n : ℕ) × (n ≤ length made) × (bytes ≡ take n made)

-- How long memory may be wanting.
pub data Course : Type 0 where
  -- while the inputs are read; the output is made and the text printed without more of it
  WhileReading : Course
  -- also once the output is created, which holds no bytes then; the text is printed without more of it
  UntilBegun : Course
  -- also while the text is printed
  WhilePrinting : Course
  -- so too, and the text of what was read is printed where a read failed
  Streaming : Course

-- What a command does.
pub record Task : Type 1 where
  -- the names of the files that it reads, in the order in which it reads them
  pub inputs : List (List ℕ)
  -- the name of the file that it makes, if it makes one
  pub output : Option (List ℕ)
  pub course : Course
  -- How the reading of the inputs ends, by the files before and after it: what comes of them, and the end that the
  -- command has where no write fails. It is what the inputs say, or that one isn't there, that a read of it failed, or
  -- that memory was wanting. A text that goes out while a file is read may be cut off in the middle of the file; then it
  -- is a failed write. Where the inputs leave a choice, as a session does, there are several products.
  pub reads : Desk → Desk → Product → Ending → Type 0
  -- an output is made of the inputs, and it may hold these bytes where a write of it failed
  pub leaves : Desk → List ℕ → Type 0
  -- it is told that the inputs are there, and they are right
  pub right : Desk → Type 0
  -- by the files before and after: this end may be told in place of a failed read
  pub hides : Desk → Desk → Ending → Type 0
