-- What a set of files means: what each name holds, and which files are open.
use Rattle.std.specs.Prelude.{◌≡◌, ◌≢◌, ℕ, ◌≤◌, List, [], ◌++◌, Option, Some, None, IfSome, is_some, option_map, unwrap_or}
use Rattle.std.specs.Ordering.{nat_cmp}
use Rattle.std.specs.Cmp.Lexicographic.{slice_cmp}
use Rattle.std.specs.FinMap as map
use Rattle.nl_io.specs.Content.{Told, without_front}

-- names, as the bytes of their texts, and the bytes that each holds
abbrev pub Held : Type 0
Held = map.FinMap (slice_cmp nat_cmp) (List ℕ)

-- open files by their ids, each with a text or content that may be told
abbrev pub ById : Type 0
ById = map.FinMap nat_cmp Told

pub record Desk : Type 0 where
  -- what each name holds, where that is told
  pub held : Option Held
  -- the files that are being read, each with the bytes still to come
  pub left : ById
  -- the files that were created and aren't finished, each with its name
  pub made : ById
  -- how many calls for reading, and how many for writing, have failed
  pub read_faults : ℕ
  pub write_faults : ℕ

-- all is as it was but for the count of read faults, which doesn't fall
pub record OnlyReadFaults (old new : Desk) : Type 0 where
  pub same : new ≡ record old { read_faults = new.read_faults }
  pub count : old.read_faults ≤ new.read_faults

-- all is as it was but for the count of write faults, which doesn't fall
pub record OnlyWriteFaults (old new : Desk) : Type 0 where
  pub same : new ≡ record old { write_faults = new.write_faults }
  pub count : old.write_faults ≤ new.write_faults

-- neither being read nor being made
pub record IsNewId (desk : Desk) (id : ℕ) : Type 0 where
  pub unread : map.get desk.left id ≡ None
  pub unmade : map.get desk.made id ≡ None

-- the file is being read, and content is what it has left
abbrev pub IsReading : Desk → ℕ → Told → Type 0
IsReading desk id content = map.get desk.left id ≡ Some content

-- The name was opened under a new id. What it has left is what the name holds, where that is told.
pub record Opens (old : Desk) (name : List ℕ) (id : ℕ) (new : Desk) : Type 0 where
  pub content : Told
  pub holds : IfSome old.held (λ held. (bytes : List ℕ) × (map.get held name ≡ Some bytes) × (content ≡ Some bytes))
  pub unused : IsNewId old id
  pub opened : new ≡ record old { left = map.insert old.left id content }

-- the name isn't there, where that is told
abbrev pub IsAbsent : Desk → List ℕ → Type 0
IsAbsent desk name = IfSome desk.held (λ held. map.get held name ≡ None)

-- n bytes of the file were taken
pub record TakesBytes (old : Desk) (id n : ℕ) (new : Desk) : Type 0 where
  pub taken : (content : Told) → IsReading old id content
      → new ≡ record old { left = map.insert old.left id (without_front n content) }

-- the file is no longer being read
abbrev pub Leaves : Desk → ℕ → Desk → Type 0
Leaves old id new = new ≡ record old { left = map.remove old.left id }

-- The name was created under a new id, and holds no bytes.
pub record Creates (old : Desk) (name : List ℕ) (id : ℕ) (new : Desk) : Type 0 where
  pub title : Told
  pub named : IfSome old.held (λ _. title ≡ Some name)
  pub unused : IsNewId old id
  pub created : new ≡ record old { held = option_map (λ held. map.insert held name []) old.held; made = map.insert old.made id title }

-- what a name holds: nothing where it isn't there
abbrev pub held_at : Held → List ℕ → List ℕ
held_at held name = unwrap_or (map.get held name) []

-- The bytes were put at the end of the name of the created file.
pub record Puts (old : Desk) (id : ℕ) (bytes : List ℕ) (new : Desk) : Type 0 where
  pub put : (name : List ℕ) → map.get old.made id ≡ Some (Some name)
      → new ≡ record old { held = option_map (λ held. map.insert held name (held_at held name ++ bytes)) old.held }
  -- whether it is told what names hold
  pub told : is_some new.held ≡ is_some old.held
  pub rest : new ≡ record old { held = new.held }

-- The file is no longer being made. Only the count of write faults may have changed beside that, and it doesn't fall.
pub record Finishes (old : Desk) (id : ℕ) (new : Desk) : Type 0 where
  pub finished : new ≡ record old { made = map.remove old.made id; write_faults = new.write_faults }
  pub count : old.write_faults ≤ new.write_faults

-- All is as it was but for what one file has left and the count of read faults.
pub record SameButLeft (id : ℕ) (old new : Desk) : Type 0 where
  pub held : new.held ≡ old.held
  pub left : (other : ℕ) → other ≢ id → map.get new.left other ≡ map.get old.left other
  pub made : new.made ≡ old.made
  pub write_faults : new.write_faults ≡ old.write_faults

-- what a name holds, where both are told
abbrev pub held_by : Option Held → Told → Told
held_by held None = None
held_by held (Some name) = option_map (λ names. held_at names name) held

-- what the name of a created file holds
abbrev pub put_by : Desk → ℕ → Told
put_by desk id = held_by desk.held (unwrap_or (map.get desk.made id) None)

-- what a name holds, or that it isn't there, where that is told
abbrev pub found_in : Desk → List ℕ → Option (Option (List ℕ))
found_in desk name = option_map (λ held. map.get held name) desk.held

-- All is as it was but for the bytes that the name of one created file holds and the count of write faults.
pub record SameButHeld (id : ℕ) (old new : Desk) : Type 0 where
  -- whether it is told what names hold
  pub told : is_some new.held ≡ is_some old.held
  -- its name is still there, and each other name holds what it held
  pub there : (name : List ℕ) → map.get old.made id ≡ Some (Some name) → found_in old name ≢ Some None
      → found_in new name ≢ Some None
  pub held : (name other : List ℕ) → map.get old.made id ≡ Some (Some name) → other ≢ name
      → found_in new other ≡ found_in old other
  pub left : new.left ≡ old.left
  pub made : new.made ≡ old.made
  pub read_faults : new.read_faults ≡ old.read_faults

-- All is as it was but for what one name holds and the count of write faults, which doesn't fall.
pub record OnlyName (name : List ℕ) (old new : Desk) : Type 0 where
  pub told : is_some new.held ≡ is_some old.held
  pub held : (other : List ℕ) → other ≢ name → found_in new other ≡ found_in old other
  pub left : new.left ≡ old.left
  pub made : new.made ≡ old.made
  pub read_faults : new.read_faults ≡ old.read_faults
  pub count : old.write_faults ≤ new.write_faults
