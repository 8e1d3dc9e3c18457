-- What a set of files in memory means.
use Rattle.std.specs.Prelude.{◌≡◌, ℕ, List, Some}
use Rattle.nl_io.specs.declared.mem_files.MemFiles.{MemFiles}
use Rattle.nl_io.specs.declared.script.Script.{Script}
use Rattle.nl_io.specs.declared.script.Faults.{Faults}
use Rattle.nl_io.specs.Desk.{Desk, Held}
use Rattle.nl_io.specs.Readings.{left_in}
use Rattle.nl_io.specs.Shelves.{held_on}
use Rattle.nl_io.specs.Titles.{titles_in}
use Rattle.nl_io.specs.Scripts.{all_faults}

-- what each name holds
abbrev pub held_of : MemFiles → Held
held_of files = held_on files.shelf

-- all of it is told
abbrev pub desk_of : MemFiles → Desk
desk_of files = record {
  held = Some (held_of files);
  left = left_in files.reading;
  made = titles_in files.made;
  read_faults = all_faults files.read_faults;
  write_faults = all_faults files.write_faults;
}

-- how many bytes one call moves at most
abbrev pub files_piece : MemFiles → ℕ
files_piece files = files.piece

-- which calls fail, and how many came
abbrev pub files_script : MemFiles → Script
files_script files = files.script

-- the numbers of the calls that fail
abbrev pub files_failing : MemFiles → List ℕ
files_failing files = files.script.failing.items

-- how many calls came
abbrev pub files_calls : MemFiles → ℕ
files_calls files = files.script.calls

-- how many calls for reading failed
abbrev pub read_faults_of : MemFiles → Faults
read_faults_of files = files.read_faults

-- how many calls for writing failed
abbrev pub write_faults_of : MemFiles → Faults
write_faults_of files = files.write_faults

-- the same piece, and the same calls fail
abbrev pub IsSameFiles : MemFiles → MemFiles → Type 0
IsSameFiles a b = (files_piece b ≡ files_piece a) × (files_failing b ≡ files_failing a)
