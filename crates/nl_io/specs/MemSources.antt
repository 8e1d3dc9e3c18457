-- What a source in memory has.
use Rattle.std.specs.Prelude.{◌≡◌, ℕ, List, min, length}
use Rattle.nl_io.specs.declared.mem_source.MemSource.{MemSource}
use Rattle.nl_io.specs.declared.script.Script.{Script}
use Rattle.nl_io.specs.declared.script.Faults.{Faults}
use Rattle.nl_io.specs.Readings as readings

-- the bytes still to come
abbrev pub source_left : MemSource → List ℕ
source_left source = readings.left_of source.reading

-- how many bytes one call moves at most
abbrev pub source_piece : MemSource → ℕ
source_piece source = source.piece

-- which calls fail, and how many came
abbrev pub source_script : MemSource → Script
source_script source = source.script

-- the numbers of the calls that fail
abbrev pub source_failing : MemSource → List ℕ
source_failing source = source.script.failing.items

-- how many calls came
abbrev pub source_calls : MemSource → ℕ
source_calls source = source.script.calls

-- how many calls failed
abbrev pub source_faults : MemSource → Faults
source_faults source = source.faults

-- how many bytes a call moves into a buffer with this room
abbrev pub moves_into : MemSource → ℕ → ℕ
moves_into source room = min (min (source_piece source) (length (source_left source))) room

-- the same piece, and the same calls fail
abbrev pub IsSameSource : MemSource → MemSource → Type 0
IsSameSource a b = (source_piece b ≡ source_piece a) × (source_failing b ≡ source_failing a)
