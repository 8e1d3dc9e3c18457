-- Files that are being read.
use Rattle.std.specs.Prelude.{ℕ, List, drop, Some}
use Rattle.std.specs.BTreeMap.{BTreeMap}
use Rattle.nl_io.specs.declared.reading.MemReading.{MemReading}
use Rattle.nl_io.specs.Desk.{ById}
use Rattle.nl_io.specs.Tables.{by_id}

-- the bytes still to come
abbrev pub left_of : MemReading → List ℕ
left_of reading = drop reading.at reading.bytes.items

-- by their ids, each with the bytes still to come
abbrev pub left_in : BTreeMap ℕ MemReading → ById
left_in table = by_id (λ reading. Some (left_of reading)) table.entries
