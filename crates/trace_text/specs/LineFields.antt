-- The fields of the lines of a trace that are no messages.
use Rattle.std.specs.Prelude.{ℕ, Bool, ◌==◌, ◌&&◌, nat_le, List, codes, Option, None, Some, if◌then◌else◌}
use Rattle.std.specs.Option.{is_some}
use Rattle.log_dictionary.specs.declared.clock.Clock.{Clock}
use Rattle.log_dictionary.specs.Fields.{first_field}
use Rattle.log_dictionary.specs.Numbers.{natural_of, if_small}
use Rattle.log_dictionary.specs.Fields.{◌>>=◌, after, split_at_first}
use Rattle.session_options.specs.Versions.{is_known, most_writers}

-- the line begins with these bytes
abbrev pub begins_with : List ℕ → List ℕ → Bool
begins_with front line = is_some (after front line)

-- the number below 2^64 that the field spells
abbrev pub field_number : List ℕ → Option ℕ
field_number field = if_small (natural_of field)

-- the number that is in front of the first space, and what follows the space
abbrev pub number_before : List ℕ → Option (ℕ × List ℕ)
number_before fields = do
  parts ← split_at_first 32 fields
  number ← field_number parts.0
  Some (number, parts.1)

-- the tick, the nanoseconds and the rate of a clock, which ticks
abbrev pub clock_of : List ℕ → Option Clock
clock_of fields = do
  first ← split_at_first 32 fields
  tick ← field_number first.0
  second ← split_at_first 32 first.1
  nanos ← field_number second.0
  rate ← field_number second.1
  if rate == 0 then None else Some (record { tick = tick; nanos = nanos; rate = rate })

-- what a line of a clock says
abbrev pub clock_at : List ℕ → Option Clock
clock_at line = after (codes "clock ") line >>= clock_of

-- a version that is known
abbrev pub known_version : ℕ → Option ℕ
known_version version = if is_known version then Some version else None

-- the version that the first line says
abbrev pub version_at : List ℕ → Option ℕ
version_at line = after (codes "nanolog-trace ") line >>= field_number >>= known_version

-- a number of writers that a run of the version may have
abbrev pub writer_count : ℕ → ℕ → Option ℕ
writer_count version writers =
    if nat_le 1 writers && nat_le writers (most_writers version) then Some writers else None

-- the number of writers of their line
abbrev pub writers_at : ℕ → List ℕ → Option ℕ
writers_at version line = after (codes "writers ") line >>= field_number >>= writer_count version

-- what a line of a call says before its arguments, and the bytes behind its id: none, or a space and more
pub record CallHead : Type 0 where
  pub writer : ℕ
  pub stamp : ℕ
  pub id : ℕ
  pub fields : List ℕ

-- a writer, a stamp and an id, and what follows them
abbrev pub head_of : List ℕ → Option CallHead
head_of fields = do
  first ← split_at_first 32 fields
  writer ← field_number first.0
  second ← split_at_first 32 first.1
  stamp ← field_number second.0
  id ← field_number (first_field second.1).0
  Some (record { writer = writer; stamp = stamp; id = id; fields = (first_field second.1).1 })

-- the front of a line of a call
abbrev pub head_at : List ℕ → Option CallHead
head_at line = after (codes "call ") line >>= head_of
