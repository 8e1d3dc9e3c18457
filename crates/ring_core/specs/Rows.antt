-- Worked calls, and what they make of a ring of 1,024 words.
use Rattle.std.specs.Prelude.{ℕ, List, [], ◌++◌, replicate}
use Rattle.arg_records.specs.declared.call.Call.{Call}
use Rattle.arg_records.specs.Rows.{row_call}

-- a call without arguments, whose frame has two words
abbrev pub short_call : Call
short_call = record { stamp = 1003; id = 0; args = [] }

-- so many calls with one number, whose frames have three words
abbrev pub rows : ℕ → List Call
rows n = replicate n (row_call 7)

-- two calls with a number, and 508 without one
abbrev pub mixed_rows : List Call
mixed_rows = rows 2 ++ replicate 508 short_call
