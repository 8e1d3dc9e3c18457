-- A worked log: one message, and one call of it. Blocks of two messages and two writers. A log of two clocks.
use Rattle.std.specs.Prelude.{ℕ, List, [], ◌∷◌, ◌++◌}
use Rattle.arg_records.specs.declared.call.Call.{Call}
use Rattle.arg_records.specs.Rows.{row_call, full_message, full_call}
use Rattle.log_dictionary.specs.declared.clock.Clock.{Clock}
use Rattle.log_dictionary.specs.Rows.{row_message, row_clock, later_clock}
use Rattle.checkpoint_io.specs.declared.header.Header.{Header}
use Rattle.checkpoint_io.specs.Blocks.{Block, Fragment, Extent, NewClock, Close}

-- a call three ticks after the clock's
abbrev pub row_record : Call
row_record = row_call 7

abbrev pub row_header : Header
row_header =
    record { version = 1; writers = 1; clock = record { tick = 1000; nanos = 1514764800000000000; rate = 2000000000 } }

abbrev pub row_blocks : List Block
row_blocks = Fragment 0 (row_message ∷ []) ∷ Extent 0 (row_record ∷ []) ∷ Close 0 ∷ []

-- a call of the other message
abbrev pub full_record : Call
full_record = full_call 1004

-- each message stands right in front of the first extent that wants it
abbrev pub late_fragments : List Block
late_fragments =
    Fragment 0 (row_message ∷ [])
    ∷ Extent 0 (row_record ∷ [])
    ∷ Fragment 1 (full_message ∷ [])
    ∷ Extent 1 (full_record ∷ row_record ∷ [])
    ∷ Close 1
    ∷ Extent 0 (full_record ∷ []) ∷ []

-- `NLOG`, version 1, one writer, the tick, the nanoseconds and the rate
abbrev pub row_header_bytes : List ℕ
row_header_bytes =
    78 ∷ 76 ∷ 79 ∷ 71 ∷ 1 ∷ 1 ∷ []
    ++ 232 ∷ 3 ∷ 0 ∷ 0 ∷ 0 ∷ 0 ∷ 0 ∷ 0 ∷ []
    ++ 0 ∷ 0 ∷ 68 ∷ 94 ∷ 143 ∷ 134 ∷ 5 ∷ 21 ∷ []
    ++ 0 ∷ 148 ∷ 53 ∷ 119 ∷ 0 ∷ 0 ∷ 0 ∷ 0 ∷ []

-- Notice, line 12, six bytes of name, `srv.cc`, and four bytes, `x=%d`
abbrev pub row_entry_bytes : List ℕ
row_entry_bytes =
    3 ∷ 12 ∷ 0 ∷ 0 ∷ 0 ∷ 6 ∷ 0 ∷ []
    ++ 115 ∷ 114 ∷ 118 ∷ 46 ∷ 99 ∷ 99 ∷ []
    ++ 4 ∷ 0 ∷ 120 ∷ 61 ∷ 37 ∷ 100 ∷ []

-- a fragment whose first id is 0, with one entry
abbrev pub row_fragment_bytes : List ℕ
row_fragment_bytes = 1 ∷ 0 ∷ 0 ∷ 0 ∷ 0 ∷ 1 ∷ 0 ∷ [] ++ row_entry_bytes

-- the codes of id 0 and step 3, the step, the code of 7, and 7
abbrev pub row_body : List ℕ
row_body = 16 ∷ 3 ∷ 1 ∷ 7 ∷ []

-- an extent of writer 0 with four bytes
abbrev pub row_extent_bytes : List ℕ
row_extent_bytes = 2 ∷ 0 ∷ 4 ∷ 0 ∷ 0 ∷ 0 ∷ [] ++ row_body

-- the whole file: 68 bytes
abbrev pub row_bytes : List ℕ
row_bytes = row_header_bytes ++ row_fragment_bytes ++ row_extent_bytes ++ 4 ∷ 0 ∷ []

-- ---- two clocks

-- the worked call, at a stamp
abbrev pub call_at : ℕ → Call
call_at stamp = record row_record { stamp = stamp }

abbrev pub two_clocks : List Clock
two_clocks = row_clock ∷ later_clock ∷ []

abbrev pub clock_header : Header
clock_header = record row_header { version = 2 }

-- the call comes three ticks after those of the second clock
abbrev pub clock_blocks : List Block
clock_blocks = NewClock later_clock ∷ Fragment 0 (row_message ∷ []) ∷ Extent 0 (call_at 2003 ∷ []) ∷ Close 0 ∷ []

-- `NLOG`, version 2, one writer in two bytes, and the clock
abbrev pub clock_header_bytes : List ℕ
clock_header_bytes =
    78 ∷ 76 ∷ 79 ∷ 71 ∷ 2 ∷ 1 ∷ 0 ∷ []
    ++ 232 ∷ 3 ∷ 0 ∷ 0 ∷ 0 ∷ 0 ∷ 0 ∷ 0 ∷ []
    ++ 0 ∷ 0 ∷ 68 ∷ 94 ∷ 143 ∷ 134 ∷ 5 ∷ 21 ∷ []
    ++ 0 ∷ 148 ∷ 53 ∷ 119 ∷ 0 ∷ 0 ∷ 0 ∷ 0 ∷ []

-- the tick 2,000, the nanoseconds, and a tick a nanosecond
abbrev pub later_clock_bytes : List ℕ
later_clock_bytes =
    3 ∷ 208 ∷ 7 ∷ 0 ∷ 0 ∷ 0 ∷ 0 ∷ 0 ∷ 0 ∷ []
    ++ 0 ∷ 202 ∷ 222 ∷ 153 ∷ 143 ∷ 134 ∷ 5 ∷ 21 ∷ []
    ++ 0 ∷ 202 ∷ 154 ∷ 59 ∷ 0 ∷ 0 ∷ 0 ∷ 0 ∷ []

-- an extent of writer 0 with five bytes: the codes of id 0 and step 1,003, the step, the code of 7, and 7
abbrev pub late_extent_bytes : List ℕ
late_extent_bytes = 2 ∷ 0 ∷ 0 ∷ 5 ∷ 0 ∷ 0 ∷ 0 ∷ 32 ∷ 235 ∷ 3 ∷ 1 ∷ 7 ∷ []

-- the whole file: 97 bytes
abbrev pub clock_file : List ℕ
clock_file =
    clock_header_bytes ++ later_clock_bytes ++ row_fragment_bytes ++ late_extent_bytes ++ 4 ∷ 0 ∷ 0 ∷ []

-- the clock stands behind the call that has reached its tick
abbrev pub late_clock_file : List ℕ
late_clock_file =
    clock_header_bytes ++ row_fragment_bytes ++ late_extent_bytes ++ later_clock_bytes ++ 4 ∷ 0 ∷ 0 ∷ []
