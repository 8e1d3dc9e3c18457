-- Worked logs and the lines that they stand for.
use Rattle.std.specs.Prelude.{ℕ, pos, List, [], ◌∷◌, ◌++◌, codes}
use Rattle.printf_grammar.specs.declared.argument.Value.TheVariants.{Signed}
use Rattle.log_dictionary.specs.Calls.{LogCall}
use Rattle.arg_records.specs.Rows.{row_call}
use Rattle.log_dictionary.specs.Rows.{row_message}
use Rattle.checkpoint_io.specs.declared.header.Header.{Header}
use Rattle.log_dictionary.specs.declared.clock.Clock.{Clock}
use Rattle.checkpoint_io.specs.Blocks.{Block, Fragment, Extent, NewClock, Close}
use Rattle.checkpoint_io.specs.Rows.{row_header, call_at}

-- the line of the worked log's one call
abbrev pub row_line : List ℕ
row_line = codes "1514764800.000000001 srv.cc:12 NOTICE[0]: x=7\n"

abbrev pub three_writers : Header
three_writers = record row_header { writers = 3 }

-- the second writer's two calls stand around the first writer's one, and the third made none
abbrev pub mixed_blocks : List Block
mixed_blocks =
    Fragment 0 (row_message ∷ [])
    ∷ Extent 1 (row_call 2 ∷ [])
    ∷ Extent 0 (row_call 1 ∷ [])
    ∷ Extent 1 (row_call 3 ∷ [])
    ∷ Close 2
    ∷ Close 0
    ∷ Close 1 ∷ []

-- the second writer's calls
abbrev pub second_calls : List LogCall
second_calls =
    record { writer = 1; ordinal = 0; stamp = 1003; message = row_message; args = Signed (pos 2) ∷ [] }
    ∷ record { writer = 1; ordinal = 1; stamp = 1003; message = row_message; args = Signed (pos 3) ∷ [] } ∷ []

-- all at one time: the first writer's line comes first, and the second writer's in their order
abbrev pub mixed_lines : List ℕ
mixed_lines =
    codes "1514764800.000000001 srv.cc:12 NOTICE[0]: x=1\n"
    ++ codes "1514764800.000000001 srv.cc:12 NOTICE[1]: x=2\n"
    ++ codes "1514764800.000000001 srv.cc:12 NOTICE[1]: x=3\n"

-- ---- calls that are settled one after the other

abbrev pub two_writers : Header
two_writers = record row_header { writers = 2 }

-- each writer makes the worked call, and then both are closed
abbrev pub paired_blocks : List Block
paired_blocks =
    Fragment 0 (row_message ∷ [])
    ∷ Extent 0 (row_call 7 ∷ [])
    ∷ Extent 1 (row_call 7 ∷ [])
    ∷ Close 0
    ∷ Close 1 ∷ []

-- ---- two clocks

-- three ticks after those of the second clock
abbrev pub clock_line : List ℕ
clock_line = codes "1514764801.000000003 srv.cc:12 NOTICE[0]: x=7\n"

-- at tick 2,000 it is a second before the first clock's time
abbrev pub earlier_clock : Clock
earlier_clock = record { tick = 2000; nanos = 1514764799000000000; rate = 1000000000 }

-- calls a tick before the clock, at its tick, and a tick behind it
abbrev pub stepped_blocks : List Block
stepped_blocks =
    Fragment 0 (row_message ∷ [])
    ∷ Extent 0 (call_at 1999 ∷ [])
    ∷ NewClock earlier_clock
    ∷ Extent 0 (call_at 2000 ∷ call_at 2001 ∷ [])
    ∷ Close 0 ∷ []

-- the times fall, and the order is that of stamps
abbrev pub stepped_lines : List ℕ
stepped_lines =
    codes "1514764800.000000499 srv.cc:12 NOTICE[0]: x=7\n"
    ++ codes "1514764799.000000000 srv.cc:12 NOTICE[0]: x=7\n"
    ++ codes "1514764799.000000001 srv.cc:12 NOTICE[0]: x=7\n"
