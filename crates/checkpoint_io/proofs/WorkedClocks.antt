-- The worked log of two clocks is proved from its parts. The same with bytes changed, or cut off.
use Rattle.std.proofs.Common.{◌≡◌, ℕ, ◌≤◌, lit<, lit≤, List, [], ◌∷◌, ◌++◌, length, drop, Err, refl, inl, arith}
use Rattle.std.specs.Prelude.{slice_set, take}
use Rattle.std.specs.Hash.{le_bytes}
use Rattle.nibble_pack.specs.Packing.{small}
use Rattle.nibble_pack.proofs.lemmas.PackingLaws.{IsLeastCount-zero, IsLeastCount-suc}
use Rattle.log_dictionary.specs.Rows.{row_message, later_clock}
use Rattle.log_dictionary.specs.Messages.{AreDistinct}
use Rattle.buffer_extent.specs.Bodies.{SpellsRecord}
use Rattle.checkpoint_io.specs.declared.cause.Cause.{Cause}
use Rattle.checkpoint_io.specs.declared.cause.Cause.TheVariants as causes
use Rattle.checkpoint_io.specs.Blocks.{Fragment, Extent, NewClock, Close, SpellsClock, SpellsExtent, FileOf}
use Rattle.checkpoint_io.specs.Validity.{IsHeader, Valid}
use Rattle.checkpoint_io.specs.Logs.{ends, extent, close, LogOf}
use Rattle.checkpoint_io.specs.Reading.{block_at}
use Rattle.checkpoint_io.specs.Fronts.{Break, at_header, at_block}
use Rattle.checkpoint_io.specs.Rows.{row_fragment_bytes, two_clocks, call_at, clock_header, clock_blocks, clock_header_bytes, later_clock_bytes, late_extent_bytes, clock_file, late_clock_file}
use Rattle.checkpoint_io.proofs.lemmas.FrontLaws.{empty_file, file_goes_on}
use Rattle.checkpoint_io.proofs.lemmas.Worked.{fragment_spelled, is_record}

-- ---- the blocks

clock_spelled : SpellsClock clock_header later_clock later_clock_bytes
unfolding le_bytes
clock_spelled = record { version_has = refl; tick_fits = lit< tt; nanos_fits = lit< tt; rate_fits = lit< tt; joined = refl }

record_spelled : SpellsRecord (row_message ∷ []) 1000 (call_at 2003) (32 ∷ 235 ∷ 3 ∷ 1 ∷ 7 ∷ [])
record_spelled = record {
  message = row_message;
  known = refl;
  spelled = record {
    id_number = record { code = 0; bytes = [] };
    step_number = record { code = 2; bytes = 235 ∷ 3 ∷ [] };
    numbers = record { code = 1; bytes = 7 ∷ [] } ∷ [];
    id_packed = (0, refl, record { fits = lit< tt; count = IsLeastCount-zero; spelled = refl });
    not_before = lit≤ tt;
    stamp_fits = lit< tt;
    step_packed = (1003, refl, record { fits = lit< tt; count = IsLeastCount-suc 1 1003 (lit≤ tt) (lit< tt); spelled = refl });
    packed = (small 7 refl (lit< tt) (IsLeastCount-suc 0 7 (lit≤ tt) (lit< tt)) refl, tt);
    joined = refl;
  };
}

extent_spelled : SpellsExtent (row_message ∷ []) clock_header 0 (call_at 2003 ∷ []) late_extent_bytes
unfolding le_bytes
extent_spelled = record {
  body = 32 ∷ 235 ∷ 3 ∷ 1 ∷ 7 ∷ [];
  some = lit≤ tt;
  short = lit≤ tt;
  writer_fits = lit< tt;
  body_spelled = (32 ∷ 235 ∷ 3 ∷ 1 ∷ 7 ∷ [], [], refl, record_spelled, refl);
  joined = refl;
}

-- ---- the file

header_file : FileOf clock_header [] clock_header_bytes
unfolding le_bytes
header_file = empty_file clock_header

defined : FileOf clock_header (NewClock later_clock ∷ Fragment 0 (row_message ∷ []) ∷ []) (clock_header_bytes ++ later_clock_bytes ++ row_fragment_bytes)
defined =
    file_goes_on clock_header (NewClock later_clock ∷ []) (Fragment 0 (row_message ∷ [])) (clock_header_bytes ++ later_clock_bytes) row_fragment_bytes
    (file_goes_on clock_header [] (NewClock later_clock) clock_header_bytes later_clock_bytes header_file clock_spelled)
    fragment_spelled

pub file : FileOf clock_header clock_blocks clock_file
unfolding le_bytes
file =
    file_goes_on clock_header (NewClock later_clock ∷ Fragment 0 (row_message ∷ []) ∷ Extent 0 (call_at 2003 ∷ []) ∷ []) (Close 0) (clock_header_bytes ++ later_clock_bytes ++ row_fragment_bytes ++ late_extent_bytes) (4 ∷ 0 ∷ 0 ∷ [])
    (file_goes_on clock_header (NewClock later_clock ∷ Fragment 0 (row_message ∷ []) ∷ []) (Extent 0 (call_at 2003 ∷ [])) (clock_header_bytes ++ later_clock_bytes ++ row_fragment_bytes) late_extent_bytes defined extent_spelled)
    (record { writer_fits = lit< tt; joined = refl })

header_right : IsHeader clock_header
header_right = record { version_known = refl; some_writer = lit≤ tt; few_writers = lit≤ tt; tick_fits = lit< tt; nanos_fits = lit< tt; rate_fits = lit< tt; rate = lit≤ tt }

only_message : AreDistinct (row_message ∷ [])
only_message i j d earlier within = absurd (omega (arith, earlier, within))

pub valid : Valid clock_header clock_blocks
valid = record {
  header_right = header_right;
  blocks_right = (
    record { few = lit< tt; rising = lit< tt; early = tt; rate = lit≤ tt },
    (
      record { next = refl; distinct = only_message; few = lit≤ tt },
      (
        record { writer_open = record { known = lit< tt; unclosed = λ e. cc }; right = (is_record 2003, tt); rising = (lit≤ tt, tt) },
        (record { known = lit< tt; unclosed = λ e. cc }, tt),
      ),
    ),
  );
}

pub log : LogOf clock_file ((call_at 2003 ∷ []) ∷ []) (row_message ∷ []) 2 two_clocks 4096
log = record {
  header = clock_header;
  blocks = clock_blocks;
  file = file;
  valid = valid;
  version_is = refl;
  unwritten = [];
  clocks_are = refl;
  writers_are = refl;
  undefined = [];
  messages_are = refl;
  records_are = refl;
  laid_out = extent [] (NewClock later_clock ∷ Fragment 0 (row_message ∷ []) ∷ []) 0 (call_at 2003 ∷ []) (Close 0 ∷ [])
      (record { fragments = Fragment 0 (row_message ∷ []) ∷ []; are = ([], refl, refl, inl refl, refl); joined = refl }) (lit≤ tt) (close _ 0 [] (ends _));
}

-- ---- breaks of the header

pub other_version : Break (slice_set clock_file 4 3) 0 causes.BadVersion
other_version = at_header causes.BadVersion refl

pub no_writers : Break (slice_set clock_file 5 0) 0 causes.BadHeader
no_writers = at_header causes.BadHeader refl

pub too_many_writers : Break (slice_set (slice_set clock_file 5 1) 6 4) 0 causes.BadHeader
too_many_writers = at_header causes.BadHeader refl

-- ---- breaks of the clock

only_header : Valid clock_header []
only_header = record { header_right = header_right; blocks_right = tt }

at_clock : (rest : List ℕ) (cause : Cause) → 1 ≤ length rest → block_at clock_header [] rest ≡ Err cause → Break (clock_header_bytes ++ rest) 31 cause
at_clock rest cause some breaks = at_block clock_header [] clock_header_bytes rest cause refl header_file only_header some breaks

pub other_tag : Break (slice_set clock_file 31 5) 31 causes.BadBlock
other_tag = at_clock (5 ∷ drop 32 clock_file) causes.BadBlock (lit≤ tt) refl

pub same_tick : Break (slice_set (slice_set clock_file 32 232) 33 3) 31 causes.ClockOrder
same_tick = at_clock (3 ∷ 232 ∷ 3 ∷ drop 34 clock_file) causes.ClockOrder (lit≤ tt) refl

pub tick_before_rate : Break (take 40 (slice_set (slice_set clock_file 32 232) 33 3)) 31 causes.ClockOrder
tick_before_rate = at_clock (3 ∷ 232 ∷ 3 ∷ 0 ∷ 0 ∷ 0 ∷ 0 ∷ 0 ∷ 0 ∷ []) causes.ClockOrder (lit≤ tt) refl

pub no_rate : Break (slice_set (slice_set (slice_set clock_file 49 0) 50 0) 51 0) 31 causes.BadRate
no_rate = at_clock (take 17 later_clock_bytes ++ 0 ∷ 0 ∷ 0 ∷ 0 ∷ drop 52 clock_file) causes.BadRate (lit≤ tt) refl

pub cut : Break (take 55 clock_file) 31 causes.Cut
cut = at_clock (take 24 later_clock_bytes) causes.Cut (lit≤ tt) refl

-- ---- breaks behind it

pub other_writer : Break (slice_set clock_file 84 1) 82 causes.UnknownWriter
other_writer = at_block clock_header (NewClock later_clock ∷ Fragment 0 (row_message ∷ []) ∷ []) (clock_header_bytes ++ later_clock_bytes ++ row_fragment_bytes) (2 ∷ 0 ∷ 1 ∷ drop 85 clock_file) causes.UnknownWriter refl defined
    (record { header_right = header_right; blocks_right = (valid.blocks_right.0, (valid.blocks_right.1.0, tt)) }) (lit≤ tt) refl

-- the file whose clock stands behind the call, up to the clock
called : FileOf clock_header (Fragment 0 (row_message ∷ []) ∷ Extent 0 (call_at 2003 ∷ []) ∷ []) (clock_header_bytes ++ row_fragment_bytes ++ late_extent_bytes)
called =
    file_goes_on clock_header (Fragment 0 (row_message ∷ []) ∷ []) (Extent 0 (call_at 2003 ∷ [])) (clock_header_bytes ++ row_fragment_bytes) late_extent_bytes
    (file_goes_on clock_header [] (Fragment 0 (row_message ∷ [])) clock_header_bytes row_fragment_bytes header_file fragment_spelled)
    extent_spelled

called_valid : Valid clock_header (Fragment 0 (row_message ∷ []) ∷ Extent 0 (call_at 2003 ∷ []) ∷ [])
called_valid = record {
  header_right = header_right;
  blocks_right = (
    record { next = refl; distinct = only_message; few = lit≤ tt },
    (record { writer_open = record { known = lit< tt; unclosed = λ e. cc }; right = (is_record 2003, tt); rising = (lit≤ tt, tt) }, tt),
  );
}

pub late : Break late_clock_file 69 causes.ClockLate
late = at_block clock_header (Fragment 0 (row_message ∷ []) ∷ Extent 0 (call_at 2003 ∷ []) ∷ []) (clock_header_bytes ++ row_fragment_bytes ++ late_extent_bytes) (later_clock_bytes ++ 4 ∷ 0 ∷ 0 ∷ []) causes.ClockLate refl called called_valid (lit≤ tt) refl
