-- The worked log with a byte changed, or cut off.
use Rattle.std.proofs.Common.{◌≡◌, ℕ, ◌≤◌, lit≤, List, [], ◌∷◌, ◌++◌, length, drop, Err, refl}
use Rattle.std.specs.Prelude.{slice_set, take}
use Rattle.std.specs.Hash.{le_bytes}
use Rattle.log_dictionary.specs.Rows.{row_message}
use Rattle.checkpoint_io.specs.declared.cause.Cause.{Cause}
use Rattle.checkpoint_io.specs.declared.cause.Cause.TheVariants as causes
use Rattle.checkpoint_io.specs.Blocks.{Fragment, header_bytes}
use Rattle.checkpoint_io.specs.Validity.{Valid}
use Rattle.checkpoint_io.specs.Reading.{block_at}
use Rattle.checkpoint_io.specs.Fronts.{Break, at_header, at_block}
use Rattle.checkpoint_io.specs.Rows.{row_header, row_blocks, row_header_bytes, row_fragment_bytes, row_bytes, later_clock_bytes}
use Rattle.checkpoint_io.proofs.lemmas.FrontLaws.{empty_file, file_goes_on}
use Rattle.checkpoint_io.proofs.lemmas.Worked.{fragment_spelled, file, valid}

-- ---- the header

pub no_bytes : Break [] 0 causes.Cut
no_bytes = at_header causes.Cut refl

pub other_magic : Break (slice_set row_bytes 0 0) 0 causes.BadMagic
other_magic = at_header causes.BadMagic refl

pub other_version : Break (slice_set row_bytes 4 9) 0 causes.BadVersion
other_version = at_header causes.BadVersion refl

pub no_writers : Break (slice_set row_bytes 5 0) 0 causes.BadHeader
no_writers = at_header causes.BadHeader refl

pub magic_before_version : Break (slice_set (slice_set row_bytes 0 0) 4 9) 0 causes.BadMagic
magic_before_version = at_header causes.BadMagic refl

pub version_before_writers : Break (slice_set (slice_set row_bytes 4 9) 5 0) 0 causes.BadVersion
version_before_writers = at_header causes.BadVersion refl

pub writers_before_cut : Break (take 6 (slice_set row_bytes 5 0)) 0 causes.BadHeader
writers_before_cut = at_header causes.BadHeader refl

-- ---- the fragment

only_header : Valid row_header []
only_header = record { header_right = valid.header_right; blocks_right = tt }

at_fragment : (rest : List ℕ) (cause : Cause) → 1 ≤ length rest → block_at row_header [] rest ≡ Err cause → Break (row_header_bytes ++ rest) 30 cause
unfolding le_bytes
at_fragment rest cause some breaks = at_block row_header [] (header_bytes row_header) rest cause refl (empty_file row_header) only_header some breaks

pub other_tag : Break (slice_set row_bytes 30 7) 30 causes.BadBlock
other_tag = at_fragment (7 ∷ drop 31 row_bytes) causes.BadBlock (lit≤ tt) refl

-- clocks are no blocks of version 1
pub early_clock : Break (row_header_bytes ++ later_clock_bytes) 30 causes.BadBlock
early_clock = at_fragment later_clock_bytes causes.BadBlock (lit≤ tt) refl

pub other_first_id : Break (slice_set row_bytes 31 1) 30 causes.FragmentOrder
other_first_id = at_fragment (1 ∷ 1 ∷ drop 32 row_bytes) causes.FragmentOrder (lit≤ tt) refl

pub first_id_before_count : Break (slice_set (slice_set row_bytes 31 1) 35 0) 30 causes.FragmentOrder
first_id_before_count = at_fragment (1 ∷ 1 ∷ 0 ∷ 0 ∷ 0 ∷ 0 ∷ drop 36 row_bytes) causes.FragmentOrder (lit≤ tt) refl

pub no_messages : Break (slice_set row_bytes 35 0) 30 causes.BadLength
no_messages = at_fragment (take 5 row_fragment_bytes ++ 0 ∷ drop 36 row_bytes) causes.BadLength (lit≤ tt) refl

pub other_severity : Break (slice_set row_bytes 37 5) 30 causes.BadEntry
other_severity = at_fragment (take 7 row_fragment_bytes ++ 5 ∷ drop 38 row_bytes) causes.BadEntry (lit≤ tt) refl

pub severity_before_cut : Break (take 38 (slice_set row_bytes 37 5)) 30 causes.BadEntry
severity_before_cut = at_fragment (take 7 row_fragment_bytes ++ 5 ∷ []) causes.BadEntry (lit≤ tt) refl

-- ---- the extent, and behind the whole file

at_extent : (rest : List ℕ) (cause : Cause) → 1 ≤ length rest → block_at row_header (Fragment 0 (row_message ∷ []) ∷ []) rest ≡ Err cause → Break ((row_header_bytes ++ row_fragment_bytes) ++ rest) 56 cause
unfolding le_bytes
at_extent rest cause some breaks =
    at_block row_header (Fragment 0 (row_message ∷ []) ∷ []) (header_bytes row_header ++ row_fragment_bytes) rest cause refl (file_goes_on row_header [] (Fragment 0 (row_message ∷ [])) (header_bytes row_header) row_fragment_bytes (empty_file row_header) fragment_spelled) (record { header_right = valid.header_right; blocks_right = (valid.blocks_right.0, tt) }) some breaks

pub other_writer : Break (slice_set row_bytes 57 1) 56 causes.UnknownWriter
other_writer = at_extent (2 ∷ 1 ∷ drop 58 row_bytes) causes.UnknownWriter (lit≤ tt) refl

pub writer_before_length : Break (slice_set (slice_set row_bytes 57 1) 58 0) 56 causes.UnknownWriter
writer_before_length = at_extent (2 ∷ 1 ∷ 0 ∷ drop 59 row_bytes) causes.UnknownWriter (lit≤ tt) refl

pub length_before_cut : Break (take 62 (slice_set row_bytes 58 0)) 56 causes.BadLength
length_before_cut = at_extent (2 ∷ 0 ∷ 0 ∷ 0 ∷ 0 ∷ 0 ∷ []) causes.BadLength (lit≤ tt) refl

pub cut_at_60 : Break (take 60 row_bytes) 56 causes.Cut
cut_at_60 = at_extent (2 ∷ 0 ∷ 4 ∷ 0 ∷ []) causes.Cut (lit≤ tt) refl

behind_all : (rest : List ℕ) (cause : Cause) → 1 ≤ length rest → block_at row_header row_blocks rest ≡ Err cause → Break (row_bytes ++ rest) 68 cause
behind_all rest cause some breaks = at_block row_header row_blocks row_bytes rest cause refl file valid some breaks

pub closed_twice : Break (row_bytes ++ 4 ∷ 0 ∷ []) 68 causes.AfterClose
closed_twice = behind_all (4 ∷ 0 ∷ []) causes.AfterClose (lit≤ tt) refl

pub closed_before_length : Break (row_bytes ++ 2 ∷ 0 ∷ 0 ∷ 0 ∷ 0 ∷ 0 ∷ []) 68 causes.AfterClose
closed_before_length = behind_all (2 ∷ 0 ∷ 0 ∷ 0 ∷ 0 ∷ 0 ∷ []) causes.AfterClose (lit≤ tt) refl
