-- A header or a block as it is read, from left to right: what the bytes give, or the first cause by which they break.
use Rattle.std.specs.Prelude.{ℕ, ◌+◌, Bool, ◌&&◌, not, nat_eq, nat_lt, nat_le, if◌then◌else◌, List, length, codes, Ok, Err}
use Rattle.std.specs.List.{list_any, list_all}
use Rattle.nibble_pack.specs.Parsing.{Parse, ◌>>=◌, provided, caused_by, first_byte, so_many, low_first, these_bytes, so_many_times}
use Rattle.log_dictionary.specs.declared.clock.Clock.{Clock}
use Rattle.log_dictionary.specs.declared.clocks.TheConstants.{MAX_CLOCKS}
use Rattle.log_dictionary.specs.declared.message.Message.{Message}
use Rattle.log_dictionary.specs.declared.dictionary.TheConstants.{MAX_MESSAGES}
use Rattle.log_dictionary.specs.declared.binary_entry.EntryCause.{EntryCause}
use Rattle.log_dictionary.specs.declared.binary_entry.EntryCause.TheVariants as entries
use Rattle.log_dictionary.specs.Clocks.{last_tick}
use Rattle.log_dictionary.specs.Messages.{is_same}
use Rattle.log_dictionary.specs.EntryReading.{entry_at}
use Rattle.arg_records.specs.declared.call.Call.{Call}
use Rattle.buffer_extent.specs.Bodies.{body_at}
use Rattle.checkpoint_io.specs.declared.cause.Cause.{Cause}
use Rattle.checkpoint_io.specs.declared.cause.Cause.TheVariants as causes
use Rattle.checkpoint_io.specs.declared.header.Header.{Header}
use Rattle.checkpoint_io.specs.declared.heads.TheConstants.{MAX_FRAGMENT_MESSAGES}
use Rattle.checkpoint_io.specs.Versions.{is_known, has_clocks, writer_len, most_writers, most_body}
use Rattle.checkpoint_io.specs.Blocks.{Block, Fragment, Extent, NewClock, Close, messages_of, clocks_of, all_records}
use Rattle.checkpoint_io.specs.Validity.{records_of, last_stamp, closes}

-- ---- the header

abbrev pub header_of : ℕ → ℕ → ℕ → ℕ → ℕ → Header
header_of version writers tick nanos rate =
    record { version = version; writers = writers; clock = record { tick = tick; nanos = nanos; rate = rate } }

-- the clock of a header with so many writers: its tick, its nanoseconds and its rate
abbrev pub header_rate_at : ℕ → ℕ → ℕ → ℕ → List ℕ → Parse Cause Header
header_rate_at version writers tick nanos bytes = do
  rate ← low_first 8 causes.Cut bytes
  ticking ← provided (nat_le 1 rate.0) causes.BadHeader rate
  Ok (header_of version writers tick nanos ticking.0, ticking.1)

abbrev pub header_nanos_at : ℕ → ℕ → ℕ → List ℕ → Parse Cause Header
header_nanos_at version writers tick bytes =
    low_first 8 causes.Cut bytes >>= (λ nanos. header_rate_at version writers tick nanos.0 nanos.1)

abbrev pub header_clock_at : ℕ → ℕ → List ℕ → Parse Cause Header
header_clock_at version writers bytes =
    low_first 8 causes.Cut bytes >>= (λ tick. header_nanos_at version writers tick.0 tick.1)

abbrev pub header_writers_at : ℕ → List ℕ → Parse Cause Header
header_writers_at version bytes = do
  writers ← low_first (writer_len version) causes.Cut bytes
  few ← provided (nat_le 1 writers.0 && nat_le writers.0 (most_writers version)) causes.BadHeader writers
  header_clock_at version few.0 few.1

abbrev pub header_version_at : List ℕ → Parse Cause Header
header_version_at bytes = do
  version ← first_byte causes.Cut bytes
  known ← provided (is_known version.0) causes.BadVersion version
  header_writers_at known.0 known.1

-- a header, of which these letters are still to come
abbrev pub header_letters_at : List ℕ → List ℕ → Parse Cause Header
header_letters_at letters bytes =
    these_bytes causes.BadMagic causes.Cut letters bytes >>= (λ magic. header_version_at magic.1)

-- the header of a file
abbrev pub header_at : List ℕ → Parse Cause Header
header_at bytes = header_letters_at (codes "NLOG") bytes

-- ---- a fragment

abbrev pub entry_cause : EntryCause → Cause
entry_cause entries.Cut = causes.Cut
entry_cause entries.BadEntry = causes.BadEntry

-- a message, and why there is none
abbrev pub message_at : List ℕ → Parse Cause Message
message_at bytes = caused_by entry_cause (entry_at bytes)

-- a message that isn't one of these
abbrev pub new_message_at : List Message → List ℕ → Parse Cause Message
new_message_at defined bytes = do
  message ← message_at bytes
  provided (not (list_any (is_same message.0) defined)) causes.BadEntry message

-- so many new messages behind these
abbrev pub new_messages_at : List Message → ℕ → List ℕ → Parse Cause (List Message)
new_messages_at defined count bytes = so_many_times new_message_at defined count bytes

-- a fragment has 1 to 16 messages, and there are 65,536 ids
abbrev pub is_count : List Message → ℕ → Bool
is_count before count =
    nat_le 1 count && (nat_le count MAX_FRAGMENT_MESSAGES && nat_le (length before + count) MAX_MESSAGES)

-- the messages behind a first id
abbrev pub counted_at : List Message → ℕ → List ℕ → Parse Cause Block
counted_at before first bytes = do
  count ← low_first 2 causes.Cut bytes
  few ← provided (is_count before count.0) causes.BadLength count
  messages ← new_messages_at before few.0 few.1
  Ok (Fragment first messages.0, messages.1)

abbrev pub fragment_at : List Message → List ℕ → Parse Cause Block
fragment_at before bytes = do
  first ← low_first 4 causes.Cut bytes
  next ← provided (nat_eq first.0 (length before)) causes.FragmentOrder first
  counted_at before next.0 next.1

-- ---- extents and close marks

-- a writer that may still write
abbrev pub open_writer_at : Header → List Block → List ℕ → Parse Cause ℕ
open_writer_at header before bytes = do
  writer ← low_first (writer_len header.version) causes.Cut bytes
  known ← provided (nat_lt writer.0 header.writers) causes.UnknownWriter writer
  provided (not (list_any (closes known.0) before)) causes.AfterClose known

-- a body of so many bytes, which is judged once all of it is there
abbrev pub sized_body_at : List Message → ℕ → ℕ → ℕ → List ℕ → Parse Cause (List Call)
sized_body_at messages tick last len bytes = do
  body ← so_many len causes.Cut bytes
  records ← caused_by causes.Body (body_at messages tick last body.0)
  Ok (records, body.1)

-- a body with its length in front
abbrev pub long_body_at : List Message → Header → ℕ → List ℕ → Parse Cause (List Call)
long_body_at messages header last bytes = do
  len ← low_first 4 causes.Cut bytes
  short ← provided (nat_le 1 len.0 && nat_le len.0 (most_body header.version)) causes.BadLength len
  sized_body_at messages header.clock.tick last short.0 short.1

-- the records of a writer
abbrev pub writer_records_at : Header → List Block → ℕ → List ℕ → Parse Cause (List Call)
writer_records_at header before writer bytes =
    long_body_at (messages_of before) header
    (last_stamp header.clock.tick (records_of writer before)) bytes

abbrev pub extent_at : Header → List Block → List ℕ → Parse Cause Block
extent_at header before bytes = do
  writer ← open_writer_at header before bytes
  records ← writer_records_at header before writer.0 writer.1
  Ok (Extent writer.0 records.0, records.1)

abbrev pub close_at : Header → List Block → List ℕ → Parse Cause Block
close_at header before bytes = open_writer_at header before bytes >>= (λ writer. Ok (Close writer.0, writer.1))

-- ---- clocks

-- no record has reached the tick
abbrev pub are_early : ℕ → List Call → Bool
are_early tick records = list_all (λ call. nat_lt call.stamp tick) records

-- a tick above that of the clock before, and above the stamps before
abbrev pub next_tick_at : Header → List Block → List ℕ → Parse Cause ℕ
next_tick_at header before bytes = do
  tick ← low_first 8 causes.Cut bytes
  rising ← provided (nat_lt (last_tick (clocks_of header before)) tick.0) causes.ClockOrder tick
  provided (are_early rising.0 (all_records before)) causes.ClockLate rising

-- the rest of a clock of this tick: its nanoseconds and its rate
abbrev pub clock_rate_at : ℕ → ℕ → List ℕ → Parse Cause Clock
clock_rate_at tick nanos bytes = do
  rate ← low_first 8 causes.Cut bytes
  ticking ← provided (nat_le 1 rate.0) causes.BadRate rate
  Ok (record { tick = tick; nanos = nanos; rate = ticking.0 }, ticking.1)

abbrev pub clock_nanos_at : ℕ → List ℕ → Parse Cause Clock
clock_nanos_at tick bytes = low_first 8 causes.Cut bytes >>= (λ nanos. clock_rate_at tick nanos.0 nanos.1)

-- a clock, where there is room for one more
abbrev pub next_clock_at : Header → List Block → List ℕ → Parse Cause Clock
next_clock_at header before bytes =
    if nat_lt (length (clocks_of header before)) MAX_CLOCKS
    then (next_tick_at header before bytes >>= (λ tick. clock_nanos_at tick.0 tick.1))
    else Err causes.ClockCount

abbrev pub new_clock_at : Header → List Block → List ℕ → Parse Cause Block
new_clock_at header before bytes = next_clock_at header before bytes >>= (λ clock. Ok (NewClock clock.0, clock.1))

-- ---- blocks

-- what stands behind a tag
abbrev pub tagged_at : Header → List Block → ℕ → List ℕ → Parse Cause Block
tagged_at header before tag bytes =
    if nat_eq tag 1 then fragment_at (messages_of before) bytes
    else if nat_eq tag 2 then extent_at header before bytes
    else if nat_eq tag 3 && has_clocks header.version then new_clock_at header before bytes
    else if nat_eq tag 4 then close_at header before bytes
    else Err causes.BadBlock

-- the block behind these blocks
abbrev pub block_at : Header → List Block → List ℕ → Parse Cause Block
block_at header before bytes = first_byte causes.Cut bytes >>= (λ tag. tagged_at header before tag.0 tag.1)
