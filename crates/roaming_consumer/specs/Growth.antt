-- The log of a run while it grows: what is kept of it, and what is put behind it.
use Rattle.std.specs.Prelude.{◌≡◌, ℕ, ◌+◌, ◌<◌, ◌≤◌, nat_le, Bool, true, false, List, [], ◌++◌, length, get_or, slice_get, slice_set, Some, max, drop, filter}
use Rattle.std.specs.List.{AllByRecursion, flat_map, list_any}
use Rattle.log_dictionary.specs.declared.clock.Clock.{Clock}
use Rattle.log_dictionary.specs.declared.message.Message.{Message}
use Rattle.arg_records.specs.declared.call.Call.{Call}
use Rattle.arg_records.specs.Calls.{IsCall, NeverFalls}
use Rattle.checkpoint_io.specs.declared.header.Header.{Header}
use Rattle.checkpoint_io.specs.Blocks.{Block, messages_of, clocks_of, all_records, clock_bytes, SpellsBlocks, SpellsExtent}
use Rattle.checkpoint_io.specs.Validity.{closes}
use Rattle.checkpoint_io.specs.Logs.{ids_used, new_messages, greatest_stamp, new_clocks, AreFragments, LogOf}

-- what is kept of a log, so that it can grow
pub record LogProgress : Type 0 where
  -- how many messages it defines
  pub defined : ℕ
  -- by the number of a writer, whether its close mark was written
  pub closed : List Bool
  -- how many clocks it has, with that of its header
  pub written : ℕ
  -- the greatest stamp of a record; 0 where there is none
  pub latest : ℕ

-- The bytes are the log of the calls that were taken, and this is kept of it. No record has reached a clock that isn't
-- written.
pub record IsLogSoFar (wrote : List ℕ) (taken : List (List Call)) (dictionary : List Message) (version : ℕ)
    (clocks : List Clock) (batch : ℕ) (progress : LogProgress) : Type 0 where
  pub log : LogOf wrote taken dictionary version clocks batch
  pub defined : progress.defined ≡ length (messages_of log.blocks)
  pub closed : (writer : ℕ) → writer < length taken
      → get_or progress.closed writer false ≡ list_any (closes writer) log.blocks
  pub written : progress.written ≡ length (clocks_of log.header log.blocks)
  pub latest : progress.latest ≡ greatest_stamp (all_records log.blocks)
  pub unreached : AllByRecursion (λ clock. progress.latest < clock.tick) log.unwritten

-- the calls that were taken of each writer, with these behind those of one writer
abbrev pub with_calls : List (List Call) → ℕ → List Call → List (List Call)
with_calls taken writer records = slice_set taken writer (get_or taken writer [] ++ records)

-- The bytes are fragments that define these messages, with ids that count from the first. All but the last have 16
-- messages.
pub record FragmentsFor (first : ℕ) (messages : List Message) (bytes : List ℕ) : Type 0 where
  pub blocks : List Block
  pub are : AreFragments first messages blocks
  pub spelled : (header : Header) (before : List Block) → SpellsBlocks header before blocks bytes

-- of the clocks behind the first ones, so many of which were written, those that a stamp has reached
abbrev pub due_clocks : List Clock → ℕ → ℕ → List Clock
due_clocks clocks written stamp = filter (λ clock. nat_le clock.tick stamp) (drop written clocks)

-- the clocks, one behind the other
abbrev pub clocks_bytes : List Clock → List ℕ
clocks_bytes clocks = flat_map clock_bytes clocks

-- The bytes are these clocks, and fragments that define these messages behind them.
pub record PrefaceFor (clocks : List Clock) (first : ℕ) (messages : List Message) (bytes : List ℕ) : Type 0 where
  pub fragments : List ℕ
  pub defining : FragmentsFor first messages fragments
  pub joined : bytes ≡ clocks_bytes clocks ++ fragments

-- Behind the log of these calls so many records of an open writer may be put: they name messages and fit them, and its
-- stamps go on without falling. In front of their extent stands the preface that it wants: the clocks that its records
-- have reached and that aren't written, and the fragments of the messages that aren't defined.
pub record IsNext (taken : List (List Call)) (dictionary : List Message) (header : Header) (clocks : List Clock)
    (batch : ℕ) (progress : LogProgress) (writer : ℕ) (records : List Call) (preface extent : List ℕ) : Type 0 where
  pub first : slice_get clocks 0 ≡ Some header.clock
  pub known : writer < length taken
  pub not_closed : get_or progress.closed writer false ≡ false
  pub few : length records ≤ batch
  pub right : AllByRecursion (IsCall dictionary) records
  pub rising : NeverFalls header.clock.tick (get_or taken writer [] ++ records)
  pub preface_spelled : PrefaceFor (new_clocks clocks progress.written records) progress.defined
      (new_messages dictionary progress.defined records) preface
  pub extent_spelled : SpellsExtent dictionary header writer records extent

-- what is kept behind an extent of these records, and the preface that it wants
abbrev pub progress_behind : LogProgress → List Clock → List Call → LogProgress
progress_behind progress clocks records = record progress {
  defined = max progress.defined (ids_used records);
  written = progress.written + length (new_clocks clocks progress.written records);
  latest = max progress.latest (greatest_stamp records);
}

-- what is kept behind the close mark of a writer
abbrev pub progress_closing : LogProgress → ℕ → LogProgress
progress_closing progress writer = record progress { closed = slice_set progress.closed writer true }
