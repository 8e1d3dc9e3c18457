-- Files that are logs.
use Rattle.std.specs.Prelude.{◌≡◌, ℕ, ◌≤◌, true, List, length, None, unwrap_or}
use Rattle.std.specs.FinMap as map
use Rattle.nl_io.specs.Content.{Told}
use Rattle.nl_io.specs.Desk.{Desk}
use Rattle.checkpoint_io.specs.declared.cause.Cause.{Cause}
use Rattle.checkpoint_io.specs.declared.heads.TheConstants.{MAX_LOG}
use Rattle.checkpoint_io.specs.declared.header.Header.{Header}
use Rattle.checkpoint_io.specs.Blocks.{Block, messages_of, FileOf}
use Rattle.checkpoint_io.specs.Causes.{cause_number, cause_name}
use Rattle.checkpoint_io.specs.Validity.{Valid}
use Rattle.aggregation.specs.Totals.{has_number}
use Rattle.command_base.specs.Endings.{ToldCause}

-- a cause as it is told
abbrev pub log_cause : Cause → ToldCause
log_cause cause = record { number = cause_number cause; name = cause_name cause }

-- the bytes are a log from the first to the last, and no more than are read
pub record IsLog (bytes : List ℕ) : Type 0 where
  pub header : Header
  pub blocks : List Block
  pub file : FileOf header blocks bytes
  pub valid : Valid header blocks
  pub within : length bytes ≤ MAX_LOG

-- they are so, and their message with this id has a number as its argument there
pub record HasNumber (id nth : ℕ) (bytes : List ℕ) : Type 0 where
  pub log : IsLog bytes
  pub has : has_number (messages_of log.blocks) id nth ≡ true

-- what a file that is being read has left
abbrev pub left_by : Desk → ℕ → Told
left_by desk id = unwrap_or (map.get desk.left id) None
