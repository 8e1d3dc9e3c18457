-- How much room the bytes of a log take.
use Rattle.std.specs.Prelude.{ℕ, ◌+◌, ◌*◌, List, length, sum_by}
use Rattle.log_dictionary.specs.declared.message.Message.{Message}
use Rattle.log_dictionary.specs.BinaryEntries.{entry_bytes}
use Rattle.log_dictionary.specs.declared.clocks.TheConstants.{MAX_CLOCKS}
use Rattle.checkpoint_io.specs.declared.heads.TheConstants.{FRAGMENT_HEAD_LEN, CLOCK_LEN}
use Rattle.checkpoint_io.specs.declared.version.TheConstants.{MAX_EXTENT_HEAD_LEN, MAX_READ_BODY}

-- the bytes of the messages' entries, each in a fragment of its own
unfoldable pub definitions_len : List Message → ℕ
definitions_len messages = sum_by (λ message. FRAGMENT_HEAD_LEN + length (entry_bytes message)) messages

-- the most bytes that one visit gives: all clocks, the fragments of all messages, and an extent
abbrev pub visit_len : List Message → ℕ
visit_len messages = MAX_CLOCKS * CLOCK_LEN + definitions_len messages + MAX_EXTENT_HEAD_LEN + MAX_READ_BODY
