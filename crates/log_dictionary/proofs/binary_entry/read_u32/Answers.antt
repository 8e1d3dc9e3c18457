use Rattle.log_dictionary.proofs.BinaryNumbers.{four_read}
use Rattle.log_dictionary.proofs.binary_entry.read_u32.Goals as goal

pub returns-in-len4-up : goal.returns-in-len4-up
returns-in-len4-up c = four_read c.args.bytes.now c.from_le_bytes.result c.in-len4-up.len_at_least c.from_le_bytes.ensures
