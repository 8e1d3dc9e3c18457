use Rattle.log_dictionary.proofs.BinaryNumbers.{two_read}
use Rattle.log_dictionary.proofs.binary_entry.read_u16.Goals as goal

pub returns-in-len2-up : goal.returns-in-len2-up
returns-in-len2-up c = two_read c.args.bytes.now c.from_le_bytes.result c.in-len2-up.len_at_least c.from_le_bytes.ensures
