use Rattle.std.proofs.Common.{length, ap, arith}
use Rattle.log_dictionary.specs.BinaryEntries.{raw_of}
use Rattle.log_dictionary.proofs.lemmas.BinaryLaws.{raw_length}
use Rattle.log_dictionary.proofs.binary_entry.entry_len.Goals as goal

pub returns-clause-len : goal.returns-clause-len
returns-clause-len c = omega (arith, raw_length (raw_of c.args.message.now), ap length c.as_slice.ensures, ap length c.bytes.ensures.bytes)
