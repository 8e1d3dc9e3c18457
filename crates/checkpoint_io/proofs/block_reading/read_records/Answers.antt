use Rattle.std.proofs.Common.{arith}
use Rattle.checkpoint_io.proofs.NextLaws.{long_body_kept}
use Rattle.checkpoint_io.proofs.block_reading.read_records.Goals as goal

pub returns-clause-read : goal.returns-clause-read
returns-clause-read g c =
    long_body_kept c.take_body.result c.args.dictionary.now c.args.header.now c.args.last c.in_ok-len.len c.take_body.new.body.items _ _ _ _ (omega arith) (omega arith) c.in_ok-len.ensures.read c.take_body.ensures.read
