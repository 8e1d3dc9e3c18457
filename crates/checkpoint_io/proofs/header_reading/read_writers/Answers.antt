use Rattle.std.proofs.Common.{arith}
use Rattle.checkpoint_io.proofs.HeaderLaws.{writers_answer}
use Rattle.checkpoint_io.proofs.header_reading.read_writers.Goals as goal

pub returns-clause-read : goal.returns-clause-read
returns-clause-read g c =
    writers_answer c.read_clock.result c.args.version c.writer_len.result c.in_ok-writers.writers _ _ _ _ c.writer_len.ensures (omega arith) (omega arith) c.in_ok-writers.ensures.read c.read_clock.ensures.read
