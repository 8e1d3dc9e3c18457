use Rattle.std.proofs.Common.{arith}
use Rattle.checkpoint_io.proofs.TimeLaws.{tick_stands, tick_late}
use Rattle.checkpoint_io.proofs.clock_reading.take_tick.Goals as goal

pub returns-clause-read : goal.returns-clause-read
returns-clause-read g c header before are =
    tick_stands c.args.times.now header before c.in_ok-tick.tick _ _ are (omega arith) (omega arith) c.in_ok-tick.ensures.read

pub returns-then-tick-greatest-clause-read : goal.returns-then-tick-greatest-clause-read
returns-then-tick-greatest-clause-read g c header before are =
    tick_late c.args.times.now header before c.in_ok-tick.tick _ _ (g.S.Source.left c.take_number.new.source) are (omega arith) (omega arith) c.in_ok-tick.ensures.read
