use Rattle.std.proofs.Common.{refl}
use Rattle.ring_machine.specs.Streams.{onward}
use Rattle.ring_machine.proofs.laws.worked_bars.Goals as goal

pub returns-clause-part : goal.returns-clause-part
unfolding onward
returns-clause-part c = refl
