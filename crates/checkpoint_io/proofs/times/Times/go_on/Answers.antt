use Rattle.std.proofs.Common.{ap, arith}
use Rattle.checkpoint_io.specs.Times.{TimeState}
use Rattle.checkpoint_io.proofs.times.Times.go_on.Goals as goal

pub returns-clause-greatest : goal.returns-clause-greatest
returns-clause-greatest c = omega (arith, c.max-self-inside.ensures, ap (λ (t : TimeState). t.greatest) c.self.view_is)
