use Rattle.std.proofs.Common.{◌-◌, length}
use Rattle.direct_printf.specs.Lines.{AreFirstOrigins}
use Rattle.direct_printf.proofs.origins.Origins.extend.Given as goal

abbrev pub invariant-loop-message : goal.invariant-loop-message
invariant-loop-message l = AreFirstOrigins l.self-inside.texts.items l.messages

abbrev pub decreases-loop-message : goal.decreases-loop-message
decreases-loop-message l = length l.messages - length l.self-inside.texts.items
