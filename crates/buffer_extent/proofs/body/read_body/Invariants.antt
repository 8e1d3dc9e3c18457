use Rattle.std.proofs.Common.{length}
use Rattle.buffer_extent.proofs.Bodies.{AreReadSoFar}
use Rattle.buffer_extent.proofs.body.read_body.Given as goal

abbrev pub invariant-loop-room : goal.invariant-loop-room
invariant-loop-room l = AreReadSoFar l.dictionary l.base l.last l.body l.records l.before l.least l.rest

abbrev pub decreases-loop-room : goal.decreases-loop-room
decreases-loop-room l = length l.rest
