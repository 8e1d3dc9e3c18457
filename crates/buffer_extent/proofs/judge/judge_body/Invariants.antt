use Rattle.std.proofs.Common.{List, length}
use Rattle.arg_records.specs.declared.call.Call.{Call}
use Rattle.buffer_extent.proofs.Bodies.{AreReadSoFar}
use Rattle.buffer_extent.proofs.judge.judge_body.Given as goal

abbrev pub invariant-loop-rest : goal.invariant-loop-rest
invariant-loop-rest l = (records : List Call) × AreReadSoFar l.dictionary l.base l.last l.body records l.before l.least l.rest

abbrev pub decreases-loop-rest : goal.decreases-loop-rest
decreases-loop-rest l = length l.rest
