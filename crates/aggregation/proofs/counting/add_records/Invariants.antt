use Rattle.std.proofs.Common.{length}
use Rattle.aggregation.proofs.Records.{AreCounted}
use Rattle.aggregation.proofs.counting.add_records.Given as goal

-- the numbers of the records that were unpacked came behind those before
abbrev pub invariant-loop-head : goal.invariant-loop-head
invariant-loop-head l = AreCounted l.dictionary l.base l.body l.id l.nth l.initial.totals l.before l.rest l.totals

-- each record takes a byte
abbrev pub decreases-loop-head : goal.decreases-loop-head
decreases-loop-head l = length l.rest
