use Rattle.std.proofs.Common.{refl}
use Rattle.std.specs.Fmt.{digits}
use Rattle.stamp_merge.specs.Ordering.{insert_by, in_order_by}
use Rattle.trace_generator.proofs.GeneratedCalls.{same_traces}
use Rattle.trace_generator.proofs.laws.traces_are_generated.Goals as goal

pub returns : goal.returns
unfolding digits insert_by in_order_by
returns c = record { states = refl; two_calls = refl; turns = refl; no_calls = refl; large_seeds = same_traces }
