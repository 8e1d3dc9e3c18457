use Rattle.std.proofs.Common.{leb, rules}
use Rattle.std.proofs.lemmas.Bool.{leb-true, leb-false}
use Rattle.std.proofs.lemmas.List.Sorted.{IsPartitionPoint-from_clause}
use Rattle.log_dictionary.specs.declared.clock.Clock.{Clock}
use Rattle.log_dictionary.proofs.lemmas.ClockLists.{ticks_part}
use Rattle.log_dictionary.proofs.clocks.counted.Goals as goal

pub returns-clause-value : goal.returns-clause-value
returns-clause-value c =
    let point = IsPartitionPoint-from_clause (λ (clock : Clock). leb clock.tick c.args.stamp) _ _ c.partition_point.ensures.partitioned (ticks_part _ c.args.stamp c.requires) (λ a r q k. search rules) in
    (λ k d from below. leb-true _ _ (point.0 k d from below), λ k d from below. leb-false _ _ (point.1 k d from below))
