use Rattle.std.proofs.Common.{◌≡◌, ◌++◌, length, map}
use Rattle.std.specs.Prelude.{All}
use Rattle.log_ends.specs.declared.part_end.PartEnd.{PartEnd}
use Rattle.log_ends.specs.PartEnds.{IsFirstPart}
use Rattle.log_ends.proofs.opening.part_ends.Given as goal

abbrev pub invariant-loop-out : goal.invariant-loop-out
invariant-loop-out l = record {
  goes_on : (goal.iterator-loop-out).can_next l.out-iterator;
  ends : (goal.iterator-loop-out).is_finite l.out-iterator;
  joined : map (λ (end : PartEnd). end.out) l.ends.items ++ l.out-iterator.rest.items ≡ l.fn.outs.items;
  first : All IsFirstPart l.ends.items;
  long : length l.out-iterator.rest.items ≡ l.out-iterator.rest.len;
}
