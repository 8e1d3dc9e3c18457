use Rattle.std.proofs.Common.{map, ap}
use Rattle.stamp_merge.proofs.Later.{all_taken}
use Rattle.stamp_merge.proofs.laws.mergers_take_in_merge_order.Goals as goal

pub returns : goal.returns
returns c =
    record {
      stamps = λ lists past calls spent. all_taken lists past calls spent;
      lists = λ lists past calls spent. ap (map (λ key. key.list)) (all_taken lists past calls spent);
    }
