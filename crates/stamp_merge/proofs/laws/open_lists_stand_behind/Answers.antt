use Rattle.std.proofs.Common.{◌≡◌, false}
use Rattle.std.proofs.lemmas.List.Elements.{All-from_recursion}
use Rattle.stamp_merge.specs.Merging.{stamp_before}
use Rattle.stamp_merge.specs.Mergers.{pushed_to, last_or}
use Rattle.stamp_merge.proofs.lemmas.MergeKeys.{key_at}
use Rattle.stamp_merge.proofs.Later.{open_behind}
use Rattle.stamp_merge.proofs.laws.open_lists_stand_behind.Goals as goal

pub returns : goal.returns
returns c lists past n calls is_open some =
    let behind = open_behind lists past n calls is_open some in
    (behind.0, All-from_recursion (λ key. stamp_before (key_at (last_or 0 (pushed_to past n)) n) key ≡ false) past.taken behind.1)
