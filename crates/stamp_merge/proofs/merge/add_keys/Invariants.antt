use Rattle.std.proofs.Common.{◌≡◌, ◌++◌, take}
use Rattle.stamp_merge.specs.Merging.{list_keys}
use Rattle.stamp_merge.proofs.merge.add_keys.Given as goal

-- the stamps so far are appended
abbrev pub invariant-loop-stamp : goal.invariant-loop-stamp
invariant-loop-stamp l = l.keys.items ≡ l.initial.keys.items ++ list_keys (l.list, take l.stamp-index l.stamps)
