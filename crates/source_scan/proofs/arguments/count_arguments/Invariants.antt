use Rattle.std.proofs.Common.{◌≡◌, ◌+◌, ◌≤◌, length, drop}
use Rattle.source_scan.specs.Arguments.{parted_from}
use Rattle.source_scan.proofs.arguments.count_arguments.Given as goal

abbrev pub invariant-loop-token : goal.invariant-loop-token
invariant-loop-token l = record {
  depth_is : l.depth ≤ l.token-index;
  count_is : l.count ≤ l.token-index + 1;
  goes : l.count + length (parted_from l.depth (drop l.token-index l.tokens)) ≡ length (parted_from 0 l.tokens) + 1;
}
