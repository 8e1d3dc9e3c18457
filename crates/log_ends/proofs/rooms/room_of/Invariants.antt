use Rattle.std.proofs.Common.{◌≡◌, ◌+◌, ◌*◌, ◌≤◌, take}
use Rattle.checkpoint_io.specs.declared.version.TheConstants.{MAX_HEADER_LEN}
use Rattle.log_ends.specs.Rooms.{visit_len}
use Rattle.log_ends.proofs.rooms.room_of.Given as goal

abbrev pub invariant-loop-id : goal.invariant-loop-id
invariant-loop-id l = record {
  summed : l.room ≡ visit_len (take l.id l.dictionary) + MAX_HEADER_LEN;
  bounded : l.room ≤ 1055014 + l.id * 4366;
}
