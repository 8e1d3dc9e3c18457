use Rattle.std.proofs.Common.{◌≡◌, ◌≤◌, take, drop}
use Rattle.source_scan.specs.Arguments.{parted_from}
use Rattle.source_scan.proofs.Commas.{onto_front}
use Rattle.source_scan.proofs.arguments.split_argument.Given as goal

abbrev pub invariant-loop-place : goal.invariant-loop-place
invariant-loop-place l = (l.depth ≤ l.place) × (parted_from 0 l.tokens ≡ onto_front (take l.place l.tokens) (parted_from l.depth (drop l.place l.tokens)))
