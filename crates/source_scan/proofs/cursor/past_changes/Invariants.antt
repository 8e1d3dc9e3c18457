use Rattle.std.proofs.Common.{◌≡◌, ◌≤◌, ℕ, length}
use Rattle.source_scan.specs.Positions.{in_force_of, changed_to}
use Rattle.source_scan.proofs.cursor.past_changes.Given as goal

abbrev pub invariant-loop-changes : goal.invariant-loop-changes
invariant-loop-changes l = record {
  from : l.position.from ≤ l.place;
  same : (k : ℕ) → l.place ≤ k → changed_to k (in_force_of l.cursor.position) l.cursor.changes.now ≡ changed_to k (in_force_of l.position) l.changes;
}

abbrev pub decreases-loop-changes : goal.decreases-loop-changes
decreases-loop-changes l = length l.changes
