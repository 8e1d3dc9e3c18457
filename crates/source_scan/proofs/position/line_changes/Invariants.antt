use Rattle.std.proofs.Common.{◌++◌, List, drop}
use Rattle.source_scan.specs.declared.position.PlacedChange.{PlacedChange}
use Rattle.source_scan.specs.Positions.{Changes}
use Rattle.source_scan.proofs.position.line_changes.Given as goal

abbrev pub invariant-loop-part : goal.invariant-loop-part
invariant-loop-part l = (more : List PlacedChange) → Changes l.source (drop l.part-index l.parts) more → Changes l.source l.parts (l.changes.items ++ more)
