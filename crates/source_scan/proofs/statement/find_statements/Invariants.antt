use Rattle.std.proofs.Common.{length}
use Rattle.source_scan.specs.Cursors.{CursorFollows}
use Rattle.source_scan.specs.Rising.{RiseFrom}
use Rattle.source_scan.specs.declared.statement.TheConstants.{MAX_SOURCE}
use Rattle.source_scan.specs.Statements.{source_text}
use Rattle.source_scan.proofs.FoundLists.{FindsTo}
use Rattle.source_scan.proofs.statement.find_statements.Given as goal

abbrev pub invariant-loop-rest : goal.invariant-loop-rest
invariant-loop-rest l = record {
  finds : FindsTo (source_text l.source) l.tokens l.found.items l.rest;
  follows : CursorFollows l.source.file.now l.source.bytes.now l.source.changes.now l.cursor;
  rise : RiseFrom l.cursor.position.from l.rest MAX_SOURCE;
}

abbrev pub decreases-loop-rest : goal.decreases-loop-rest
decreases-loop-rest l = length l.rest
