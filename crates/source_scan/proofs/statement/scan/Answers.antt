use Rattle.std.proofs.Common.{◌≤◌, ◌+◌, length, arith}
use Rattle.source_scan.specs.declared.statement.TheConstants.{MAX_SOURCE}
use Rattle.source_scan.specs.declared.line_change.TheConstants.{MAX_LINE}
use Rattle.source_scan.specs.Positions.{in_force_at, line_number_at}
use Rattle.source_scan.proofs.LineBounds.{line-bound}
use Rattle.source_scan.proofs.Rises.{significant-rise}
use Rattle.source_scan.proofs.statement.scan.Goals as goal

pub find_statements-requires-clause-rise : goal.find_statements-requires-clause-rise
find_statements-requires-clause-rise c = significant-rise c.args.source.now c.in_ok-parts.parts c.as_slice-3.result.now MAX_SOURCE c.in_ok-parts.ensures (cc (c.as_slice-3.ensures, c.in_ok-tokens.ensures, c.as_slice-2.ensures)) c.requires

pub find_statements-requires-clause-lines : goal.find_statements-requires-clause-lines
find_statements-requires-clause-lines c = λ place.
    let source = c.args.source.now in
    let bound : line_number_at source (in_force_at c.args.file.now c.deref.result.now place) place ≤ MAX_LINE + length source =
    line-bound c.args.file.now source c.as_slice.result.now c.deref.result.now (rw c.deref.ensures.value c.in_ok-changes.ensures) place
    in
    omega (arith, bound, c.requires)
