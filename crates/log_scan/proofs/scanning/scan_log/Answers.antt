use Rattle.std.proofs.Common.{Err, ap}
use Rattle.log_scan.proofs.BlockScans.{begun_folds, without_header}
use Rattle.log_scan.proofs.scanning.scan_log.Goals as goal

pub returns-in-Err-clause-scanned : goal.returns-in-Err-clause-scanned
returns-in-Err-clause-scanned g c =
    without_header g.F.BlockFold.has (g.S.Source.left c.args.source.now) _ c.args.fold.now c.in-Err.fault c.no_header.result c.requires c.no_header.ensures.ok (λ cause is. c.in-Err.ensures.damaged cause (ap Err is)) (λ is. c.in-Err.ensures.cut (ap Err is))

pub scan_rest-requires-clause-begun : goal.scan_rest-requires-clause-begun
scan_rest-requires-clause-begun g c =
    let started = c.in-Ok.ensures.ok in
    (started.0, started.1, begun_folds g.F.BlockFold.has c.begin.new.self c.in-Ok.reader started.0 c.header.result.now started.1 started.2 c.header.ensures c.in_ok-begin.ensures.begun)
