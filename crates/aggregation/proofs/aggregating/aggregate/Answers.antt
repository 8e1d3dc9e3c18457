use Rattle.std.proofs.Common.{◌≡◌, sym, subst, ◌∙◌}
use Rattle.log_scan.specs.Parts.{blocks_read}
use Rattle.aggregation.specs.Aggregating.{answer_at, AnswersTotals}
use Rattle.aggregation.proofs.Outcomes.{answers_scan}
use Rattle.aggregation.proofs.aggregating.aggregate.Goals as goal

pub returns-clause-answer : goal.returns-clause-answer
returns-clause-answer g c =
    let s = c.in_ok-scan.ensures.scanned in
    let left = g.S.Source.left c.args.source.now in
    let behind = g.S.Source.left c.scan_log.new.source in
    let end = c.in_ok-scan.scan.end in
    let id : c.scan_log.new.fold.id ≡ c.args.id = c.scan_log.ensures.fold_others.0 ∙ c.none-tally.ensures.id in
    let nth : c.scan_log.new.fold.nth ≡ c.args.nth = c.scan_log.ensures.fold_others.1 ∙ c.none-tally.ensures.nth in
    let answer : c.answer_of.result ≡ answer_at (blocks_read s.part) c.args.id c.args.nth end = c.answer_of.ensures s.part s.read s.folded ∙ (λ i. answer_at (blocks_read s.part) (id i) (nth i) end) in
    subst (AnswersTotals left behind c.args.id c.args.nth) (sym answer) (answers_scan left behind s.part c.args.id c.args.nth end s.ends)
