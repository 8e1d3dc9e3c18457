use Rattle.std.proofs.Common.{◌≡◌, ℕ, Option, sym, subst}
use Rattle.nl_io.specs.Count.{Rose}
use Rattle.nl_io.proofs.lemmas.DeskLaws.{Opens-reading, Opens-content}
use Rattle.aggregation.specs.declared.totals.Totals.{Totals}
use Rattle.command_base.specs.Endings.{Ending, ending_of}
use Rattle.command_base.proofs.lemmas.EffectLaws.{no_bytes}
use Rattle.command_base.proofs.lemmas.HeldLaws.{was_read, counts_by}
use Rattle.command_base.specs.Readings.{never}
use Rattle.command_base.specs.Tasks.{text_alone}
use Rattle.log_commands.specs.Aggregating.{totals_text, totals_told, GivesTotals, aggregate_task}
use Rattle.log_commands.proofs.Totals.{reads_totals}
use Rattle.log_commands.proofs.aggregating.read_totals.Goals as goal

pub aggregate_open-answer-requires : goal.aggregate_open-answer-requires
aggregate_open-answer-requires g c = Opens-reading _ _ _ _ c.in-Ok.ensures.opened

pub returns-in-Err-clause-reads : goal.returns-in-Err-clause-reads
returns-in-Err-clause-reads g c = no_bytes c.args.log.now (GivesTotals c.args.log.now c.args.id c.args.nth) never _ _ _ c.in-Err.ensures.unread

pub returns-clause-reads : goal.returns-clause-reads
returns-clause-reads g c =
    let opens = c.in-Ok.ensures.opened in
    let leaves = c.leave.ensures.left in
    let said = c.aggregate_open-answer.ensures in
    let answer = c.aggregate_open-answer.result in
    let old = g.F.Files.desk c.args.files.now in
    let new = g.F.Files.desk c.leave.new.self in
    let reads = (aggregate_task c.args.log.now c.args.id c.args.nth).reads old new in
    subst (λ (totals : Option Totals). reads (text_alone (totals_text totals)) (ending_of c.ending_of_log.result)) (sym c.totals_of.ensures)
    (subst (λ (ending : Ending). reads (text_alone (totals_text (totals_told answer))) ending) (sym c.ending_of_log.ensures)
    (reads_totals c.args.log.now c.args.id c.args.nth old new opens.content
    (was_read _ _ _ _ _ _ opens said.same said.count leaves)
    _
    answer
    (said.answer opens.content (Opens-content _ _ _ _ opens))
    (λ is. counts_by Rose _ _ _ _ _ _ opens leaves (said.read_fault is))
    (λ other. counts_by (λ (m n : ℕ). n ≡ m) _ _ _ _ _ _ opens leaves (said.counted other))))
