use Rattle.std.proofs.Common.{refl, sym, subst}
use Rattle.command_base.specs.Endings.{Ending}
use Rattle.command_base.specs.Effects.{CommandEffect}
use Rattle.command_base.proofs.lemmas.EffectLaws.{ended_as, not_done, cut_off}
use Rattle.command_base.specs.Readings.{never}
use Rattle.command_base.specs.Scenes.{Scene, scene}
use Rattle.command_base.specs.Tasks.{WhileReading, text_alone}
use Rattle.log_commands.specs.Logs.{HasNumber}
use Rattle.log_commands.specs.Aggregating.{totals_text, GivesTotals, aggregate_task}
use Rattle.log_commands.proofs.Told.{text_told}
use Rattle.log_commands.proofs.lemmas.Soundness.{aggregate_sound}
use Rattle.log_commands.proofs.aggregating.aggregate.Goals as goal

pub returns-in_err-print_line-clause-ends : goal.returns-in_err-print_line-clause-ends
returns-in_err-print_line-clause-ends g c =
    let task = aggregate_task c.args.log.now c.args.id c.args.nth in
    let old : Scene = scene (g.F.Files.desk c.args.files.now) (g.O.Sink.put c.args.out.now) (g.O.Sink.faults c.args.out.now) in
    let desk = g.F.Files.desk c.read_totals-totals.new.files in
    let failed = c.in_err-print_line in
    subst (λ (ending : Ending). CommandEffect task old (scene desk (g.O.Sink.put c.print_line.new.out) (g.O.Sink.faults c.print_line.new.out)) ending)
    (sym (ended_as _ failed.field-0.0 c.from_residual.ensures.1))
    (cut_off task old desk (text_alone (totals_text c.read_totals-totals.result.0)) _ _ _ _
    (record { read = desk; reading = c.read_totals-totals.ensures.reads; made = refl })
    failed.ensures.printed (not_done failed.field-0.0) failed.ensures.memory)

pub returns-clause-ends : goal.returns-clause-ends
returns-clause-ends g c =
    let old : Scene = scene (g.F.Files.desk c.args.files.now) (g.O.Sink.put c.args.out.now) (g.O.Sink.faults c.args.out.now) in
    let desk = g.F.Files.desk c.read_totals-totals.new.files in
    let printed = c.in_ok-print_line.ensures.printed in
    text_told c.args.log.now WhileReading (GivesTotals c.args.log.now c.args.id c.args.nth) never (HasNumber c.args.id c.args.nth) old desk
    (totals_text c.read_totals-totals.result.0) _ _ _ (λ name is begun. begun) (aggregate_sound c.args.log.now c.args.id c.args.nth) c.read_totals-totals.ensures.reads printed.0 printed.1
