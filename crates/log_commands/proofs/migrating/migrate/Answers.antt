use Rattle.std.proofs.Common.{sym, subst}
use Rattle.command_base.specs.Effects.{CommandEffect}
use Rattle.command_base.proofs.lemmas.EffectLaws.{ended_as, nothing_came}
use Rattle.command_base.specs.Endings.{Ending}
use Rattle.command_base.specs.Scenes.{Scene, scene}
use Rattle.log_commands.specs.Migrating.{migrate_task}
use Rattle.log_commands.proofs.lemmas.Soundness.{migrate_sound}
use Rattle.log_commands.proofs.Migrated.{log_written, log_lost}
use Rattle.log_commands.proofs.migrating.migrate.Goals as goal

pub returns-in_err-bytes-clause-ends : goal.returns-in_err-bytes-clause-ends
returns-in_err-bytes-clause-ends g c =
    let task = migrate_task c.args.log.now c.args.output.now in
    let old : Scene = scene (g.F.Files.desk c.args.files.now) (g.O.Sink.put c.args.out.now) (g.O.Sink.faults c.args.out.now) in
    let desk = g.F.Files.desk c.read_migrated.new.files in
    subst (λ (ending : Ending). CommandEffect task old (scene desk old.put old.faults) ending)
    (sym (ended_as _ c.in_err-bytes.field-0.0 c.from_residual.ensures.1))
    (nothing_came task old desk _ (migrate_sound c.args.log.now c.args.output.now) c.in_err-bytes.ensures.unmade)

pub returns-in-Ok-clause-ends : goal.returns-in-Ok-clause-ends
returns-in-Ok-clause-ends g c =
    let old : Scene = scene (g.F.Files.desk c.args.files.now) (g.O.Sink.put c.args.out.now) (g.O.Sink.faults c.args.out.now) in
    log_written c.args.log.now c.args.output.now old (g.F.Files.desk c.read_migrated.new.files) (g.F.Files.desk c.save.new.files) _ c.in_ok-bytes.count c.in_ok-bytes.ensures.made
    _ _ _ (rw c.deref.ensures.value at c.in-Ok.ensures.ok) c.save.ensures.only c.in-Ok.ensures.counted c.print_migrated.ensures.printed c.print_migrated.ensures.memory

pub returns-clause-ends : goal.returns-clause-ends
returns-clause-ends g c =
    let old : Scene = scene (g.F.Files.desk c.args.files.now) (g.O.Sink.put c.args.out.now) (g.O.Sink.faults c.args.out.now) in
    log_lost c.args.log.now c.args.output.now old (g.F.Files.desk c.read_migrated.new.files) (g.F.Files.desk c.save.new.files) _ c.in_ok-bytes.count c.in_ok-bytes.ensures.made
    (rw c.deref.ensures.value at c.in-Err.ensures.front) c.save.ensures.only c.in-Err.ensures.cause
