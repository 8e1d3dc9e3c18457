use Rattle.std.proofs.Common.{ap, sym, subst, ◌∙◌}
use Rattle.nl_io.specs.Desk.{Desk}
use Rattle.command_base.specs.Effects.{CommandEffect}
use Rattle.command_base.proofs.lemmas.EffectLaws.{ended_as}
use Rattle.command_base.specs.Endings.{Ending}
use Rattle.command_base.specs.Scenes.{Scene, scene}
use Rattle.dictionary_commands.specs.Heading.{header_task}
use Rattle.dictionary_commands.proofs.Headings.{no_header, header_written, header_lost}
use Rattle.dictionary_commands.proofs.heading.header.Goals as goal

pub returns-in_err-messages-clause-ends : goal.returns-in_err-messages-clause-ends
returns-in_err-messages-clause-ends g c =
    let old : Scene = scene (g.F.Files.desk c.args.files.now) (g.O.Sink.put c.args.out.now) (g.O.Sink.faults c.args.out.now) in
    let desk = g.F.Files.desk c.dictionary_of_file.new.files in
    subst (λ (ending : Ending). CommandEffect (header_task c.args.dictionary.now c.args.output.now) old (scene desk old.put old.faults) ending)
    (sym (ended_as _ c.in_err-messages.field-0.0 c.from_residual.ensures.1))
    (no_header c.args.dictionary.now c.args.output.now old desk _ c.in_err-messages.ensures.unread)

pub returns-in-Ok-clause-ends : goal.returns-in-Ok-clause-ends
returns-in-Ok-clause-ends g c =
    let old : Scene = scene (g.F.Files.desk c.args.files.now) (g.O.Sink.put c.args.out.now) (g.O.Sink.faults c.args.out.now) in
    let same = c.in_ok-messages.ensures.same in
    header_written c.args.dictionary.now c.args.output.now old (g.F.Files.desk c.save.new.files) c.in_ok-messages.messages _ _ _ c.in_ok-messages.ensures.found
    (rw (c.deref.ensures.value, c.in_ok-text.ensures) at c.in-Ok.ensures.ok) (rw same at c.save.ensures.only) (c.in-Ok.ensures.counted ∙ ap (λ (d : Desk). d.write_faults) same)
    (rw c.len.ensures.value at c.print_count.ensures.printed) c.print_count.ensures.memory

pub returns-clause-ends : goal.returns-clause-ends
returns-clause-ends g c =
    let old : Scene = scene (g.F.Files.desk c.args.files.now) (g.O.Sink.put c.args.out.now) (g.O.Sink.faults c.args.out.now) in
    let same = c.in_ok-messages.ensures.same in
    header_lost c.args.dictionary.now c.args.output.now old (g.F.Files.desk c.save.new.files) c.in_ok-messages.messages c.in_ok-messages.ensures.found
    (rw (same, c.deref.ensures.value, c.in_ok-text.ensures) at c.in-Err.ensures.front) (rw same at c.save.ensures.only) (rw same at c.in-Err.ensures.cause)
