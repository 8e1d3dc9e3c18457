use Rattle.std.proofs.Common.{ℕ, List, ap, sym, subst, ◌∙◌}
use Rattle.nl_io.specs.Desk.{Desk}
use Rattle.command_base.specs.Effects.{CommandEffect}
use Rattle.command_base.proofs.lemmas.EffectLaws.{ended_as}
use Rattle.command_base.specs.Endings.{Ending, refusal_ending}
use Rattle.command_base.specs.Scenes.{Scene, scene}
use Rattle.code_inject.specs.Injected.{InjectsSource}
use Rattle.dictionary_commands.specs.Injecting.{GivesNoSource, IsRefusedSource, IsSource, inject_task}
use Rattle.dictionary_commands.proofs.Injections.{no_messages, no_source, not_injected, text_written, text_lost}
use Rattle.dictionary_commands.proofs.injecting.inject.Goals as goal

pub returns-in_err-messages-clause-ends : goal.returns-in_err-messages-clause-ends
returns-in_err-messages-clause-ends g c =
    let old : Scene = scene (g.F.Files.desk c.args.files.now) (g.O.Sink.put c.args.out.now) (g.O.Sink.faults c.args.out.now) in
    let desk = g.F.Files.desk c.dictionary_of_file.new.files in
    subst (λ (ending : Ending). CommandEffect (inject_task c.args.dictionary.now c.args.source.now c.args.output.now) old (scene desk old.put old.faults) ending)
    (sym (ended_as _ c.in_err-messages.field-0.0 c.from_residual.ensures.1))
    (no_messages c.args.dictionary.now c.args.source.now c.args.output.now old desk _ c.in_err-messages.ensures.unread)

pub returns-in_err-bytes-clause-ends : goal.returns-in_err-bytes-clause-ends
returns-in_err-bytes-clause-ends g c =
    let old : Scene = scene (g.F.Files.desk c.args.files.now) (g.O.Sink.put c.args.out.now) (g.O.Sink.faults c.args.out.now) in
    let desk = g.F.Files.desk c.source_of_file.new.files in
    subst (λ (ending : Ending). CommandEffect (inject_task c.args.dictionary.now c.args.source.now c.args.output.now) old (scene desk old.put old.faults) ending)
    (sym (ended_as _ c.in_err-bytes.field-0.0 c.from_residual-in_err-bytes.ensures.1))
    (no_source c.args.dictionary.now c.args.source.now c.args.output.now old desk _ c.in_ok-messages.messages c.in_ok-messages.ensures.found
    (subst (λ (d : Desk). GivesNoSource c.args.source.now d desk (refusal_ending c.in_err-bytes.field-0.0)) c.in_ok-messages.ensures.same c.in_err-bytes.ensures.unread))

pub returns-in_err-text-clause-ends : goal.returns-in_err-text-clause-ends
returns-in_err-text-clause-ends g c =
    let old : Scene = scene (g.F.Files.desk c.args.files.now) (g.O.Sink.put c.args.out.now) (g.O.Sink.faults c.args.out.now) in
    let desk = g.F.Files.desk c.source_of_file.new.files in
    let bytes = c.in_ok-bytes.bytes.items in
    let is = subst (λ (d : Desk). IsSource d c.args.source.now bytes) c.in_ok-messages.ensures.same c.in_ok-bytes.ensures.found in
    subst (λ (ending : Ending). CommandEffect (inject_task c.args.dictionary.now c.args.source.now c.args.output.now) old (scene desk old.put old.faults) ending)
    (sym (ended_as _ c.in_err-text.field-0.0 c.from_residual-in_err-text.ensures.1))
    (not_injected c.args.dictionary.now c.args.source.now c.args.output.now old desk _ c.in_ok-messages.messages bytes c.in_ok-messages.ensures.found (c.in_ok-bytes.ensures.same ∙ c.in_ok-messages.ensures.same) is
    (subst (λ (read : List ℕ). IsRefusedSource c.args.source.now read c.in_ok-messages.messages (refusal_ending c.in_err-text.field-0.0)) c.deref.ensures.value c.in_err-text.ensures.refused))

pub returns-in-Ok-clause-ends : goal.returns-in-Ok-clause-ends
returns-in-Ok-clause-ends g c =
    let old : Scene = scene (g.F.Files.desk c.args.files.now) (g.O.Sink.put c.args.out.now) (g.O.Sink.faults c.args.out.now) in
    let same = c.in_ok-bytes.ensures.same ∙ c.in_ok-messages.ensures.same in
    let bytes = c.in_ok-bytes.bytes.items in
    let is = subst (λ (d : Desk). IsSource d c.args.source.now bytes) c.in_ok-messages.ensures.same c.in_ok-bytes.ensures.found in
    let injects = subst (λ (read : List ℕ). InjectsSource c.args.source.now read c.in_ok-messages.messages c.in_ok-text.text.items c.in_ok-text.count) c.deref.ensures.value c.in_ok-text.ensures.text in
    text_written c.args.dictionary.now c.args.source.now c.args.output.now old (g.F.Files.desk c.save.new.files) c.in_ok-messages.messages bytes c.in_ok-text.text.items c.in_ok-text.count c.in_ok-messages.ensures.found is injects _ _ _
    (rw c.deref-2.ensures.value at c.in-Ok.ensures.ok) (rw same at c.save.ensures.only) (c.in-Ok.ensures.counted ∙ ap (λ (d : Desk). d.write_faults) same) c.print_count.ensures.printed c.print_count.ensures.memory

pub returns-clause-ends : goal.returns-clause-ends
returns-clause-ends g c =
    let old : Scene = scene (g.F.Files.desk c.args.files.now) (g.O.Sink.put c.args.out.now) (g.O.Sink.faults c.args.out.now) in
    let same = c.in_ok-bytes.ensures.same ∙ c.in_ok-messages.ensures.same in
    let bytes = c.in_ok-bytes.bytes.items in
    let is = subst (λ (d : Desk). IsSource d c.args.source.now bytes) c.in_ok-messages.ensures.same c.in_ok-bytes.ensures.found in
    let injects = subst (λ (read : List ℕ). InjectsSource c.args.source.now read c.in_ok-messages.messages c.in_ok-text.text.items c.in_ok-text.count) c.deref.ensures.value c.in_ok-text.ensures.text in
    text_lost c.args.dictionary.now c.args.source.now c.args.output.now old (g.F.Files.desk c.save.new.files) c.in_ok-messages.messages bytes c.in_ok-text.text.items c.in_ok-text.count c.in_ok-messages.ensures.found is injects
    (rw (same, c.deref-2.ensures.value) at c.in-Err.ensures.front) (rw same at c.save.ensures.only) (rw same at c.in-Err.ensures.cause)

pub returns-in-Ok-clause-files_others : goal.returns-in-Ok-clause-files_others
returns-in-Ok-clause-files_others g c = g.met.F.Files.rest_then _ _ _
    (g.met.F.Files.rest_then _ _ _ c.in_ok-messages.ensures.others c.in_ok-bytes.ensures.others) c.save.ensures.others

pub returns-clause-files_others : goal.returns-clause-files_others
returns-clause-files_others g c = g.met.F.Files.rest_then _ _ _
    (g.met.F.Files.rest_then _ _ _ c.in_ok-messages.ensures.others c.in_ok-bytes.ensures.others) c.save.ensures.others
