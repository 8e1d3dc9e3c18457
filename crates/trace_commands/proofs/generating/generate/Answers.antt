use Rattle.std.proofs.Common.{ap, refl, sym, subst}
use Rattle.trace_text.specs.Recordings.{Recording}
use Rattle.trace_text.specs.Canonical.{Canonical}
use Rattle.command_base.specs.Endings.{Ending, NoMemory}
use Rattle.command_base.specs.Effects.{CommandEffect}
use Rattle.command_base.proofs.lemmas.EffectLaws.{ended_as, nothing_came, streamed_done, none_wanted}
use Rattle.command_base.specs.Scenes.{Scene, scene}
use Rattle.command_base.specs.Tasks.{text_alone}
use Rattle.trace_commands.specs.Tasks.{generate_task}
use Rattle.trace_commands.proofs.lemmas.Soundness.{generate_sound}
use Rattle.trace_commands.proofs.generating.generate.Goals as goal

pub returns-in_err-trace-clause-ends : goal.returns-in_err-trace-clause-ends
returns-in_err-trace-clause-ends g c desk =
    let task = generate_task c.args.seed c.args.calls c.args.writers in
    let old : Scene = scene desk (g.O.Sink.put c.args.out.now) (g.O.Sink.faults c.args.out.now) in
    subst (λ (ending : Ending). CommandEffect task old old ending) (sym (ended_as _ _ c.from_residual.ensures.1))
    (nothing_came task old desk NoMemory (generate_sound c.args.seed c.args.calls c.args.writers) (refl, refl))

pub returns-clause-ends : goal.returns-clause-ends
returns-clause-ends g c desk =
    let task = generate_task c.args.seed c.args.calls c.args.writers in
    let old : Scene = scene desk (g.O.Sink.put c.args.out.now) (g.O.Sink.faults c.args.out.now) in
    streamed_done task old desk (text_alone (Canonical c.in_ok-trace.trace)) _ _ _
    (record { read = desk; reading = (refl, ap (λ (run : Recording). text_alone (Canonical run)) c.in_ok-trace.ensures); made = refl })
    tt
    (none_wanted desk)
    c.print_trace.ensures.printed
