use Rattle.std.proofs.Common.{sym, subst, ◌∙◌}
use Rattle.command_base.proofs.lemmas.EffectLaws.{prints_as, prints_free}
use Rattle.command_base.specs.Endings.{Ending}
use Rattle.command_base.specs.Printing.{Prints}
use Rattle.session_commands.specs.Headline.{outcome_text}
use Rattle.session_commands.proofs.telling.tell.Goals as goal

pub returns-clause-printed : goal.returns-clause-printed
returns-clause-printed g c =
    subst (λ (ending : Ending). Prints (outcome_text c.args.drops.now c.args.accepted c.args.filtered) (g.O.Sink.put c.args.out.now) (g.O.Sink.put c.put_outcome.new.out) (g.O.Sink.faults c.args.out.now) (g.O.Sink.faults c.put_outcome.new.out) ending) (sym c.printed.ensures)
    (prints_as c.put_outcome.result _ _ _ _ _ c.put_outcome.ensures.ok c.put_outcome.ensures.counted c.put_outcome.ensures.cut_off)

pub returns-clause-memory : goal.returns-clause-memory
returns-clause-memory g c = λ wants. prints_free c.put_outcome.result (sym c.printed.ensures ∙ wants)
