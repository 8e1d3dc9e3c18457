use Rattle.std.proofs.Common.{sym, subst, ◌∙◌}
use Rattle.command_base.specs.Endings.{Ending}
use Rattle.command_base.proofs.lemmas.EffectLaws.{prints_free}
use Rattle.command_base.specs.Printing.{Prints}
use Rattle.command_base.proofs.lemmas.Printings.{prints_written}
use Rattle.command_base.proofs.output.print.Goals as goal

pub returns-clause-printed : goal.returns-clause-printed
returns-clause-printed g c =
    subst (λ (ending : Ending). Prints c.args.text.now (g.O.Sink.put c.args.out.now) (g.O.Sink.put c.write_all.new.sink) (g.O.Sink.faults c.args.out.now) (g.O.Sink.faults c.write_all.new.sink) ending) (sym c.printed.ensures)
    (prints_written c.write_all.result _ _ _ _ _ c.write_all.ensures.ok c.write_all.ensures.counted c.write_all.ensures.err c.write_all.ensures.cause c.write_all.ensures.some)

pub returns-clause-memory : goal.returns-clause-memory
returns-clause-memory g c = λ wants. prints_free c.write_all.result (sym c.printed.ensures ∙ wants)
