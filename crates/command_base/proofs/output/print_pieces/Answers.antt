use Rattle.std.proofs.Common.{sym, subst, ◌∙◌}
use Rattle.nl_io.specs.TextWriters.{text_of_pieces}
use Rattle.command_base.specs.Endings.{Ending}
use Rattle.command_base.proofs.lemmas.EffectLaws.{prints_as, prints_free}
use Rattle.command_base.specs.Printing.{Prints}
use Rattle.command_base.proofs.output.print_pieces.Goals as goal

pub returns-clause-printed : goal.returns-clause-printed
returns-clause-printed g c =
    subst (λ (ending : Ending). Prints (text_of_pieces c.args.pieces.now) (g.O.Sink.put c.args.out.now) (g.O.Sink.put c.put_pieces.new.out) (g.O.Sink.faults c.args.out.now) (g.O.Sink.faults c.put_pieces.new.out) ending) (sym c.printed.ensures)
    (prints_as c.put_pieces.result _ _ _ _ _ c.put_pieces.ensures.ok c.put_pieces.ensures.counted c.put_pieces.ensures.cut_off)

pub returns-clause-memory : goal.returns-clause-memory
returns-clause-memory g c = λ wants. prints_free c.put_pieces.result (sym c.printed.ensures ∙ wants)
