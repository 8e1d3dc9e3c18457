use Rattle.std.proofs.Common.{ℕ, List, subst}
use Rattle.command_base.specs.Endings.{ending_of}
use Rattle.command_base.specs.Printing.{Prints}
use Rattle.session_commands.proofs.Pieces.{summary_pieces}
use Rattle.session_commands.proofs.selftesting.print_summary.Goals as goal

pub returns-clause-printed : goal.returns-clause-printed
returns-clause-printed g c =
    subst (λ (text : List ℕ). Prints text (g.O.Sink.put c.args.out.now) (g.O.Sink.put c.print_pieces.new.out) (g.O.Sink.faults c.args.out.now) (g.O.Sink.faults c.print_pieces.new.out) (ending_of c.print_pieces.result))
    (summary_pieces c.args.summary.now _ _ _ _ _ _ c.format.ensures.text c.format-2.ensures.text c.format-3.ensures.text c.format-4.ensures.text c.format-5.ensures.text c.format-6.ensures.text)
    c.print_pieces.ensures.printed
