use Rattle.std.proofs.Common.{List, ℕ, subst}
use Rattle.command_base.specs.Endings.{ending_of}
use Rattle.command_base.specs.Printing.{Prints}
use Rattle.source_commands.proofs.Preprocessings.{numbers_pieces}
use Rattle.source_commands.proofs.preprocessing.print_numbers.Goals as goal

pub returns-clause-printed : goal.returns-clause-printed
returns-clause-printed g c =
    subst (λ (text : List ℕ). Prints text (g.O.Sink.put c.args.out.now) (g.O.Sink.put c.print_pieces.new.out) (g.O.Sink.faults c.args.out.now) (g.O.Sink.faults c.print_pieces.new.out) (ending_of c.print_pieces.result))
    (numbers_pieces c.args.messages c.args.statements _ _ c.format-messages.ensures.text c.format-statements.ensures.text) c.print_pieces.ensures.printed
