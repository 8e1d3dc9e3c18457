use Rattle.std.proofs.Common.{List, ℕ, subst}
use Rattle.command_base.specs.Endings.{ending_of}
use Rattle.command_base.specs.Printing.{Prints}
use Rattle.dictionary_commands.proofs.Counts.{count_pieces}
use Rattle.dictionary_commands.proofs.counting.print_count.Goals as goal

pub returns-clause-printed : goal.returns-clause-printed
returns-clause-printed g c =
    subst (λ (text : List ℕ). Prints text (g.O.Sink.put c.args.out.now) (g.O.Sink.put c.print_pieces.new.out) (g.O.Sink.faults c.args.out.now) (g.O.Sink.faults c.print_pieces.new.out) (ending_of c.print_pieces.result))
    (count_pieces c.args.counted.now c.args.count _ c.format-count.ensures.text) c.print_pieces.ensures.printed
