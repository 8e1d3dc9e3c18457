use Rattle.std.proofs.Common.{List, ℕ, ap, subst, ◌∙◌}
use Rattle.std.specs.Fmt.{signed_decimal}
use Rattle.std.proofs.Math.Facts.{to_z-of_z}
use Rattle.command_base.specs.Endings.{ending_of}
use Rattle.command_base.specs.Printing.{Prints}
use Rattle.log_commands.proofs.Totals.{numbers_pieces}
use Rattle.log_commands.proofs.totals_line.print_numbers.Goals as goal

pub returns-clause-printed : goal.returns-clause-printed
returns-clause-printed g c =
    subst (λ (text : List ℕ). Prints text (g.O.Sink.put c.args.out.now) (g.O.Sink.put c.print_pieces.new.out) (g.O.Sink.faults c.args.out.now) (g.O.Sink.faults c.print_pieces.new.out) (ending_of c.print_pieces.result))
    (numbers_pieces c.args.count c.args.least c.args.greatest c.args.sum _ _ _ _ c.format-count.ensures.text
    (c.format-least.ensures.text ∙ ap signed_decimal (to_z-of_z c.ranges.least))
    (c.format-greatest.ensures.text ∙ ap signed_decimal (to_z-of_z c.ranges.greatest))
    (c.format-sum.ensures.text ∙ ap signed_decimal (to_z-of_z c.ranges.sum))) c.print_pieces.ensures.printed
