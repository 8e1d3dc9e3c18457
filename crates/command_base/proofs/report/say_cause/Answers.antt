use Rattle.std.proofs.Common.{List, ℕ, subst}
use Rattle.command_base.specs.Printing.{Says}
use Rattle.command_base.proofs.Sayings.{cause_pieces}
use Rattle.command_base.proofs.report.say_cause.Goals as goal

pub returns-clause-said : goal.returns-clause-said
returns-clause-said g c =
    subst (λ (words : List ℕ). Says words (g.E.Sink.put c.args.err.now) (g.E.Sink.put c.say_pieces.new.err) (g.E.Sink.faults c.args.err.now) (g.E.Sink.faults c.say_pieces.new.err))
    (cause_pieces c.args.name.now c.args.colon.now c.args.place.now c.args.what.now c.args.number.now c.args.cause.now) c.say_pieces.ensures.said
