use Rattle.std.proofs.Common.{List, ℕ, subst}
use Rattle.command_base.specs.Printing.{Says}
use Rattle.command_base.proofs.Sayings.{placed_words, whole_words}
use Rattle.command_base.proofs.report.say_fault.Goals as goal

pub returns-in-Some-clause-said : goal.returns-in-Some-clause-said
returns-in-Some-clause-said g c =
    rw c.in-Some.is (subst (λ (words : List ℕ). Says words (g.E.Sink.put c.args.err.now) (g.E.Sink.put c.say_cause.new.err) (g.E.Sink.faults c.args.err.now) (g.E.Sink.faults c.say_cause.new.err))
    (placed_words c.args.name.now c.args.what.now c.args.cause.name.now _ _ c.in-Some.place c.args.cause.number c.format-place.ensures.text c.format-number.ensures.text) c.say_cause.ensures.said)

pub returns-in-None-clause-said : goal.returns-in-None-clause-said
returns-in-None-clause-said g c =
    rw c.in-None.is (subst (λ (words : List ℕ). Says words (g.E.Sink.put c.args.err.now) (g.E.Sink.put c.say_cause-in-None.new.err) (g.E.Sink.faults c.args.err.now) (g.E.Sink.faults c.say_cause-in-None.new.err))
    (whole_words c.args.name.now c.args.what.now c.args.cause.name.now _ c.args.cause.number c.format-number.ensures.text) c.say_cause-in-None.ensures.said)
