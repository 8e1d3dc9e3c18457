use Rattle.std.proofs.Common.{length, ap, ◌∙◌, arith}
use Rattle.arg_records.proofs.lemmas.Lengths.{length-Frame}
use Rattle.log_session.proofs.Logging.{calls-Position, logged_more, logged_same, lawful_more}
use Rattle.log_session.proofs.writer.offer.Goals as goal

pub offer-requires-clause-lawful : goal.offer-requires-clause-lawful
offer-requires-clause-lawful g c =
    rw c.requires.call.2 (lawful_more _ _ _ _ _ _ c.args.stamp c.requires.call.0 c.requires.call.1 c.requires.logged c.requires.call.3)

pub overflow_add-accepted : goal.overflow_add-accepted
overflow_add-accepted g c =
    omega (arith, c.requires.position, c.requires.logged.placed, c.requires.logged.counted, calls-Position c.requires.logged.calls (g.S.StageIn.words c.args.end.now))

pub returns-clause-logged : goal.returns-clause-logged
returns-clause-logged g c =
    let was = c.args.end.now in
    let len = ap length c.requires.call.2 ∙ length-Frame c.requires.call.0 c.args.stamp c.requires.call.1 in
    logged_same (g.S.StageIn.plan was) _ _ _ _ _ (g.S.StageIn.words was) _ c.args.stamp _ c.in_ok-offer.ensures.same.2
    (rw c.requires.call.2 at c.in_ok-offer.ensures.ok)
    (rw len at c.in_ok-offer.ensures.moved)
    c.in_ok-offer.ensures.same.0 (logged_more _ _ _ _ _ _ c.args.stamp c.requires.call.0 c.requires.call.1 c.requires.logged c.requires.call.3)
