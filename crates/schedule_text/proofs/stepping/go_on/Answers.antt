use Rattle.std.proofs.Common.{refl, sym, ap, subst, ◌+◌, ◌-◌, ◌∙◌, arith}
use Rattle.schedule_text.specs.declared.playing.ScheduleFault.TheVariants.{Refused}
use Rattle.schedule_text.specs.declared.playing.TheConstants.{MAX_STEPS}
use Rattle.schedule_text.specs.Judged.{steps_judged}
use Rattle.schedule_text.specs.Playing.{StopsInHead}
use Rattle.schedule_text.proofs.Judging.{too_many, stops_unread, stops_barred, goes_on, cause_told, bar_told}
use Rattle.schedule_text.proofs.Positions.{reached_after, position_fits}
use Rattle.schedule_text.proofs.stepping.go_on.Goals as goal

pub make_step-requires-clause-few : goal.make_step-requires-clause-few
make_step-requires-clause-few c = c.requires.reached.few

pub make_step-requires-clause-position : goal.make_step-requires-clause-position
make_step-requires-clause-position c = position_fits _ _ _ c.requires.reached c.requires.few

pub returns-then-made-eq-MAX_STEPS-clause-stops : goal.returns-then-made-eq-MAX_STEPS-clause-stops
returns-then-made-eq-MAX_STEPS-clause-stops c =
    subst (StopsInHead (steps_judged (MAX_STEPS - c.args.made) c.args.rings.now c.args.made c.args.bytes.now)) (sym c.refused.ensures)
    (too_many (MAX_STEPS - c.args.made) c.args.rings.now c.args.made c.args.bytes.now (omega (arith, c.if-made-eq-MAX_STEPS.true)) c.requires.some)

pub returns-in_default-clause-stops : goal.returns-in_default-clause-stops
returns-in_default-clause-stops c =
    subst (StopsInHead (steps_judged (MAX_STEPS - c.args.made) c.args.rings.now c.args.made c.args.bytes.now)) (sym c.refused-in_default.ensures)
    (stops_unread c.args.rings.now c.args.made c.args.bytes.now c.requires.some (omega (arith, c.requires.few, c.if-made-eq-MAX_STEPS.false)) (sym (rw c.in_default.is at c.read_step.ensures)))

pub returns-in-Ok-clause-reached : goal.returns-in-Ok-clause-reached
returns-in-Ok-clause-reached c = reached_after _ _ _ _ c.requires.reached c.in-Ok.ensures.made

pub returns-in-Ok-clause-made : goal.returns-in-Ok-clause-made
returns-in-Ok-clause-made c =
    goes_on c.args.rings.now c.args.made c.args.bytes.now c.requires.some (omega (arith, c.requires.few, c.if-made-eq-MAX_STEPS.false)) (c.in-Some.ring, c.in-Some.step) c.in-Some.rest.now c.make_step.new.rings c.in-Ok.view
    (sym c.in-Some.ensures) c.in-Ok.ensures.made c.in-Ok.ensures.view

pub returns-in-Some-told_bar-clause-stops : goal.returns-in-Some-told_bar-clause-stops
returns-in-Some-told_bar-clause-stops c =
    let told = sym c.in-Some-told_bar.ensures in
    subst (StopsInHead (steps_judged (MAX_STEPS - c.args.made) c.args.rings.now c.args.made c.args.bytes.now)) (sym (c.refused-in-Some-told_bar.ensures ∙ ap (Refused (c.args.made + 3)) (sym (cause_told c.in-Err.bar c.in-Some-told_bar.cause told))))
    (stops_barred c.args.rings.now c.args.made c.args.bytes.now c.requires.some (omega (arith, c.requires.few, c.if-made-eq-MAX_STEPS.false)) (c.in-Some.ring, c.in-Some.step) c.in-Some.rest.now c.in-Err.bar (sym c.in-Some.ensures)
    (bar_told c.in-Err.bar c.in-Some-told_bar.cause _ told c.in-Err.ensures.barred))
