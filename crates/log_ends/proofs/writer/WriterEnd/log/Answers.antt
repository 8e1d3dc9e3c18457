use Rattle.std.proofs.Common.{map, refl, sym, arith, rules}
use Rattle.std.proofs.lemmas.Grind.{common_steps}
use Rattle.log_ends.specs.Arguments.{argument_given}
use Rattle.log_ends.proofs.Logging.{may_log, too_long}
use Rattle.log_ends.proofs.writer.WriterEnd.log.Goals as goal

pub returns-in-Ok : goal.returns-in-Ok
returns-in-Ok c =
    let may = may_log c.args.self.now c.args.stamp c.args.id c.in-Some.message.now c.types-types.result.now (map argument_given c.args.args.now) (sym c.if-is_closed.ensures) (sym c.in-Some.ensures.value) c.types-types.ensures.types
    (c.in-Ok.ensures.fits (λ is. absurd cc)) (omega (arith, c.last_stamp.ensures)) (omega (arith, c.sent.ensures)) in
    grind (arith, common_steps)

pub returns-in-Err-Full : goal.returns-in-Err-Full
returns-in-Err-Full c =
    let e = rw c.in-Err-Full.field-0-is at c.in-Err-Full.ensures in
    let may = may_log c.args.self.now c.args.stamp c.args.id c.in-Some.message.now c.types-types.result.now (map argument_given c.args.args.now) (sym c.if-is_closed.ensures) (sym c.in-Some.ensures.value) c.types-types.ensures.types
    (e.fits (λ is. absurd cc)) (omega (arith, c.last_stamp.ensures)) (omega (arith, c.sent.ensures)) in
    search rules

pub returns-in-Err-TooLong : goal.returns-in-Err-TooLong
returns-in-Err-TooLong c =
    let e = rw c.in-Err-TooLong.field-0-is at c.in-Err-TooLong.ensures in
    let may = may_log c.args.self.now c.args.stamp c.args.id c.in-Some.message.now c.types-types.result.now (map argument_given c.args.args.now) (sym c.if-is_closed.ensures) (sym c.in-Some.ensures.value) c.types-types.ensures.types
    (e.fits (λ is. absurd cc)) (omega (arith, c.last_stamp.ensures)) (omega (arith, c.sent.ensures)) in
    too_long c.args.self.now _ c.args.stamp c.args.id (map argument_given c.args.args.now) may (e.too_long.0 refl).1 e.err.0 e.err.1 e.err.2 e.stays_open e.steps
    (record { same_pair = e.same.same_pair; same_words = e.same.same_words; same_plan = e.same.same_plan; same_messages = refl })
