use Rattle.std.proofs.Common.{sym, arith}
use Rattle.log_dictionary.proofs.TextRuns.{read_begins, read_goes_on, read_breaks, read_is_spelled, read_opens, escaped_run_shorter, begins_no_text}
use Rattle.log_dictionary.proofs.text.split_body.Goals as goal

pub returns-in_err-run : goal.returns-in_err-run
returns-in_err-run c = rw c.from_residual.ensures (sym (begins_no_text c.args.body.now c.in_err-run.ensures.none))

pub loop-byte-init : goal.loop-byte-init
loop-byte-init c = read_begins c.args.body.now c.in_ok-run.run'.now c.in_ok-run.rest.now c.in_ok-run.ensures.some

pub loop-byte-smaller : goal.loop-byte-smaller
loop-byte-smaller c = omega (arith, escaped_run_shorter c.loop-byte.rest.now c.in-Some.run'.now c.in-Some.after.now c.in-Some.byte c.in-Some.ensures.some)

pub loop-byte-preserved : goal.loop-byte-preserved
loop-byte-preserved c =
    read_goes_on c.args.body.now c.loop-byte.rest.now c.in-Some.run'.now c.in-Some.after.now c.loop-byte.len c.in-Some.byte c.loop-byte.has_nul c.loop-byte.invariant c.in-Some.ensures.some

pub returns-in_default-after_byte : goal.returns-in_default-after_byte
returns-in_default-after_byte c = sym (read_breaks c.args.body.now c.loop-byte.rest.now c.loop-byte.len c.loop-byte.has_nul c.loop-byte.invariant c.in_default.ensures.none c.in_default-after_byte.ensures)

pub invariant_of-text : goal.invariant_of-text
invariant_of-text c = read_is_spelled c.args.body.now c.loop-byte.rest.now c.loop-byte.len c.loop-byte.has_nul c.loop-byte.invariant

pub returns : goal.returns
returns c = read_opens c.args.body.now c.loop-byte.rest.now c.in-Some-after_byte.after.now c.loop-byte.len c.loop-byte.has_nul c.loop-byte.invariant c.in-Some-after_byte.ensures
