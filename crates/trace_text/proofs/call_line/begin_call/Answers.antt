use Rattle.std.proofs.Common.{◌≡◌, ℕ, ◌≤◌, Some, sym, ap, ◌∙◌, arith, rules}
use Rattle.std.specs.Prelude.{codes}
use Rattle.log_dictionary.specs.Clocks.{first_tick}
use Rattle.session_options.proofs.lemmas.RunClocks.{first_tick_is}
use Rattle.trace_text.specs.Recordings.{Recording}
use Rattle.trace_text.specs.CallReading.{last_stamp}
use Rattle.trace_text.specs.CallPlaces.{head_view}
use Rattle.trace_text.specs.LineFields.{head_at}
use Rattle.trace_text.proofs.LineFronts.{joined_again}
use Rattle.trace_text.proofs.CallLines.{call_begun}
use Rattle.trace_text.proofs.call_line.begin_call.Goals as goal

pub returns-clause-ok : goal.returns-clause-ok
returns-clause-ok c =
    let run = c.args.run.now in
    let head = head_view c.in-Some-head_of.head in
    let calls = c.in-Some-get.made.now in
    let first : first_tick run.clocks ≡ c.first-first.result.tick =
    sym (ap (λ (run : Recording). first_tick run.clocks) c.run.view_is) ∙ first_tick_is c.run.inside.clocks c.first-first.result c.first-first.ensures in
    let risen : last_stamp (first_tick run.clocks) calls ≤ head.stamp = omega (arith, ap (λ (least : ℕ). last_stamp least calls) first) in
    let headed : head_at c.args.line.now ≡ Some head =
    ap head_at (joined_again (codes "call ") c.args.line.now c.in-Some.fields.now c.in-Some.ensures.cases.0 c.in-Some.ensures.cases.1) ∙ sym c.in-Some-head_of.ensures in
    call_begun run c.args.line.now head calls c.in-Some-message_at.message.now (omega arith) headed (search rules) (omega arith) risen (search rules)
