use Rattle.std.proofs.Common.{◌≡◌, length, ap, subst, ◌∙◌, refl, arith}
use Rattle.std.specs.Arc.{arc_value}
use Rattle.nl_io.specs.MemSinks.{sink_bytes}
use Rattle.trace_text.specs.Recordings.{Recording}
use Rattle.trace_generator.specs.Generated.{Generated}
use Rattle.trace_session.specs.Sessions.{IsWholeLog}
use Rattle.command_base.proofs.lemmas.EffectLaws.{ended_as}
use Rattle.session_commands.specs.Selftests.{summary_of}
use Rattle.session_commands.proofs.LogLengths.{generated_short}
use Rattle.session_commands.proofs.SelftestEnds.{selftest_lacked, selftest_told}
use Rattle.session_commands.proofs.selftesting.selftest.Goals as goal

pub summary_of-requires-clause-short : goal.summary_of-requires-clause-short
summary_of-requires-clause-short g c =
    let run_is : arc_value c.in-Ok.trace ≡ Generated c.args.seed c.args.calls c.args.writers = c.in-Ok.ensures.ok ∙ c.in_ok-trace.ensures in
    let log = sink_bytes c.in_ok-log.log in
    let whole = subst (λ (run : Recording). IsWholeLog run 4096 run.writers log) run_is c.in_ok-log.ensures.ok in
    omega (arith, ap length c.bytes.ensures, generated_short c.args.seed c.args.calls c.args.writers 4096 log c.requires.few_calls c.requires.few_writers whole.lawful)

pub returns-in_err-trace-clause-ends : goal.returns-in_err-trace-clause-ends
returns-in_err-trace-clause-ends g c desk =
    selftest_lacked c.args.seed c.args.calls c.args.writers _ _ (ended_as _ _ c.from_residual.ensures.1)

pub returns-in_default-clause-ends : goal.returns-in_default-clause-ends
returns-in_default-clause-ends g c desk = selftest_lacked c.args.seed c.args.calls c.args.writers _ _ refl

pub returns-in_err-log-clause-ends : goal.returns-in_err-log-clause-ends
returns-in_err-log-clause-ends g c desk =
    selftest_lacked c.args.seed c.args.calls c.args.writers _ _
    (ended_as _ c.in_err-log.field-0.0 c.from_residual-in_err-log.ensures.1 ∙ c.in_err-log.ensures.err)

pub returns-in_err-summary-clause-ends : goal.returns-in_err-summary-clause-ends
returns-in_err-summary-clause-ends g c desk =
    selftest_lacked c.args.seed c.args.calls c.args.writers _ _
    (ended_as _ c.in_err-summary.field-0.0 c.from_residual-in_err-summary.ensures.1 ∙ c.in_err-summary.ensures.err)

pub returns-clause-ends : goal.returns-clause-ends
returns-clause-ends g c desk =
    let run_is : arc_value c.in-Ok.trace ≡ Generated c.args.seed c.args.calls c.args.writers = c.in-Ok.ensures.ok ∙ c.in_ok-trace.ensures in
    selftest_told c.args.seed c.args.calls c.args.writers c.in_ok-summary.summary _ _ _ _ _ _
    (c.in_ok-summary.ensures.ok ∙ ap summary_of (c.deref.ensures ∙ run_is)) c.print_summary.ensures.printed c.print_summary.ensures.memory
