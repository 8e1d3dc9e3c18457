use Rattle.session_commands.proofs.selftesting.summary_of.Goals as goal

pub returns-clause-ok : goal.returns-clause-ok
returns-clause-ok c =
    let told = c.in_ok-calls.ensures.ok c.args.trace.now 4096 c.requires.log in
    λ i. record {
      calls = told.0 i;
      errors = c.count_severity.ensures i;
      warnings = c.count_severity-2.ensures i;
      notices = c.count_severity-3.ensures i;
      debugs = c.count_severity-4.ensures i;
      text = told.1 i;
    }
