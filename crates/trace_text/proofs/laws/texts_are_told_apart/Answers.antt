use Rattle.trace_text.proofs.OneOutcome.{one_outcome}
use Rattle.trace_text.proofs.SomeOutcome.{some_outcome}
use Rattle.trace_text.proofs.lemmas.ToldApart.{one_holds, not_broken, one_run, one_break}
use Rattle.trace_text.proofs.laws.texts_are_told_apart.Goals as goal

pub returns-clause-one_holds : goal.returns-clause-one_holds
returns-clause-one_holds c = one_holds

pub returns-clause-not_both : goal.returns-clause-not_both
returns-clause-not_both c = not_broken

pub returns-clause-one_run : goal.returns-clause-one_run
returns-clause-one_run c = one_run

pub returns-clause-one_break : goal.returns-clause-one_break
returns-clause-one_break c = one_break

pub returns-clause-some_outcome : goal.returns-clause-some_outcome
returns-clause-some_outcome c = some_outcome

pub returns-clause-one_outcome : goal.returns-clause-one_outcome
returns-clause-one_outcome c = one_outcome
