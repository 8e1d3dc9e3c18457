use Rattle.decompressor.proofs.Worked.{one_call, two_clocks, step_back, mixed}
use Rattle.decompressor.proofs.laws.worked_logs.Goals as goal

pub returns-clause-one_call : goal.returns-clause-one_call
returns-clause-one_call c = one_call

pub returns-clause-mixed_writers : goal.returns-clause-mixed_writers
returns-clause-mixed_writers c = mixed

pub returns-clause-two_clocks : goal.returns-clause-two_clocks
returns-clause-two_clocks c = two_clocks

pub returns-clause-step_back : goal.returns-clause-step_back
returns-clause-step_back c = step_back
