use Rattle.std.proofs.Common.{length}
use Rattle.log_dictionary.proofs.TextRuns.{before_end, at_end}
use Rattle.log_dictionary.proofs.text.run_len.Goals as goal

pub returns-in-Some-clause-before : goal.returns-in-Some-clause-before
returns-in-Some-clause-before c = λ k below. before_end c.args.bytes.now c.in-Some.at k c.in-Some.ensures.0.before below

pub returns-in-Some-clause-end : goal.returns-in-Some-clause-end
returns-in-Some-clause-end c = λ within. at_end c.args.bytes.now c.in-Some.at c.in-Some.ensures.1

pub returns-in-None-clause-before : goal.returns-in-None-clause-before
returns-in-None-clause-before c = λ k below. before_end c.args.bytes.now (length c.args.bytes.now) k c.in-None.ensures below
