use Rattle.std.proofs.Common.{refl}
use Rattle.buffer_extent.proofs.laws.records_break_by_these_causes.Goals as goal

pub returns-clause-cut : goal.returns-clause-cut
returns-clause-cut c = λ message is. rw is refl

pub returns-clause-unknown : goal.returns-clause-unknown
returns-clause-unknown c = λ message is. refl

pub returns-clause-no_code : goal.returns-clause-no_code
returns-clause-no_code c = λ message is. refl

pub returns-clause-unused : goal.returns-clause-unused
returns-clause-unused c = λ message is. rw is refl

pub returns-clause-long : goal.returns-clause-long
returns-clause-long c = λ message is. refl

pub returns-clause-past : goal.returns-clause-past
returns-clause-past c = λ message is. refl

pub returns-clause-falls : goal.returns-clause-falls
returns-clause-falls c = λ message is. refl

pub returns-clause-range : goal.returns-clause-range
returns-clause-range c = λ message is. rw is refl

pub returns-clause-nul : goal.returns-clause-nul
returns-clause-nul c = λ message is. rw (is, is) refl

pub returns-clause-too_long : goal.returns-clause-too_long
returns-clause-too_long c = λ message is. rw is refl
