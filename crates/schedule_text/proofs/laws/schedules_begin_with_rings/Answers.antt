use Rattle.std.proofs.Common.{refl}
use Rattle.std.specs.Fmt.{digits}
use Rattle.log_dictionary.specs.Fields.{split_at_first}
use Rattle.log_dictionary.specs.Numbers.{number_from}
use Rattle.ring_machine.specs.Streams.{onward}
use Rattle.schedule_text.specs.Judged.{steps_judged}
use Rattle.schedule_text.proofs.laws.schedules_begin_with_rings.Goals as goal

pub returns-clause-empty : goal.returns-clause-empty
unfolding digits split_at_first number_from onward steps_judged
returns-clause-empty c = refl

pub returns-clause-other : goal.returns-clause-other
unfolding digits split_at_first number_from onward steps_judged
returns-clause-other c = refl

pub returns-clause-no_rings : goal.returns-clause-no_rings
unfolding digits split_at_first number_from onward steps_judged
returns-clause-no_rings c = refl

pub returns-clause-none : goal.returns-clause-none
unfolding digits split_at_first number_from onward steps_judged
returns-clause-none c = refl

pub returns-clause-too_many : goal.returns-clause-too_many
unfolding digits split_at_first number_from onward steps_judged
returns-clause-too_many c = refl

pub returns-clause-too_small : goal.returns-clause-too_small
unfolding digits split_at_first number_from onward steps_judged
returns-clause-too_small c = refl

pub returns-clause-too_large : goal.returns-clause-too_large
unfolding digits split_at_first number_from onward steps_judged
returns-clause-too_large c = refl

pub returns-clause-unended : goal.returns-clause-unended
unfolding digits split_at_first number_from onward steps_judged
returns-clause-unended c = refl
