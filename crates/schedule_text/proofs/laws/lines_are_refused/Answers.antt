use Rattle.std.proofs.Common.{refl}
use Rattle.std.specs.Fmt.{digits}
use Rattle.log_dictionary.specs.Fields.{split_at_first}
use Rattle.log_dictionary.specs.Numbers.{number_from}
use Rattle.ring_machine.specs.Streams.{onward}
use Rattle.schedule_text.specs.Judged.{steps_judged}
use Rattle.schedule_text.proofs.laws.lines_are_refused.Goals as goal

pub returns-clause-unknown : goal.returns-clause-unknown
unfolding digits split_at_first number_from onward steps_judged
returns-clause-unknown c = refl

pub returns-clause-empty : goal.returns-clause-empty
unfolding digits split_at_first number_from onward steps_judged
returns-clause-empty c = refl

pub returns-clause-no_ring : goal.returns-clause-no_ring
unfolding digits split_at_first number_from onward steps_judged
returns-clause-no_ring c = refl

pub returns-clause-no_word : goal.returns-clause-no_word
unfolding digits split_at_first number_from onward steps_judged
returns-clause-no_word c = refl

pub returns-clause-one_word : goal.returns-clause-one_word
unfolding digits split_at_first number_from onward steps_judged
returns-clause-one_word c = refl

pub returns-clause-leading_zero : goal.returns-clause-leading_zero
unfolding digits split_at_first number_from onward steps_judged
returns-clause-leading_zero c = refl

pub returns-clause-unended : goal.returns-clause-unended
unfolding digits split_at_first number_from onward steps_judged
returns-clause-unended c = refl

pub returns-clause-other_ring : goal.returns-clause-other_ring
unfolding digits split_at_first number_from onward steps_judged
returns-clause-other_ring c = refl

pub returns-clause-ring_first : goal.returns-clause-ring_first
unfolding digits split_at_first number_from onward steps_judged
returns-clause-ring_first c = refl

pub returns-clause-bad_word : goal.returns-clause-bad_word
unfolding digits split_at_first number_from onward steps_judged
returns-clause-bad_word c = refl

pub returns-clause-at_edge : goal.returns-clause-at_edge
unfolding digits split_at_first number_from onward steps_judged
returns-clause-at_edge c = refl

pub returns-clause-nothing_read : goal.returns-clause-nothing_read
unfolding digits split_at_first number_from onward steps_judged
returns-clause-nothing_read c = refl

pub returns-clause-nothing_stored : goal.returns-clause-nothing_stored
unfolding digits split_at_first number_from onward steps_judged
returns-clause-nothing_stored c = refl

pub returns-clause-nothing_to_release : goal.returns-clause-nothing_to_release
unfolding digits split_at_first number_from onward steps_judged
returns-clause-nothing_to_release c = refl

pub returns-clause-in_a_frame : goal.returns-clause-in_a_frame
unfolding digits split_at_first number_from onward steps_judged
returns-clause-in_a_frame c = refl

pub returns-clause-closed : goal.returns-clause-closed
unfolding digits split_at_first number_from onward steps_judged
returns-clause-closed c = refl
