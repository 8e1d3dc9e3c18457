use Rattle.std.proofs.Common.{refl}
use Rattle.std.specs.Fmt.{digits}
use Rattle.log_dictionary.specs.Fields.{split_at_first}
use Rattle.log_dictionary.specs.Numbers.{number_from}
use Rattle.ring_machine.specs.Streams.{onward}
use Rattle.schedule_text.specs.Judged.{steps_judged}
use Rattle.schedule_text.proofs.laws.a_frame_goes_through_a_ring.Goals as goal

pub returns : goal.returns
unfolding digits split_at_first number_from onward steps_judged
returns c = refl
