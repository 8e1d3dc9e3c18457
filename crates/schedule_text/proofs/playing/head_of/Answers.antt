use Rattle.std.proofs.Common.{refl}
use Rattle.schedule_text.proofs.Judging.{front_is, head_steps}
use Rattle.schedule_text.proofs.playing.head_of.Goals as goal

pub returns-clause-steps : goal.returns-clause-steps
returns-clause-steps c =
    head_steps c.args.text.now c.in-Some.rest.now _ c.in-Some-read_sizes.rings c.in-Some-read_sizes.words c.in-Some-read_sizes.steps.now
    (front_is c.args.text.now c.in-Some.rest.now c.in-Some.ensures.cases.0 c.in-Some.ensures.cases.1) c.in-Some-read_sizes.ensures refl
