use Rattle.std.proofs.Common.{ap, sym, take, ◌∙◌}
use Rattle.checkpoint_io.proofs.StepLaws.{number_stands}
use Rattle.checkpoint_io.proofs.steps.take_number.Goals as goal

pub returns-clause-read : goal.returns-clause-read
returns-clause-read g c =
    number_stands c.args.size c.first_number-number.result c.args.pending.now c.fill.new.self c.skip.new.self _ _ c.first_number-number.ensures.fits c.in_ok-fill.ensures.same c.fill.ensures.offset (ap (take c.args.size) (sym c.bytes.ensures.same) ∙ c.first_number-number.ensures.first) c.skip.ensures.bytes c.skip.ensures.offset
