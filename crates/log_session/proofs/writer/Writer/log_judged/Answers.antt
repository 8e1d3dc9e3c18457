use Rattle.std.proofs.Common.{◌≤◌, map, arith}
use Rattle.std.proofs.lemmas.Grind.{common_steps}
use Rattle.arg_records.specs.Frames.{FrameLen}
use Rattle.log_session.proofs.Logging.{may_log}
use Rattle.log_session.proofs.writer.Writer.log_judged.Goals as goal

pub offer-offered-requires-clause-call : goal.offer-offered-requires-clause-call
offer-offered-requires-clause-call g c =
    let args = map g.A.Argument.value c.args.args.now in
    let made = c.in-Ok.ensures in
    let short : FrameLen args ≤ 512 = grind (arith, common_steps, made.too_long.1, made.fits) in (
      c.args.id,
      args,
      made.ok.1,
      may_log g.S.StageIn.plan _ _ c.args.stamp c.args.id args c.self.view_is c.self.invariant.0.planned (c.args.types.now, c.requires.known, made.fits) c.requires.not_before made.bytes c.ranges.stamp.fits short,
    )
