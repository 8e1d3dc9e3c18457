use Rattle.std.proofs.Common.{rules, ◌≡◌, ◌≤◌, map, sym, subst, ap, arith}
use Rattle.std.proofs.lemmas.Grind.{common_steps}
use Rattle.arg_records.specs.Frames.{FrameLen}
use Rattle.ring_core.specs.Plans.{AreFramesOf}
use Rattle.log_session.specs.Writers.{WriterView, Knows}
use Rattle.log_session.proofs.Logging.{known_arguments, may_log, accepts_more}
use Rattle.log_session.proofs.writer.Writer.log.Goals as goal

pub frame_words-requires-clause-arguments : goal.frame_words-requires-clause-arguments
frame_words-requires-clause-arguments g c =
    let known : Knows (g.S.StageIn.plan c.self.inside.end) c.args.id (map g.A.Argument.value c.args.args.now) = let e = c.self.view_is in let k = c.requires.known in search rules in
    known_arguments (g.S.StageIn.plan c.self.inside.end) c.args.id (map g.A.Argument.value c.args.args.now) c.self.invariant.0.planned known

pub offer-offered-requires-clause-call : goal.offer-offered-requires-clause-call
offer-offered-requires-clause-call g c =
    let args = map g.A.Argument.value c.args.args.now in
    let made = c.in-Ok.ensures in
    let short : FrameLen args ≤ 512 = grind (arith, common_steps, made.too_long.1) in (
      c.args.id,
      args,
      made.ok.1,
      may_log g.S.StageIn.plan _ _ c.args.stamp c.args.id args c.self.view_is c.self.invariant.0.planned c.requires.known c.requires.not_before made.bytes c.ranges.stamp.fits short,
    )

pub returns-clause-accepted : goal.returns-clause-accepted
returns-clause-accepted g c =
    let args = map g.A.Argument.value c.args.args.now in
    let made = c.in-Ok.ensures in
    let offered = c.in_default-offered.ensures in
    let same : c.args.self.now.end ≡ c.self.inside.end = sym (ap (λ (w : WriterView g.row.S.Denot). w.end) c.self.view_is) in
    let short : FrameLen args ≤ 512 = grind (arith, common_steps, made.too_long.1) in
    let may = may_log g.S.StageIn.plan _ _ c.args.stamp c.args.id args c.self.view_is c.self.invariant.0.planned c.requires.known c.requires.not_before made.bytes c.ranges.stamp.fits short in
    λ calls frames. accepts_more _ _ _ _ _ _ _ _ c.args.stamp c.args.id args c.self.invariant.0 may offered.same.same_plan
    (rw made.ok.1 at offered.ok) calls
    (subst (λ (end : g.row.S.Denot). AreFramesOf (g.S.StageIn.plan end) (g.S.StageIn.sent end) calls) same frames)
