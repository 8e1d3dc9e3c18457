use Rattle.std.proofs.Common.{◌≡◌, length}
use Rattle.std.specs.List.{AllZip}
use Rattle.ring_core.specs.Plans.{plan_of}
use Rattle.log_session.specs.Starts.{IsNewRing}
use Rattle.log_session.proofs.starting.open_rings.Given as goal

abbrev pub invariant-loop : goal.invariant-loop
invariant-loop g l =
    (length l.ours.items ≡ l.counter)
    × AllZip (IsNewRing l.ring (plan_of l.messages l.first) g.S.In.StageIn.pair g.S.In.StageIn.words g.S.In.StageIn.plan g.S.In.StageIn.sent g.S.In.StageIn.closed g.S.In.StageIn.at g.S.In.StageIn.seen g.S.Out.StageOut.pair g.S.Out.StageOut.plan g.S.Out.StageOut.got g.S.Out.StageOut.ended) l.ours.items l.theirs.items
