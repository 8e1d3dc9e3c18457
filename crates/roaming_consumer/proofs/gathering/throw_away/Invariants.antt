use Rattle.std.proofs.Common.{◌≡◌, ◌≤◌, true}
use Rattle.roaming_consumer.specs.Gathering.{FramesCame}
use Rattle.roaming_consumer.proofs.gathering.throw_away.Given as goal

abbrev pub invariant-loop-frames : goal.invariant-loop-frames
invariant-loop-frames g l = record {
  came : FramesCame (g.S.StageOut.got l.fn.end) (g.S.StageOut.got l.end) l.frames;
  fresh : l.frames ≡ 0 → l.end ≡ l.fn.end;
  going : g.S.StageOut.ended l.fn.end ≡ true → l.frames ≡ 0;
  loads : g.S.StageOut.loads l.fn.end ≤ g.S.StageOut.loads l.end;
  same_pair : g.S.StageOut.pair l.end ≡ g.S.StageOut.pair l.fn.end;
  same_plan : g.S.StageOut.plan l.end ≡ g.S.StageOut.plan l.fn.end;
}
