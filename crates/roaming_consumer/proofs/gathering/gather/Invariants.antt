use Rattle.std.proofs.Common.{◌≡◌, ◌≤◌, true}
use Rattle.roaming_consumer.specs.Gathering.{DraftsFrames}
use Rattle.roaming_consumer.proofs.gathering.gather.Given as goal

abbrev pub invariant-loop-taken : goal.invariant-loop-taken
invariant-loop-taken g l = record {
  gathers : DraftsFrames l.dictionary l.tick (g.S.StageOut.got l.fn.end) (g.S.StageOut.got l.end) l.draft l.body;
  records : l.draft.records ≡ l.taken;
  fresh : l.taken ≡ 0 → l.end ≡ l.fn.end;
  going : g.S.StageOut.ended l.fn.end ≡ true → l.taken ≡ 0;
  loads : g.S.StageOut.loads l.fn.end ≤ g.S.StageOut.loads l.end;
  same_pair : g.S.StageOut.pair l.end ≡ g.S.StageOut.pair l.fn.end;
  same_plan : g.S.StageOut.plan l.end ≡ g.S.StageOut.plan l.fn.end;
}
