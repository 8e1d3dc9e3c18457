use Rattle.std.proofs.Common.{◌≡◌, ◌-◌, length}
use Rattle.checkpoint_io.specs.Places.{with_front}
use Rattle.checkpoint_io.proofs.pending.Pending.fill.Given as goal

abbrev pub invariant-loop-self : goal.invariant-loop-self
invariant-loop-self g l = record {
  same : with_front l.self.bytes (g.S.Source.left l.source) ≡ with_front l.fn.self.bytes (g.S.Source.left l.fn.source);
  offset : l.self.offset ≡ l.fn.self.offset;
  counted : g.S.Source.faults l.source ≡ g.S.Source.faults l.fn.source;
  others : g.S.Source.rest l.fn.source l.source;
}

abbrev pub decreases-loop-self : goal.decreases-loop-self
decreases-loop-self g l = l.want - length l.self.bytes
