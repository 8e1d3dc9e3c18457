use Rattle.std.proofs.Common.{◌≡◌, ◌-◌, length}
use Rattle.checkpoint_io.specs.Places.{with_front}
use Rattle.checkpoint_io.proofs.fragment_reading.next_message.Given as goal

abbrev pub invariant-loop-message : goal.invariant-loop-message
invariant-loop-message g l = record {
  same : with_front l.pending.bytes (g.S.Source.left l.source) ≡ with_front l.fn.pending.bytes (g.S.Source.left l.fn.source);
  offset : l.pending.offset ≡ l.fn.pending.offset;
  counted : g.S.Source.faults l.source ≡ g.S.Source.faults l.fn.source;
  others : g.S.Source.rest l.fn.source l.source;
}

abbrev pub decreases-loop-message : goal.decreases-loop-message
decreases-loop-message g l = 4359 - length l.pending.bytes
