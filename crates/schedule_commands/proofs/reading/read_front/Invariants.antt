use Rattle.std.proofs.Common.{◌≡◌, ◌-◌, vec_len, length}
use Rattle.nl_io.specs.Content.{Came}
use Rattle.schedule_commands.proofs.reading.read_front.Given as goal

abbrev pub invariant-loop-piece : goal.invariant-loop-piece
invariant-loop-piece g l = record {
  room : length l.piece ≡ 65536;
  came : Came l.bytes.items (g.S.Source.left l.fn.source) (g.S.Source.left l.source);
  counted : g.S.Source.faults l.source ≡ g.S.Source.faults l.fn.source;
  others : g.S.Source.rest l.fn.source l.source;
}

abbrev pub decreases-loop-piece : goal.decreases-loop-piece
decreases-loop-piece g l = l.limit - vec_len l.bytes
