use Rattle.std.proofs.Common.{◌≡◌, ◌+◌, ◌-◌, ◌≤◌, vec_len, length}
use Rattle.nl_io.specs.Content.{Came}
use Rattle.nl_io.proofs.source.read_to_limit.Given as goal

abbrev pub invariant-loop-piece : goal.invariant-loop-piece
invariant-loop-piece g l = record {
  room : length l.piece ≡ 65536;
  came : Came l.bytes.items (g.S.Source.left l.fn.source) (g.S.Source.left l.source);
  counted : g.S.Source.faults l.source ≡ g.S.Source.faults l.fn.source;
  within : vec_len l.bytes ≤ l.limit + 65536;
  others : g.S.Source.rest l.fn.source l.source;
}

abbrev pub decreases-loop-piece : goal.decreases-loop-piece
decreases-loop-piece g l = l.limit + 1 - vec_len l.bytes
