-- Rings as their users see them.
use Rattle.std.specs.Prelude.{ℕ, List, length, replicate}
use Rattle.ring_machine.specs.declared.view.RingView.{RingView}
use Rattle.ring_machine.specs.RingStates.{RingState, new_ring, written, taken, sent, got, has_ended}

-- so many new rings of so many words
abbrev pub new_rings : ℕ → ℕ → List RingState
new_rings count size = replicate count (new_ring size)

-- what is shown of a ring
abbrev pub view_of : RingState → RingView
view_of s = record {
  written = (written s).at;
  published = s.published;
  released = s.released;
  seen = s.writer.seen;
  loaded = s.roamer.loaded;
  read = (taken s).at;
  sent = length (sent s);
  got = length (got s);
  closed = s.closed;
  ended = has_ended s;
}
