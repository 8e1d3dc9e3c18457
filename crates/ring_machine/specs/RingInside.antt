-- How a ring is kept.
use Rattle.std.specs.Prelude.{◌≡◌, ◌≤◌, length}
use Rattle.session_options.specs.declared.limits.TheConstants.{MAX_RING}
use Rattle.ring_machine.specs.declared.ring.Ring.TheInside.{Inside}
use Rattle.ring_machine.specs.RingStates.{RingState, RingOk, sent}

abbrev pub ring_state : Inside → RingState
ring_state r = record {
  size = r.size;
  published = r.published;
  closed = r.closed;
  released = r.released;
  words = r.words.items;
  writer = record {
    stream = r.stored.words;
    seen = r.seen;
    published = r.published;
    closed = r.closed;
    looks = r.looks;
    steps = r.writer_steps;
  };
  roamer = record {
    stream = r.read.words;
    loaded = r.loaded;
    learnt = r.learnt;
    released = r.released;
    loads = r.loads;
    steps = r.roamer_steps;
  };
}

-- what holds of a ring holds of it, and the frames that were sent are counted
pub record IsRing (r : Inside) : Type 0 where
  pub ok : RingOk (ring_state r)
  pub most : r.size ≤ MAX_RING
  pub stored : r.stored.size ≡ r.size
  pub read : r.read.size ≡ r.size
  pub sent : r.sent ≡ length (sent (ring_state r))
