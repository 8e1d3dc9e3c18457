-- How the words of a stream are kept.
use Rattle.std.specs.Prelude.{◌≤◌}
use Rattle.session_options.specs.declared.limits.TheConstants.{MAX_RING}
use Rattle.ring_machine.specs.declared.track.Track.TheInside.{Inside}
use Rattle.ring_machine.specs.Streams.{walk}
use Rattle.ring_machine.specs.Reaches.{IsReach}
use Rattle.ring_machine.specs.Tracks.{Tracked, tracked}

abbrev pub track_of : Inside → Tracked
track_of s = tracked s.size s.words.items

-- the reach is that of the words
pub record IsTrack (s : Inside) : Type 0 where
  pub least : 1 ≤ s.size
  pub most : s.size ≤ MAX_RING
  pub reach : IsReach (walk s.size s.words.items) s.reach
