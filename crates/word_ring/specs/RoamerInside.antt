-- How a roamer's end keeps what it is.
use Rattle.std.specs.Prelude.{◌≡◌, ◌%◌, ◌<◌, ◌≤◌, ◌^◌, true, [], length}
use Rattle.std.specs.Arc.{arc_value}
use Rattle.word_ring.specs.declared.known.Known.{Known}
use Rattle.word_ring.specs.declared.word_out.WordOut.TheInside.{Inside}
use Rattle.word_ring.specs.Counts.{IsCount}
use Rattle.word_ring.specs.Ends.{IsTableSize, WordRoamerEnd, numbers_of}
use Rattle.word_ring.specs.Plays.{read_by}
use Rattle.word_ring.specs.Rule.{plan_in}
use Rattle.word_ring.specs.Seats.{IsSeatOf}

-- what the roamer knows
abbrev pub roamer_knows : Inside → Known
roamer_knows s = s.seat.me.0

-- what contracts see
abbrev pub roamer_end_of : Inside → WordRoamerEnd
roamer_end_of s = record {
  pair = numbers_of s.seat.table_id;
  plan = plan_in (roamer_knows s);
  words = s.size;
  got = (read_by (roamer_knows s)).frames;
  at = s.at;
  released = (roamer_knows s).roamer.released;
  loaded = s.loaded;
  learnt = s.learnt;
  ended = s.ended;
  loads = (roamer_knows s).roamer.loads;
  steps = (roamer_knows s).roamer.steps;
}

-- Between two calls no frame is read in part.
pub record IsWordRoamer (s : Inside) : Type 0 where
  pub seat : IsSeatOf s.size (arc_value s.ring) s.seat
  pub size : IsTableSize s.size
  pub told : (roamer_knows s).size ≡ s.size
  pub reads : (roamer_knows s).reads ≡ true
  pub whole : (read_by (roamer_knows s)).part ≡ []
  pub at : (read_by (roamer_knows s)).at ≡ s.at
  pub place : s.place ≡ s.at % s.size
  pub released : (roamer_knows s).roamer.released ≤ s.at
  pub loaded : (roamer_knows s).roamer.loaded ≡ s.loaded
  pub learnt : (roamer_knows s).roamer.learnt ≡ s.learnt
  pub within : s.at ≤ s.loaded
  pub range : s.loaded < 2 ^ 63
  pub ended : s.ended ≡ true → (s.learnt ≡ true) × (s.at ≡ s.loaded)
  pub loads : IsCount (roamer_knows s).roamer.loads
  pub steps : IsCount (roamer_knows s).roamer.steps
  pub frames : s.frames ≡ length (read_by (roamer_knows s)).frames
