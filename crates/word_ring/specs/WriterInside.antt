-- How a writer's end keeps what it is.
use Rattle.std.specs.Prelude.{◌≡◌, ◌-◌, ◌%◌, ◌≤◌, true, false, []}
use Rattle.std.specs.Arc.{arc_value}
use Rattle.ring_core.specs.declared.limits.TheConstants.{MAX_POSITION}
use Rattle.word_ring.specs.declared.known.Known.{Known}
use Rattle.word_ring.specs.declared.word_in.WordIn.TheInside.{Inside}
use Rattle.word_ring.specs.Counts.{IsCount}
use Rattle.word_ring.specs.Ends.{IsTableSize, WordWriterEnd, numbers_of}
use Rattle.word_ring.specs.Plays.{written_by}
use Rattle.word_ring.specs.Rule.{plan_in}
use Rattle.word_ring.specs.Seats.{IsSeatOf}

-- what the writer knows
abbrev pub writer_knows : Inside → Known
writer_knows s = s.seat.me.0

-- what contracts see
abbrev pub writer_end_of : Inside → WordWriterEnd
writer_end_of s = record {
  pair = numbers_of s.seat.table_id;
  plan = plan_in (writer_knows s);
  words = s.size;
  sent = (written_by (writer_knows s)).frames;
  closed = (writer_knows s).writer.closed;
  at = s.at;
  ahead = s.at - (writer_knows s).writer.seen;
  looks = (writer_knows s).writer.looks;
  steps = (writer_knows s).writer.steps;
}

-- Between two calls no frame is begun, and all that was stored is published.
pub record IsWordWriter (s : Inside) : Type 0 where
  pub seat : IsSeatOf s.size (arc_value s.ring) s.seat
  pub size : IsTableSize s.size
  pub told : (writer_knows s).size ≡ s.size
  pub writes : (writer_knows s).writes ≡ true
  pub whole : (written_by (writer_knows s)).part ≡ []
  pub at : (written_by (writer_knows s)).at ≡ s.at
  pub place : s.place ≡ s.at % s.size
  pub published : (writer_knows s).writer.closed ≡ false → (writer_knows s).writer.published ≡ s.at
  pub seen : (writer_knows s).writer.seen ≤ s.at
  pub position : s.at ≤ MAX_POSITION
  pub looks : IsCount (writer_knows s).writer.looks
  pub steps : IsCount (writer_knows s).writer.steps
