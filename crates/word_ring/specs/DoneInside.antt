-- How what is left of a ring keeps what it is.
use Rattle.std.specs.Prelude.{◌≡◌, length}
use Rattle.word_ring.specs.declared.known.Known.{Known}
use Rattle.word_ring.specs.declared.word_done.WordDone.TheInside.{Inside}
use Rattle.word_ring.specs.Ends.{BothWordEnds, numbers_of}
use Rattle.word_ring.specs.Plays.{written_by, read_by}

-- what both ends know together
abbrev pub both_know : Inside → Known
both_know s = s.seat.me.0

-- what contracts see
abbrev pub both_ends_of : Inside → BothWordEnds
both_ends_of s = record {
  pair = numbers_of s.seat.table_id;
  sent = (written_by (both_know s)).frames;
  got = (read_by (both_know s)).frames;
  closed = (both_know s).writer.closed;
  ended = s.ended;
}

-- the frames that were taken are counted
pub record CountsFrames (s : Inside) : Type 0 where
  pub frames : s.frames ≡ length (read_by (both_know s)).frames
