-- The state of a ring of words between one writer and one roamer.
use Rattle.std.specs.Prelude.{◌≡◌, ◌≢◌, ℕ, ◌+◌, ◌%◌, ◌≤◌, ◌==◌, Bool, true, false, ◌&&◌, List, [], ◌∷◌, ◌++◌, length, replicate, slice_index}
use Rattle.ring_core.specs.Plans.{Plan, Lawful}
use Rattle.ring_machine.specs.declared.records.WriterRecord.{WriterRecord}
use Rattle.ring_machine.specs.declared.records.RoamerRecord.{RoamerRecord}
use Rattle.ring_machine.specs.Streams.{Walk, start, walk, IsStream, IsBegun, FrameEndsAt, WordsBeginWith, frames_up_to}

-- The producer word has the published position and the closed bit, the consumer word the released position. `size` is the
-- number of data words. Each end has a record.
pub record RingState : Type 0 where
  pub size : ℕ
  pub published : ℕ
  pub closed : Bool
  pub released : ℕ
  pub words : List ℕ
  pub writer : WriterRecord
  pub roamer : RoamerRecord

-- a writer that has stored nothing
abbrev pub new_writer : WriterRecord
new_writer = record { stream = []; seen = 0; published = 0; closed = false; looks = 0; steps = 0 }

-- a roamer that has read nothing
abbrev pub new_roamer : RoamerRecord
new_roamer = record { stream = []; loaded = 0; learnt = false; released = 0; loads = 0; steps = 0 }

-- a new ring, whose data words are 0
abbrev pub new_ring : ℕ → RingState
new_ring size = record {
  size = size;
  published = 0;
  closed = false;
  released = 0;
  words = replicate size 0;
  writer = new_writer;
  roamer = new_roamer;
}

-- what the writer has stored
abbrev pub written : RingState → Walk
written s = walk s.size s.writer.stream

-- what the roamer has read
abbrev pub taken : RingState → Walk
taken s = walk s.size s.roamer.stream

-- the whole frames below the published position
abbrev pub sent : RingState → List (List ℕ)
sent s = frames_up_to s.size s.published start s.writer.stream

-- the whole frames that were read
abbrev pub got : RingState → List (List ℕ)
got s = (taken s).frames

-- the roamer has learnt that the ring is closed, and has read all
abbrev pub has_ended : RingState → Bool
has_ended s = s.roamer.learnt && ((taken s).at == s.roamer.loaded)

-- each word of the stream that isn't released stands at its place
abbrev pub HoldsUnreleased : RingState → Type 0
HoldsUnreleased s =
    (front back : List ℕ) (word : ℕ) → s.writer.stream ≡ front ++ word ∷ back
    → s.released ≤ (walk s.size front).at
    → slice_index s.words ((walk s.size front).at % s.size) ≡ word

-- Positions follow one another: up to which the writer has seen places released, released, read, loaded by the roamer,
-- published and written. The writer is at most a lap ahead of what it has seen.
pub record PositionsInOrder (size seen released read loaded published written : ℕ) : Type 0 where
  pub seen_released : seen ≤ released
  pub released_read : released ≤ read
  pub read_loaded : read ≤ loaded
  pub loaded_published : loaded ≤ published
  pub published_written : published ≤ written
  pub room : written ≤ seen + size

-- where the closed bit is set, all that was written is published, and where the roamer has learnt it, it has loaded that
pub record BitsTell (closed learnt : Bool) (loaded published written : ℕ) : Type 0 where
  pub closed_written : closed ≡ true → written ≡ published
  pub learnt_closed : learnt ≡ true → closed ≡ true
  pub learnt_loaded : learnt ≡ true → loaded ≡ published

-- What holds of a ring at every moment.
pub record RingOk (s : RingState) : Type 0 where
  pub size : 1 ≤ s.size
  pub words : length s.words ≡ s.size
  pub order : PositionsInOrder s.size s.writer.seen s.released (taken s).at s.roamer.loaded s.published (written s).at
  -- each end knows the word that it alone stores
  pub producer : s.writer.published ≡ s.published
  pub producer_bit : s.writer.closed ≡ s.closed
  pub consumer : s.roamer.released ≡ s.released
  -- what was read is the front of what was stored, and that are frames and skips
  pub read_front : WordsBeginWith s.writer.stream s.roamer.stream
  pub frames : IsStream s.size s.writer.stream
  -- a frame that isn't stored whole has its room, and one that isn't read whole is loaded whole
  pub storing : (written s).part ≢ [] → IsBegun s.size (s.writer.seen + s.size) (written s)
  pub reading : (taken s).part ≢ [] → IsBegun s.size s.roamer.loaded (taken s)
  -- no position that is told is inside a frame or among skipped places
  pub published_end : FrameEndsAt s.size s.writer.stream s.published
  pub loaded_end : FrameEndsAt s.size s.writer.stream s.roamer.loaded
  pub released_end : FrameEndsAt s.size s.writer.stream s.released
  pub holds : HoldsUnreleased s
  pub bits : BitsTell s.closed s.roamer.learnt s.roamer.loaded s.published (written s).at

-- the frames that were stored whole are lawful, and so are those that were read
pub record RingLawful (plan : Plan) (s : RingState) : Type 0 where
  pub stored : Lawful plan (written s).frames
  pub read : Lawful plan (taken s).frames
