-- What a consumer stands for, and what a pump does.
use Rattle.std.specs.Prelude.{◌≡◌, ◌≢◌, ◌⊎◌, ◌↔◌, ℕ, ◌+◌, ◌-◌, ◌<◌, ◌≤◌, nat_le, if◌then◌else◌, ⊤, Bool, true, false, List, [], ◌++◌, length, take, drop, slice_get, Some, max}
use Rattle.std.specs.List.{AllZip}
use Rattle.nl_io.specs.Count.{Rose}
use Rattle.checkpoint_io.specs.Blocks.{all_records, close_bytes}
use Rattle.checkpoint_io.specs.Logs.{greatest_stamp}
use Rattle.ring_core.specs.Plans.{BeginsWith}
use Rattle.roaming_consumer.specs.declared.roamer.Roamer.{Roamer}
use Rattle.roaming_consumer.specs.Roamers.{ends_of, roamer_version, is_marked, AreMarked, IsSameRun, RoamerStandsFor, IsClosedLogOfEnds}
use Rattle.log_ends.specs.declared.consumer.ConsumerEnd.{ConsumerEnd}
use Rattle.log_ends.specs.declared.consumer.Pumped.{Pumped}
use Rattle.log_ends.specs.declared.consumer.Pumped.TheVariants as pumped
use Rattle.log_ends.specs.declared.part_end.PartEnd.{PartEnd}
use Rattle.log_ends.specs.Backlogs.{held_back}
use Rattle.log_ends.specs.PartEnds.{part_frames, is_part_over}

-- the roamer's calls have put these bytes since the part began
abbrev pub HasPut : Roamer PartEnd → List ℕ → Type 0
HasPut roamer wrote = RoamerStandsFor part_frames is_part_over roamer wrote

-- the roamer's ends of the rings, by the numbers of their writers
abbrev pub consumer_ends : ConsumerEnd → List PartEnd
consumer_ends consumer = ends_of consumer.roamer

-- the bytes that weren't given
abbrev pub waiting : ConsumerEnd → List ℕ
waiting consumer = held_back consumer.backlog

-- These bytes were given of the part so far. With those that wait behind them they are the log of the calls whose frames
-- were taken since it began.
abbrev pub HasGiven : ConsumerEnd → List ℕ → Type 0
HasGiven consumer given = HasPut consumer.roamer (given ++ waiting consumer)

-- the part has the close mark of each writer, and all of it was given
abbrev pub IsAllGiven : ConsumerEnd → Type 0
IsAllGiven consumer = AreMarked consumer.roamer × (waiting consumer ≡ [])

-- it was told so of the last part
abbrev pub is_over : ConsumerEnd → Bool
is_over consumer = consumer.over

-- the part is being ended
abbrev pub is_ending : ConsumerEnd → Bool
is_ending consumer = consumer.ending

-- the greatest stamp of a call in the parts before, and 0 where there is none
abbrev pub earlier_stamp : ConsumerEnd → ℕ
earlier_stamp consumer = consumer.earlier

-- the writer at whose ring the next search begins, or behind the last one
abbrev pub next_writer : ConsumerEnd → ℕ
next_writer consumer = consumer.next

-- ---- the ends of the rings

-- An end stays one of the same part of its ring, and frames came behind those that were taken before.
pub record EndGoesOn (before after : PartEnd) : Type 0 where
  pub same_ring : after.out.pair ≡ before.out.pair
  pub same_part : after.earlier ≡ before.earlier
  pub same_hold : after.held ≡ before.held
  pub same_plan : after.out.plan ≡ before.out.plan
  pub loads_never_fall : before.out.loads ≤ after.out.loads
  pub front : BeginsWith (part_frames after) (part_frames before)

-- No frame was there: no more go into the part, or it was looked for one.
pub record FoundNone (before after : PartEnd) : Type 0 where
  pub none : part_frames after ≡ part_frames before
  pub looked : (is_part_over after ≡ true) ⊎ Rose before.out.loads after.out.loads

-- The next part begins behind the frames that were taken in the one before, of the same ring.
pub record EndBeginsPart (before after : PartEnd) : Type 0 where
  pub same_ring : after.out.pair ≡ before.out.pair
  pub same_plan : after.out.plan ≡ before.out.plan
  pub behind : after.earlier ≡ before.earlier + length (part_frames before)
  pub none : part_frames after ≡ []
  pub open_part : after.held ≡ false

-- the ends are of the same rings
abbrev pub SameRings : List PartEnd → List PartEnd → Type 0
SameRings old new = AllZip (λ before after. after.out.pair ≡ before.out.pair) old new

-- ---- a search

-- who goes round from the first on comes by this writer before the other
abbrev pub ComesSooner : ℕ → ℕ → ℕ → Type 0
ComesSooner first writer other =
    ((first ≤ writer) × (writer < other)) ⊎ ((other < first) × ((first ≤ writer) ⊎ (writer < other)))

-- how many writers of so many one comes by before this one, going round from the first on
abbrev pub turns_before : ℕ → ℕ → ℕ → ℕ
turns_before count first writer =
    if nat_le first writer then writer - first else count + writer - first

-- The search went round from the writer that was next, and stopped at this one, of which the bytes are. All writers by
-- which it came before had no frame, and none was taken of any other. The next search begins behind this one.
pub record ServesNext (old new : ConsumerEnd) : Type 0 where
  pub writer : ℕ
  pub there : writer < length (consumer_ends new)
  pub passed : (other : ℕ) (before after : PartEnd) → ComesSooner (next_writer old) other writer
      → slice_get (consumer_ends old) other ≡ Some before
      → slice_get (consumer_ends new) other ≡ Some after
      → FoundNone before after
  pub alone : (other : ℕ) (before after : PartEnd) → other ≢ writer
      → slice_get (consumer_ends old) other ≡ Some before
      → slice_get (consumer_ends new) other ≡ Some after
      → part_frames after ≡ part_frames before
  pub next : next_writer new ≡ writer + 1

-- The close mark was written of this writer: the first one that had none in the part.
pub record ClosesNext (old new : ConsumerEnd) (first writer : ℕ) (bytes : List ℕ) : Type 0 where
  pub below : (other : ℕ) → first ≤ other → other < writer → is_marked old.roamer other ≡ true
  pub unmarked : is_marked old.roamer writer ≡ false
  pub marked : is_marked new.roamer writer ≡ true
  pub mark : bytes ≡ close_bytes (roamer_version old.roamer) writer

-- ---- a pump

-- how many bytes were given
abbrev pub given_count : Pumped → ℕ
given_count (pumped.Gave n) = n
given_count pumped.NoRoom = 0
given_count pumped.Nothing = 0
given_count pumped.PartOver = 0
given_count pumped.AtEnd = 0

-- where bytes were given, this holds of their number
abbrev pub IfGave : Pumped → (ℕ → Type 0) → Type 0
IfGave (pumped.Gave n) P = P n
IfGave pumped.NoRoom P = ⊤
IfGave pumped.Nothing P = ⊤
IfGave pumped.PartOver P = ⊤
IfGave pumped.AtEnd P = ⊤

-- Where bytes waited, no ring was looked into. Else the bytes are of the writer whose turn it was, of those that had
-- any; or they are the next close mark of a part that is being ended, which changes no turn.
pub record TakesTurns (old : ConsumerEnd) (answer : Pumped) (new : ConsumerEnd) (bytes : List ℕ) : Type 0 where
  pub waited : ¬ (waiting old ≡ []) → (consumer_ends new ≡ consumer_ends old) × (next_writer new ≡ next_writer old)
  pub served : waiting old ≡ [] → is_ending old ≡ false → IfGave answer (λ n. ServesNext old new)
  pub closed : waiting old ≡ [] → is_ending old ≡ true
      → IfGave answer (λ n. (writer : ℕ) × ClosesNext old new 0 writer (bytes ++ waiting new)
      × (next_writer new ≡ next_writer old))
  pub none : given_count answer ≡ 0 → next_writer new ≡ next_writer old

-- These bytes come behind those that were given before of the same part.
pub record GivesMore (old new : ConsumerEnd) (bytes : List ℕ) : Type 0 where
  pub more : (given : List ℕ) → HasGiven old given → HasGiven new (given ++ bytes)
  pub ends : AllZip EndGoesOn (consumer_ends old) (consumer_ends new)
  pub same_ending : is_ending new ≡ is_ending old
  pub same_earlier : earlier_stamp new ≡ earlier_stamp old

-- Nothing waits: in this call no ring had a frame, nothing was held back, and some writer has not ended.
pub record WaitsForCalls (old new : ConsumerEnd) : Type 0 where
  pub none : waiting new ≡ []
  pub found : AllZip FoundNone (consumer_ends old) (consumer_ends new)
  pub one_open : (writer : ℕ) × (end : PartEnd) × (slice_get (consumer_ends new) writer ≡ Some end)
      × (is_part_over end ≡ false)

-- What was given of the part that was being ended is a log of all calls that were taken since it began, with the close mark
-- of each writer, and its stamps count among those of the parts before. The next part has begun: nothing was given of it,
-- and it is of the calls that are taken from now on.
pub record GoesToNextPart (old new : ConsumerEnd) : Type 0 where
  pub ended : is_ending old ≡ true
  pub whole : (given : List ℕ) → HasGiven old given → (part : IsClosedLogOfEnds part_frames old.roamer given)
      × (earlier_stamp new ≡ max (earlier_stamp old) (greatest_stamp (all_records part.log.blocks)))
  pub anew : HasGiven new []
  pub ends : AllZip EndBeginsPart (consumer_ends old) (consumer_ends new)
  pub open_part : is_ending new ≡ false

-- What a pump answers, and what it leaves.
pub record Pumps (old : ConsumerEnd) (into : List ℕ) (answer : Pumped) (new : ConsumerEnd) (into_after : List ℕ)
    : Type 0 where
  -- At least one byte was given, and as many as fit or were there. They are the front of the room.
  pub gave : IfGave answer (λ n. (1 ≤ n) × (n ≤ length into))
  pub rest : into_after ≡ take (given_count answer) into_after ++ drop (given_count answer) into
  pub more : answer ≢ pumped.PartOver → GivesMore old new (take (given_count answer) into_after)
  pub part_over : answer ≡ pumped.PartOver → GoesToNextPart old new
  pub no_room : (answer ≡ pumped.NoRoom) ↔ (into ≡ [])
  pub unchanged : answer ≡ pumped.NoRoom → new ≡ old
  pub nothing : answer ≡ pumped.Nothing → WaitsForCalls old new
  pub at_end : answer ≡ pumped.AtEnd → IsAllGiven new × (is_ending new ≡ false)
  -- once it is told that all is over, nothing changes any more, and it is told again
  pub told : (is_over new ≡ true) ↔ ((is_over old ≡ true) ⊎ (answer ≡ pumped.AtEnd))
  pub again : is_over old ≡ true → (new ≡ old) × ((answer ≡ pumped.AtEnd) ⊎ (answer ≡ pumped.NoRoom))
  -- no ring is passed over while others are served
  pub turns : TakesTurns old answer new (take (given_count answer) into_after)
  -- the same run, of the same rings
  pub rings : SameRings (consumer_ends old) (consumer_ends new)
  pub same_run : IsSameRun old.roamer new.roamer
