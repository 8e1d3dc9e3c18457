-- What the visits of a round do.
use Rattle.std.specs.Prelude.{◌≡◌, ℕ, ◌≢◌, ◌+◌, ◌<◌, ◌≤◌, Bool, true, false, List, [], ◌++◌, length, slice_get, slice_set, Some, if◌then◌else◌}
use Rattle.std.specs.List.{AllZip}
use Rattle.roaming_consumer.specs.declared.visit.Visit.{Visit}
use Rattle.roaming_consumer.specs.declared.visit.Visit.TheVariants as visits
use Rattle.checkpoint_io.specs.Blocks.{close_bytes}
use Rattle.roaming_consumer.specs.Roamers.{roamer_version, is_marked, IsSameRun}
use Rattle.log_ends.specs.declared.consumer.ConsumerEnd.{ConsumerEnd}
use Rattle.log_ends.specs.declared.part_end.PartEnd.{PartEnd}
use Rattle.log_ends.specs.PartEnds.{is_part_over}
use Rattle.log_ends.specs.Consumers.{HasPut, consumer_ends, next_writer, waiting, HasGiven, IsAllGiven, is_over, is_ending, earlier_stamp, EndGoesOn, FoundNone, ServesNext, ClosesNext}

-- What a visit of a writer answers, of what its end was and is, and of the bytes that wait then: calls were taken, and
-- bytes wait; it had none, and none wait; or it has ended.
abbrev pub VisitAnswers : Visit → PartEnd → PartEnd → List ℕ → Type 0
VisitAnswers (visits.Wrote n) before after bytes = (bytes ≡ []) → ⊥
VisitAnswers visits.Idle before after bytes = FoundNone before after × (is_part_over after ≡ false) × (bytes ≡ [])
VisitAnswers visits.Ended before after bytes = FoundNone before after × (is_part_over after ≡ true)
VisitAnswers (visits.Discarded n) before after bytes = ⊥

-- the same place among the parts
pub record IsSamePart (old new : ConsumerEnd) : Type 0 where
  pub ending : is_ending new ≡ is_ending old
  pub earlier : earlier_stamp new ≡ earlier_stamp old

-- A visit of one writer: its end goes on, all others stay. What is written waits.
pub record IsVisited (old : ConsumerEnd) (writer : ℕ) (answer : Visit) (new : ConsumerEnd) : Type 0 where
  pub before : PartEnd
  pub after : PartEnd
  pub was : slice_get (consumer_ends old) writer ≡ Some before
  pub now : consumer_ends new ≡ slice_set (consumer_ends old) writer after
  pub goes_on : EndGoesOn before after
  pub answers : VisitAnswers answer before after (waiting new)
  pub stands : (wrote : List ℕ) → HasPut old.roamer wrote → HasPut new.roamer (wrote ++ waiting new)
  pub again : is_part_over before ≡ true → answer ≡ visits.Ended
  pub marked : answer ≡ visits.Ended → is_marked new.roamer writer ≡ true
  pub mark : answer ≡ visits.Ended
      → waiting new ≡ (if is_marked old.roamer writer then [] else close_bytes (roamer_version old.roamer) writer)
  pub kept : (other : ℕ) → is_marked old.roamer other ≡ true → is_marked new.roamer other ≡ true
  pub others : (other : ℕ) → other ≢ writer → is_marked new.roamer other ≡ is_marked old.roamer other
  pub same_run : IsSameRun old.roamer new.roamer
  pub same_place : (new.writers ≡ old.writers) × (new.next ≡ old.next)
  pub same_over : is_over new ≡ is_over old
  pub same_part : IsSamePart old new

-- Bytes wait of this writer. It is the first one in a row that had any: those in front of it had no frame, and those
-- behind it weren't visited. The next search begins behind it.
pub record StopsAtWriter (old : ConsumerEnd) (first writer : ℕ) (new : ConsumerEnd) : Type 0 where
  pub there : writer < length (consumer_ends new)
  pub ahead : first ≤ writer
  pub passed : (other : ℕ) (before after : PartEnd) → first ≤ other → other < writer
      → slice_get (consumer_ends old) other ≡ Some before
      → slice_get (consumer_ends new) other ≡ Some after
      → FoundNone before after
  pub behind : (other : ℕ) → writer < other
      → slice_get (consumer_ends new) other ≡ slice_get (consumer_ends old) other
  pub next : next_writer new ≡ writer + 1
  pub closes : is_ending old ≡ true → ClosesNext old new first writer (waiting new)

-- The writers from the first one on were visited, up to one of which bytes wait. All ends go on, and what was written waits.
pub record Passes (old : ConsumerEnd) (first : ℕ) (all_ended : Bool) (new : ConsumerEnd) : Type 0 where
  pub ends : AllZip EndGoesOn (consumer_ends old) (consumer_ends new)
  pub stands : (wrote : List ℕ) → HasPut old.roamer wrote → HasPut new.roamer (wrote ++ waiting new)
  pub below : (writer : ℕ) → writer < first
      → slice_get (consumer_ends new) writer ≡ slice_get (consumer_ends old) writer
  -- where none wait, none of these writers had a frame, and the answer is whether all of them have ended
  pub found : waiting new ≡ [] → (writer : ℕ) (before after : PartEnd) → first ≤ writer
      → slice_get (consumer_ends old) writer ≡ Some before
      → slice_get (consumer_ends new) writer ≡ Some after
      → FoundNone before after
  pub stopped : ¬ (waiting new ≡ []) → (writer : ℕ) × StopsAtWriter old first writer new
  pub same_next : waiting new ≡ [] → next_writer new ≡ next_writer old
  pub over : all_ended ≡ true → (waiting new ≡ [])
      × ((writer : ℕ) → first ≤ writer → writer < length (consumer_ends new) → is_marked new.roamer writer ≡ true)
  pub some_open : all_ended ≡ false → waiting new ≡ []
      → (writer : ℕ) × (end : PartEnd) × (slice_get (consumer_ends new) writer ≡ Some end) × (is_part_over end ≡ false)
  pub same_run : IsSameRun old.roamer new.roamer
  pub same_over : is_over new ≡ is_over old
  pub same_part : IsSamePart old new

-- Bytes wait, or no writer had a frame and it is told whether all is over. What was given stays the front of what is there.
pub record Seeks (old : ConsumerEnd) (at_end : Bool) (new : ConsumerEnd) : Type 0 where
  pub ends : AllZip EndGoesOn (consumer_ends old) (consumer_ends new)
  pub stands : (given : List ℕ) → HasGiven old given → HasGiven new given
  pub found : waiting new ≡ [] → AllZip FoundNone (consumer_ends old) (consumer_ends new)
  pub waited : ¬ (waiting old ≡ []) → new ≡ old
  pub served : waiting old ≡ [] → is_ending old ≡ false → ¬ (waiting new ≡ []) → ServesNext old new
  pub closed : waiting old ≡ [] → is_ending old ≡ true → ¬ (waiting new ≡ [])
      → (writer : ℕ) × ClosesNext old new 0 writer (waiting new) × (next_writer new ≡ next_writer old)
  pub same_next : waiting new ≡ [] → next_writer new ≡ next_writer old
  pub over : at_end ≡ true → IsAllGiven new
  pub some_open : at_end ≡ false → waiting new ≡ []
      → (writer : ℕ) × (end : PartEnd) × (slice_get (consumer_ends new) writer ≡ Some end) × (is_part_over end ≡ false)
  pub same_run : IsSameRun old.roamer new.roamer
  pub same_over : is_over new ≡ is_over old
  pub same_part : IsSamePart old new
