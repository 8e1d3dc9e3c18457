-- How a part of the log ends, and the next one begins.
use Rattle.std.specs.Prelude.{◌≡◌, ◌↔◌, ℕ, true, false, List, [], Result, Err, OnOk, OnErr, max}
use Rattle.std.specs.List.{AllZip}
use Rattle.roaming_consumer.specs.Roamers.{roamer_progress, IsSameRun, KeepsLog}
use Rattle.log_ends.specs.declared.consumer.ConsumerEnd.{ConsumerEnd}
use Rattle.log_ends.specs.declared.parting.PartRefusal.{PartRefusal}
use Rattle.log_ends.specs.declared.parting.PartRefusal.TheVariants as refusals
use Rattle.log_ends.specs.PartEnds.{EndsPart, BeginsPart}
use Rattle.log_ends.specs.Consumers.{consumer_ends, HasGiven, next_writer, is_over, is_ending, earlier_stamp}

-- all else of a consumer than its ends is as it was, and whether a part is being ended
pub record KeepsPlace (old new : ConsumerEnd) : Type 0 where
  pub same_log : KeepsLog old.roamer new.roamer
  pub same_backlog : new.backlog ≡ old.backlog
  pub same_writers : new.writers ≡ old.writers
  pub same_next : next_writer new ≡ next_writer old
  pub same_over : is_over new ≡ is_over old
  pub same_earlier : earlier_stamp new ≡ earlier_stamp old

-- The part is being ended from now on, or the consumer is as it was: the first of the two causes that holds is answered.
-- Either way the bytes that were given stay the front of the part.
pub record EndsLog (old : ConsumerEnd) (outcome : Result (Unit {0}) PartRefusal) (new : ConsumerEnd) : Type 0 where
  pub ok : OnOk outcome (is_ending new ≡ true)
  pub ends : OnOk outcome (AllZip EndsPart (consumer_ends old) (consumer_ends new))
  pub kept : OnOk outcome (KeepsPlace old new)
  pub err : OnErr outcome (new ≡ old)
  pub at_end : (outcome ≡ Err refusals.AtEnd) ↔ (is_over old ≡ true)
  pub ending : (outcome ≡ Err refusals.Ending) ↔ ((is_over old ≡ false) × (is_ending old ≡ true))
  pub stands : (given : List ℕ) → HasGiven old given → HasGiven new given

-- The next part has begun, of which nothing was given.
pub record BeginsLog (old new : ConsumerEnd) : Type 0 where
  pub ends : AllZip BeginsPart (consumer_ends old) (consumer_ends new)
  pub open_part : is_ending new ≡ false
  pub anew : HasGiven new []
  pub earlier : earlier_stamp new ≡ max (earlier_stamp old) (roamer_progress old.roamer).latest
  pub same_run : IsSameRun old.roamer new.roamer
  pub same_next : next_writer new ≡ next_writer old
  pub same_over : is_over new ≡ is_over old
