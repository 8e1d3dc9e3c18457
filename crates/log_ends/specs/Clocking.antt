-- What becomes of a clock that a consumer is told.
use Rattle.std.specs.Prelude.{◌≡◌, ◌↔◌, ℕ, ◌≤◌, List, Result, Err, OnOk, OnErr, max}
use Rattle.log_dictionary.specs.declared.clock.Clock.{Clock}
use Rattle.log_dictionary.specs.Clocks.{FollowsClocks}
use Rattle.roaming_consumer.specs.declared.clocks.ClockRefusal.{ClockRefusal}
use Rattle.roaming_consumer.specs.declared.clocks.ClockRefusal.TheVariants as refusals
use Rattle.roaming_consumer.specs.Roamers.{roamer_clocks, roamer_progress, AddsClock}
use Rattle.log_ends.specs.declared.consumer.ConsumerEnd.{ConsumerEnd}
use Rattle.log_ends.specs.Consumers.{HasGiven, is_over, is_ending, earlier_stamp, next_writer}

-- The clock is told from now on, or the roamer is as it was: the first of the two causes that holds is answered. A call
-- has reached it where one of this part or of those before has a stamp at or above its tick. Either way
-- the bytes that were given stay the front of a log of the calls that were taken, and all but the roamer is as it was.
pub record TakesClock (old : ConsumerEnd) (clock : Clock) (outcome : Result (Unit {0}) ClockRefusal) (new : ConsumerEnd)
    : Type 0 where
  pub ok : OnOk outcome (AddsClock old.roamer clock new.roamer)
  pub err : OnErr outcome (new.roamer ≡ old.roamer)
  pub misfit : (outcome ≡ Err refusals.Misfit) ↔ (¬ (FollowsClocks (roamer_clocks old.roamer) clock))
  pub reached : (outcome ≡ Err refusals.Reached)
      ↔ (FollowsClocks (roamer_clocks old.roamer) clock × (clock.tick ≤ max (earlier_stamp old) (roamer_progress old.roamer).latest))
  pub stands : (given : List ℕ) → HasGiven old given → HasGiven new given
  pub same_backlog : new.backlog ≡ old.backlog
  pub same_writers : new.writers ≡ old.writers
  pub same_next : next_writer new ≡ next_writer old
  pub same_over : is_over new ≡ is_over old
  pub same_ending : is_ending new ≡ is_ending old
  pub same_earlier : earlier_stamp new ≡ earlier_stamp old
