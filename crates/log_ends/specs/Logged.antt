-- What the two ends of a ring say of one another: what is logged is in the log.
use Rattle.std.specs.Prelude.{◌≡◌, ℕ, ◌≤◌, true, false, List, ◌++◌, length, drop, slice_get, Some}
use Rattle.arg_records.specs.declared.call.Call.{Call}
use Rattle.ring_core.specs.Plans.{frames_of, BeginsWith}
use Rattle.checkpoint_io.specs.Logs.{LogOf}
use Rattle.checkpoint_io.specs.Validity.{IsClosed}
use Rattle.roaming_consumer.specs.Roamers.{roamer_messages, roamer_version, roamer_clocks, roamer_batch}
use Rattle.log_ends.specs.declared.writer.WriterEnd.{WriterEnd}
use Rattle.log_ends.specs.declared.consumer.ConsumerEnd.{ConsumerEnd}
use Rattle.log_ends.specs.declared.part_end.PartEnd.{PartEnd}
use Rattle.log_ends.specs.Writers.{ring_of, logged, is_finished}
use Rattle.log_ends.specs.Consumers.{consumer_ends, waiting, is_ending, IsAllGiven}

-- the consumer has the other end of the writer's ring, under this number
pub record IsWriterOf (writer : WriterEnd) (consumer : ConsumerEnd) (number : ℕ) : Type 0 where
  pub end : PartEnd
  pub there : slice_get (consumer_ends consumer) number ≡ Some end
  pub one_ring : end.out.pair ≡ (ring_of writer).pair

-- The consumer has taken the first of the frames of the calls that the writer logged, each once and in their order.
-- Where its end has ended the writer is finished, and these are all.
pub record TakesLogged (writer : WriterEnd) (consumer : ConsumerEnd) (number : ℕ) : Type 0 where
  pub end : PartEnd
  pub there : slice_get (consumer_ends consumer) number ≡ Some end
  pub front : BeginsWith (logged writer) end.out.got
  pub finished : end.out.ended ≡ true → is_finished writer ≡ true
  pub all : end.out.ended ≡ true → end.out.got ≡ logged writer

-- These bytes were given of the part so far, and with those that wait behind them they are a log. What it has of this
-- writer are the first of the calls that it logged behind those of the parts before, each once, unchanged and in their
-- order. Where all is given the part has the writer's close mark; and all of these calls, and the writer is finished, but
-- where the part was ended while more may be logged.
pub record IsInLog (writer : WriterEnd) (consumer : ConsumerEnd) (number : ℕ) (given : List ℕ) : Type 0 where
  pub taken : List (List Call)
  pub log : LogOf (given ++ waiting consumer) taken (roamer_messages consumer.roamer) (roamer_version consumer.roamer)
      (roamer_clocks consumer.roamer) (roamer_batch consumer.roamer)
  pub calls : List Call
  pub there : slice_get taken number ≡ Some calls
  pub end : PartEnd
  pub of_end : slice_get (consumer_ends consumer) number ≡ Some end
  pub earlier : end.earlier ≤ length (logged writer)
  pub front : BeginsWith (drop end.earlier (logged writer)) (frames_of calls)
  pub closed : IsAllGiven consumer → IsClosed number log.blocks
  pub all : IsAllGiven consumer → is_ending consumer ≡ false → drop end.earlier (logged writer) ≡ frames_of calls
  pub finished : IsAllGiven consumer → is_ending consumer ≡ false → is_finished writer ≡ true
