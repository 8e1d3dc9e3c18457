-- What a session is when it is opened.
use Rattle.std.specs.Prelude.{◌≡◌, ℕ, ◌*◌, ◌≤◌, false, List, [], ◌∷◌, length, All}
use Rattle.std.specs.List.{AllZip}
use Rattle.log_dictionary.specs.declared.message.Message.{Message}
use Rattle.session_options.specs.declared.limits.TheConstants.{MIN_RING, MAX_RING, MAX_SESSION_WORDS, MAX_BATCH}
use Rattle.session_options.specs.declared.version.TheConstants.{MAX_WRITERS}
use Rattle.trace_text.specs.declared.cause.TraceCause.{TraceCause}
use Rattle.trace_text.specs.declared.reading.TraceFault.{TraceFault}
use Rattle.trace_text.specs.declared.reading.TraceFault.TheVariants as faults
use Rattle.trace_text.specs.Dictionaries.{DictionaryBreak}
use Rattle.ring_core.specs.Plans.{Plan, plan_of}
use Rattle.word_ring.specs.Ends.{WordWriterEnd, WordRoamerEnd, seen_by}
use Rattle.log_session.specs.Writers.{WriterView}
use Rattle.log_session.specs.Starts.{IsNewRing}
use Rattle.roaming_consumer.specs.Roamers.{roamer_messages, roamer_version, roamer_clocks, roamer_batch}
use Rattle.log_ends.specs.declared.opening.OpenFault.{OpenFault}
use Rattle.log_ends.specs.declared.opening.OpenFault.TheVariants as opens
use Rattle.log_ends.specs.declared.setup.Setup.{Setup}
use Rattle.log_ends.specs.declared.writer.WriterEnd.{WriterEnd}
use Rattle.log_ends.specs.declared.session.SessionEnd.{SessionEnd}
use Rattle.log_ends.specs.declared.consumer.ConsumerEnd.{ConsumerEnd}
use Rattle.log_ends.specs.declared.part_end.PartEnd.{PartEnd}
use Rattle.log_ends.specs.PartEnds.{IsFirstPart}
use Rattle.log_ends.specs.Writers.{writer_messages}
use Rattle.log_ends.specs.Sessions.{writers_left, is_session_ended, session_messages}
use Rattle.log_ends.specs.Consumers.{consumer_ends, next_writer, is_over, is_ending, earlier_stamp, HasGiven}

-- a session may have these numbers
pub record IsSetupInRange (setup : Setup) : Type 0 where
  pub least_ring : MIN_RING ≤ setup.ring
  pub most_ring : setup.ring ≤ MAX_RING
  pub some_writer : 1 ≤ setup.writers
  pub few_writers : setup.writers ≤ MAX_WRITERS
  pub few_words : setup.ring * setup.writers ≤ MAX_SESSION_WORDS
  pub some_batch : 1 ≤ setup.batch
  pub few_in_batch : setup.batch ≤ MAX_BATCH
  pub rate : 1 ≤ setup.clock.rate

-- the text is refused at this line
abbrev pub IsTextRefusedAt : List ℕ → ℕ → Type 0
IsTextRefusedAt text line = (cause : TraceCause) × DictionaryBreak text line cause

-- why there is no session where a text isn't read
abbrev pub open_fault : TraceFault → OpenFault
open_fault (faults.Refused line cause) = opens.BadDictionary line
open_fault faults.ReadFault = opens.NoMemory
open_fault faults.NoMemory = opens.NoMemory

-- The two ends have one ring, which is new: of this size, for this plan, and nothing was put into it or taken from it.
abbrev pub IsNewPair : ℕ → Plan → WriterView WordWriterEnd → WordRoamerEnd → Type 0
IsNewPair size plan =
    IsNewRing size plan (λ (end : WordWriterEnd). end.pair) (λ (end : WordWriterEnd). end.words)
    (λ (end : WordWriterEnd). end.plan) (λ (end : WordWriterEnd). end.sent) (λ (end : WordWriterEnd). end.closed)
    (λ (end : WordWriterEnd). end.at) seen_by (λ (end : WordRoamerEnd). end.pair) (λ (end : WordRoamerEnd). end.plan)
    (λ (end : WordRoamerEnd). end.got) (λ (end : WordRoamerEnd). end.ended)

-- a writer and the consumer's end have such a ring, and it is the first part
pub record HaveNewRing (size : ℕ) (plan : Plan) (writer : WriterEnd) (end : PartEnd) : Type 0 where
  pub ring : IsNewPair size plan writer.writer end.out
  pub first : IsFirstPart end

-- The session has as many writers as were asked for, each with a new ring, of which the consumer has the other end, in
-- the same order. None was given out, and no byte of the log was.
pub record IsOpened (messages : List Message) (setup : Setup) (session : SessionEnd) (consumer : ConsumerEnd) : Type 0 where
  pub count : length (writers_left session) ≡ setup.writers
  pub rings : AllZip (HaveNewRing setup.ring (plan_of messages setup.clock.tick)) (writers_left session)
      (consumer_ends consumer)
  pub named : All (λ writer. writer_messages writer ≡ messages) (writers_left session)
  pub lasts : is_session_ended session ≡ false
  pub known : session_messages session ≡ messages
  pub messages_are : roamer_messages consumer.roamer ≡ messages
  pub version_is : roamer_version consumer.roamer ≡ 2
  pub clocks_are : roamer_clocks consumer.roamer ≡ setup.clock ∷ []
  pub batch_is : roamer_batch consumer.roamer ≡ setup.batch
  pub ungiven : HasGiven consumer []
  pub first_is_next : next_writer consumer ≡ 0
  pub goes_on : is_over consumer ≡ false
  pub open_part : is_ending consumer ≡ false
  pub first_part : earlier_stamp consumer ≡ 0
