-- What the places of ends hold, and what the calls do to them.
use Rattle.std.specs.Prelude.{◌≡◌, ◌⊎◌, ◌↔◌, ℕ, false, List, ◌∷◌, Option, None, Some, option_map, MatchOption, Result, OnOk, OnErr, IsErrOf, Box}
use Rattle.std.specs.Global.{Global}
use Rattle.log_dictionary.specs.declared.message.Message.{Message}
use Rattle.trace_text.specs.Dictionaries.{DictionaryText}
use Rattle.log_ends.specs.declared.end.End.{End}
use Rattle.log_ends.specs.declared.end.End.TheVariants as ends
use Rattle.log_ends.specs.declared.session.SessionEnd.{SessionEnd}
use Rattle.log_ends.specs.declared.session.WriterFault.{WriterFault}
use Rattle.log_ends.specs.declared.session.WriterFault.TheVariants as faults
use Rattle.log_ends.specs.declared.writer.WriterEnd.{WriterEnd}
use Rattle.log_ends.specs.declared.consumer.ConsumerEnd.{ConsumerEnd}
use Rattle.log_ends.specs.declared.setup.Setup.{Setup}
use Rattle.log_ends.specs.declared.opening.OpenFault.{OpenFault}
use Rattle.log_ends.specs.declared.opening.OpenFault.TheVariants as opens
use Rattle.log_ends.specs.Sessions.{writers_left, is_session_ended, session_messages, HasNoneLeft, IsSameSession}
use Rattle.log_ends.specs.Openings.{IsSetupInRange, IsTextRefusedAt, IsOpened}

-- the end that a slot holds
abbrev pub end_in : Option (Box End Global) → Option End
end_in slot = option_map (λ (boxed : Box End Global). boxed.value) slot

abbrev pub writer_in : Option End → Option WriterEnd
writer_in (Some (ends.Writer writer)) = Some writer
writer_in _ = None

abbrev pub session_in : Option End → Option SessionEnd
session_in (Some (ends.Session session)) = Some session
session_in _ = None

abbrev pub consumer_in : Option End → Option ConsumerEnd
consumer_in (Some (ends.Consumer consumer)) = Some consumer
consumer_in _ = None

-- ---- what a call does to an end of the kind that it wants

-- Where an end of the kind is held, one of it is held afterwards, and the step leads from the one to the other. Else what
-- is held stays, and the other holds.
abbrev pub OnEnd : {A : Type 0} → (A → End) → (Option End → Option A) → Option End → Option End → (A → A → Type 0)
    → Type 0 → Type 0
OnEnd {A} make held before after Step Other =
    MatchOption (held before) ((after ≡ before) × Other)
    (λ old. (new : A) × (after ≡ Some (make new)) × Step old new)

abbrev pub OnWriter : Option End → Option End → (WriterEnd → WriterEnd → Type 0) → Type 0 → Type 0
OnWriter = OnEnd ends.Writer writer_in

abbrev pub OnSession : Option End → Option End → (SessionEnd → SessionEnd → Type 0) → Type 0 → Type 0
OnSession = OnEnd ends.Session session_in

abbrev pub OnConsumer : Option End → Option End → (ConsumerEnd → ConsumerEnd → Type 0) → Type 0 → Type 0
OnConsumer = OnEnd ends.Consumer consumer_in

-- there is an answer, of which this holds
abbrev pub IsAnswered : {A : Type 0} → Option A → (A → Type 0) → Type 0
IsAnswered answer P = MatchOption answer ⊥ P

-- ---- giving out a writer

-- The next writer was put where there was none; or none was, since none is left or there is no memory, and the session is
-- as it was.
pub record GivesInto (old new : SessionEnd) (outcome : Result (Unit {0}) WriterFault) (after : Option End) : Type 0 where
  pub given : OnOk outcome ((writer : WriterEnd) × (after ≡ Some (ends.Writer writer))
      × (writers_left old ≡ writer ∷ writers_left new) × (is_session_ended old ≡ false) × (is_session_ended new ≡ false)
      × (session_messages new ≡ session_messages old))
  pub none : OnErr outcome ((after ≡ None) × IsSameSession old new)
  pub spent : IsErrOf outcome faults.NoWriter ↔ HasNoneLeft old

-- ---- opening

-- A session and its consumer were put where there was none, or none was.
pub record OpensInto (text : List ℕ) (setup : Setup) (outcome : Result (Unit {0}) OpenFault) (session consumer : Option End)
    : Type 0 where
  pub opened : OnOk outcome ((messages : List Message) × (ours : SessionEnd) × (theirs : ConsumerEnd)
      × (session ≡ Some (ends.Session ours)) × (consumer ≡ Some (ends.Consumer theirs))
      × DictionaryText text messages × IsOpened messages setup ours theirs)
  pub none : OnErr outcome ((session ≡ None) × (consumer ≡ None))
  pub out_of_range : IsErrOf outcome opens.OutOfRange ↔ (¬ (IsSetupInRange setup))
  pub refused : (line : ℕ) → IsErrOf outcome (opens.BadDictionary line) → IsTextRefusedAt text line
  pub only : IsSetupInRange setup → (line : ℕ) → IsTextRefusedAt text line
      → IsErrOf outcome (opens.BadDictionary line) ⊎ IsErrOf outcome opens.NoMemory
