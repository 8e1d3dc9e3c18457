-- What a session's end stands for: the writers that weren't given out, and the messages that calls name.
use Rattle.std.specs.Prelude.{◌≡◌, ◌⊎◌, Bool, true, false, List, [], ◌∷◌}
use Rattle.std.specs.List.{AllZip}
use Rattle.log_dictionary.specs.declared.message.Message.{Message}
use Rattle.log_ends.specs.declared.end.End.{End}
use Rattle.log_ends.specs.declared.end.End.TheVariants.{Writer}
use Rattle.log_ends.specs.declared.session.SessionEnd.{SessionEnd}
use Rattle.log_ends.specs.declared.writer.WriterEnd.{WriterEnd}
use Rattle.log_ends.specs.Writers.{IsFinishedFrom}

-- those that weren't given out, in the order in which they are
abbrev pub writers_left : SessionEnd → List WriterEnd
writers_left session = session.left.items

abbrev pub is_session_ended : SessionEnd → Bool
is_session_ended session = session.ended

abbrev pub session_messages : SessionEnd → List Message
session_messages session = session.dictionary.now

-- no writer is given out
abbrev pub HasNoneLeft : SessionEnd → Type 0
HasNoneLeft session = (is_session_ended session ≡ true) ⊎ (writers_left session ≡ [])

-- it is the same session, of which as many writers are left
abbrev pub IsSameSession : SessionEnd → SessionEnd → Type 0
IsSameSession old new =
    (writers_left new ≡ writers_left old) × (is_session_ended new ≡ is_session_ended old)
    × (session_messages new ≡ session_messages old)

-- the next writer was given out
abbrev pub GivesBoxed : SessionEnd → End → SessionEnd → Type 0
GivesBoxed old given new =
    (writer : WriterEnd) × (given ≡ Writer writer) × (writers_left old ≡ writer ∷ writers_left new)
    × (is_session_ended old ≡ false) × (is_session_ended new ≡ false) × (session_messages new ≡ session_messages old)

-- No writer is given out any more, and those that weren't are finished.
pub record EndsSession (old new : SessionEnd) : Type 0 where
  pub ended : is_session_ended new ≡ true
  pub finished : AllZip IsFinishedFrom (writers_left old) (writers_left new)
  pub same_messages : session_messages new ≡ session_messages old
