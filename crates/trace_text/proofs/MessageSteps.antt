-- What reading a line of a message says of the text.
use Rattle.std.proofs.Common.{◌≡◌, ℕ, true, List, length, Ok, Err, refl, ap, inl, inr, arith}
use Rattle.std.specs.Prelude.{⊤}
use Rattle.log_dictionary.specs.declared.message.Message.{Message}
use Rattle.log_dictionary.specs.declared.dictionary.LineFault.{LineFault}
use Rattle.log_dictionary.specs.declared.dictionary.LineFault.TheVariants as faults
use Rattle.log_dictionary.specs.Additions.{SpellsNew, SpellsNoneNew, SpellsOutOfOrder, ReadsLine}
use Rattle.log_dictionary.specs.Fields.{IsFirstSplit}
use Rattle.log_dictionary.proofs.lemmas.LineMessages.{one_message}
use Rattle.trace_text.specs.declared.cause.TraceCause.TheVariants as causes
use Rattle.trace_text.specs.declared.lines.Lines.{Lines}
use Rattle.trace_text.specs.LineFields.{begins_with}
use Rattle.trace_text.specs.Reading.{messages, FollowsMessages, BreaksMessages}
use Rattle.trace_text.specs.Progress.{progress, IsRefusal, message_fault}
use Rattle.trace_text.proofs.LineFronts.{message_word}
use Rattle.trace_text.proofs.Steps.{refused_here}

-- ---- what the reader of a message line says

pub follows_read : (version : ℕ) (before after : List Message) (line : List ℕ) → begins_with message_word line ≡ true → ReadsLine before line after (Ok tt) → FollowsMessages version before line (messages version after)
follows_read version before after line begun read = (begun, read.2, (read.0, read.1, ap (messages version) read.3))

none_with_next : (before : List Message) (line : List ℕ) → SpellsNoneNew before line → (message : Message) → ¬ (SpellsNew before line (length before) message)
none_with_next before line none message new = new.new (none (length before) message new.spelled)

none_in_order : (before : List Message) (line : List ℕ) → SpellsOutOfOrder before line → (message : Message) → ¬ (SpellsNew before line (length before) message)
none_in_order before line other message new = other.3 (one_message line other.0 (length before) other.1 message other.2.spelled new.spelled).0

-- the line is refused from the cause that its fault tells
abbrev pub BreaksAs : List Message → List ℕ → LineFault → Type 0
BreaksAs before line faults.TooMany = BreaksMessages before line causes.TooMany
BreaksAs before line faults.BadEntry = BreaksMessages before line causes.Message
BreaksAs before line faults.Order = BreaksMessages before line causes.Message
BreaksAs before line faults.NoMemory = ⊤

pub breaks_as : (before after : List Message) (line : List ℕ) (fault : LineFault) → begins_with message_word line ≡ true → ReadsLine before line after (Err fault) → BreaksAs before line fault
breaks_as before after line faults.TooMany begun read = (begun, inl (omega (arith, read.0), refl))
breaks_as before after line faults.BadEntry begun read = (begun, inr (read.0, none_with_next before line read.1, refl))
breaks_as before after line faults.Order begun read = (begun, inr (read.0, none_in_order before line read.1, refl))
breaks_as before after line faults.NoMemory begun read = tt

-- so is the text then
pub breaks_read : (version : ℕ) (before after : List Message) (lines : Lines) (line behind : List ℕ) (fault : LineFault) → IsFirstSplit 10 lines.bytes.now line behind → begins_with message_word line ≡ true → ReadsLine before line after (Err fault)
    → IsRefusal (progress (messages version before) lines) (message_fault lines.number fault)
breaks_read version before after lines line behind faults.TooMany split begun read =
    refused_here (progress (messages version before) lines) line behind causes.TooMany split (inl (breaks_as before after line faults.TooMany begun read))
breaks_read version before after lines line behind faults.BadEntry split begun read =
    refused_here (progress (messages version before) lines) line behind causes.Message split (inl (breaks_as before after line faults.BadEntry begun read))
breaks_read version before after lines line behind faults.Order split begun read =
    refused_here (progress (messages version before) lines) line behind causes.Message split (inl (breaks_as before after line faults.Order begun read))
breaks_read version before after lines line behind faults.NoMemory split begun read = tt
