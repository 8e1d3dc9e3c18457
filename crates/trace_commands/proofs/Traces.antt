-- How `direct` ends, by what was read of the trace.
use Rattle.std.proofs.Common.{◌≡◌, ℕ, ◌<◌, List, length, Option, Some, None, Result, Ok, Err, refl, sym, subst, inl}
use Rattle.std.specs.Prelude.{IfErr, IfSome, IsErrOf}
use Rattle.std.specs.FinMap as map
use Rattle.std.specs.Result.{IsErrAnd}
use Rattle.nl_io.specs.Content.{Told}
use Rattle.nl_io.specs.Desk.{Desk, Held}
use Rattle.log_dictionary.specs.declared.message.Message.{Message}
use Rattle.trace_text.specs.declared.cause.TraceCause.{TraceCause}
use Rattle.trace_text.specs.declared.cause.TraceCause.TheVariants.{TooLarge}
use Rattle.trace_text.specs.declared.trace.TheConstants.{MAX_TRACE}
use Rattle.trace_text.specs.declared.reading.TraceFault.{TraceFault}
use Rattle.trace_text.specs.declared.reading.TraceFault.TheVariants as faults
use Rattle.trace_text.specs.Reading.{TraceBreak}
use Rattle.trace_text.specs.Dictionaries.{DictionaryText, DictionaryBreak}
use Rattle.trace_text.specs.TraceReading.{IsAnswerTo}
use Rattle.command_base.specs.declared.refusal.Refusal.{Refusal}
use Rattle.command_base.specs.HeldFiles.{IsHeld, HoldsSuch}
use Rattle.command_base.proofs.lemmas.HeldLaws.{WasRead, such_read, there_read, same_desk, held_there, such_there, held_such}
use Rattle.trace_commands.specs.Traces.{GivesNoText, GivesNoTrace, SaysOfTrace, trace_fault_ending}

-- a call handed this refusal on
pub handed_on : {T : Type 0} (P : Refusal → Type 0) (r : Result T Refusal) (refusal : Refusal) → IsErrAnd r (λ e. e ≡ refusal) → P refusal → IfErr r P
handed_on P (Ok x) refusal same so = absurd same
handed_on P (Err e) refusal same so = subst P (sym same) so

-- a file that was read gave no trace
pub gives_none : (trace : List ℕ) (old new : Desk) (content : Told) (fault : TraceFault) → WasRead trace old new content
    → SaysOfTrace (Err fault) content old.read_faults new.read_faults → GivesNoTrace trace old new (trace_fault_ending trace fault)
gives_none trace old new content faults.ReadFault was says = ((refl, was.only, says.1 refl), inl refl)
gives_none trace old new content (faults.Refused line cause) was says = (
  same_desk old new was.only (says.2 (λ e. cc)),
  there_read trace old new content was,
  (refl, refl, (line, cause, refl, refl, such_read trace old new content (λ bytes. TraceBreak bytes line cause) was says.0)),
)
gives_none trace old new content faults.NoMemory was says =
    ((same_desk old new was.only (says.2 (λ e. cc)), there_read trace old new content was), refl)

-- a text that was read is refused
pub text_refused : (Breaks : List ℕ → ℕ → TraceCause → Type 0) (text : List ℕ) (old new : Desk) (line : ℕ) (cause : TraceCause) → new ≡ old → HoldsSuch old text (λ bytes. Breaks bytes line cause)
    → GivesNoText Breaks text old new (trace_fault_ending text (faults.Refused line cause))
text_refused Breaks text old new line cause same holds =
    (same, such_there old text (λ bytes. Breaks bytes line cause) holds, (refl, refl, (line, cause, refl, refl, holds)))

long_broken : (held : Option Held) (text : List ℕ) → IfSome held (λ h. (bytes : List ℕ) × (map.get h text ≡ Some bytes) × (MAX_TRACE < length bytes))
    → IfSome held (λ h. (bytes : List ℕ) × (map.get h text ≡ Some bytes) × DictionaryBreak bytes 0 TooLarge)
long_broken None text long = tt
long_broken (Some h) text (bytes, is, long) = (bytes, is, inl (long, refl, refl))

-- one that is too long for a dictionary
pub too_large : (text : List ℕ) (old new : Desk) → new ≡ old → HoldsSuch old text (λ bytes. MAX_TRACE < length bytes)
    → GivesNoText DictionaryBreak text old new (trace_fault_ending text (faults.Refused 0 TooLarge))
too_large text old new same long = text_refused DictionaryBreak text old new 0 TooLarge same (long_broken old.held text long)

-- the bytes that were read are the text of no dictionary
no_dictionary : (text : List ℕ) (old new : Desk) (bytes : List ℕ) (fault : TraceFault) → new ≡ old → IsHeld old text bytes → IsAnswerTo {A = List Message} (DictionaryText bytes) (DictionaryBreak bytes) (Err fault) → ¬ (IsErrOf {T = List Message} (Err fault) faults.ReadFault)
    → GivesNoText DictionaryBreak text old new (trace_fault_ending text fault)
no_dictionary text old new bytes faults.ReadFault same held answer other = absurd (other refl)
no_dictionary text old new bytes (faults.Refused line cause) same held answer other =
    text_refused DictionaryBreak text old new line cause same (held_such old text bytes (λ b. DictionaryBreak b line cause) held answer)
no_dictionary text old new bytes faults.NoMemory same held answer other = ((same, held_there old text bytes held), refl)

-- the same of the bytes that the reader was lent
pub lent_no_dictionary : (text : List ℕ) (old new : Desk) (bytes lent : List ℕ) (fault : TraceFault) → new ≡ old → IsHeld old text bytes → lent ≡ bytes → IsAnswerTo {A = List Message} (DictionaryText lent) (DictionaryBreak lent) (Err fault)
    → ¬ (IsErrOf {T = List Message} (Err fault) faults.ReadFault) → GivesNoText DictionaryBreak text old new (trace_fault_ending text fault)
lent_no_dictionary text old new bytes lent fault same held is answer other =
    no_dictionary text old new lent fault same (subst (IsHeld old text) (sym is) held) answer other
