-- The bytes from a line on give an outcome.
use Rattle.std.proofs.Common.{◌≡◌, ◌≢◌, ◌⊎◌, ℕ, ◌+◌, Bool, true, false, List, [], ◌∷◌, ◌++◌, length, Option, Some, None, Result, Ok, Err, refl, subst, inl, inr, eqb, ltb}
use Rattle.std.specs.Prelude.{codes}
use Rattle.std.specs.Cmp.Lexicographic.{pointwise}
use Rattle.std.proofs.lemmas.Bool.{ltb-true, ltb-false, eqb-true, eqb-false}
use Rattle.log_dictionary.specs.declared.clock.Clock.{Clock}
use Rattle.log_dictionary.specs.declared.message.Message.{Message}
use Rattle.log_dictionary.specs.declared.dictionary.TheConstants.{MAX_MESSAGES}
use Rattle.log_dictionary.specs.Messages.{SpellsMessage, HasMessage}
use Rattle.log_dictionary.specs.Additions.{SpellsNew}
use Rattle.trace_text.specs.declared.cause.TraceCause.{TraceCause}
use Rattle.trace_text.specs.declared.cause.TraceCause.TheVariants as causes
use Rattle.trace_text.specs.Recordings.{Recording, start_of}
use Rattle.trace_text.specs.Lines.{WriterCall, last_line}
use Rattle.trace_text.specs.LineFields.{begins_with, version_at, clock_at, writers_at}
use Rattle.trace_text.specs.CallReading.{call_at, with_call}
use Rattle.trace_text.specs.Reading as parts
use Rattle.trace_text.specs.Reading.{TracePart, Broken, is_later_clock, later_clock, Follows, Breaks, at_end, ReadsLines, Gives}
use Rattle.trace_text.proofs.Cuts.{cut_of}
use Rattle.trace_text.proofs.LineFronts.{same_line, other_line}
use Rattle.log_dictionary.proofs.lemmas.LineMessages.{one_message}
use Rattle.log_dictionary.proofs.lemmas.LineLaws.{message_or_not}
use Rattle.log_dictionary.proofs.lemmas.Distinct.{there_or_not}

-- a line is right in the part, or it is refused
abbrev Judged : TracePart → List ℕ → Type 0
Judged part line = ((next : TracePart) × Follows part line next) ⊎ ((cause : TraceCause) × Breaks part line cause)

pub same_or_other : (line other : List ℕ) → (line ≡ other) ⊎ (line ≢ other)
same_or_other line other = told (pointwise eqb line other) refl
  where
    told : (b : Bool) → pointwise eqb line other ≡ b → (line ≡ other) ⊎ (line ≢ other)
    told true e = inl (same_line line other e)
    told false e = inr (other_line line other e)

judge_first : (line : List ℕ) (o : Option ℕ) → version_at line ≡ o → Judged parts.opening line
judge_first line (Some version) is = inl (parts.messages version [], (version, is, refl))
judge_first line None is = inr (causes.Header, (is, refl))

-- a message that is new, with the next id, or none
pub some_new : (before : List Message) (line : List ℕ) → ((message : Message) × SpellsNew before line (length before) message) ⊎ ((message : Message) → ¬ (SpellsNew before line (length before) message))
some_new before line = elim (message_or_not line) [
  | inl found ↦ with_id found.0 found.1 found.2 (eqb found.0 (length before)) refl
  | inr none ↦ inr (λ message new. none (length before) message new.spelled)
]
  where
    told : (message : Message) → SpellsMessage line (length before) message → HasMessage before message ⊎ ¬ (HasMessage before message) → ((message : Message) × SpellsNew before line (length before) message) ⊎ ((message : Message) → ¬ (SpellsNew before line (length before) message))
    told message spells (inl there) = inr (λ other new. new.new (subst (HasMessage before) (one_message line (length before) (length before) message other spells new.spelled).1 there))
    told message spells (inr new) = inl (message, record { spelled = spells; new = new })

    with_id : (id : ℕ) (message : Message) → SpellsMessage line id message → (b : Bool) → eqb id (length before) ≡ b → ((message : Message) × SpellsNew before line (length before) message) ⊎ ((message : Message) → ¬ (SpellsNew before line (length before) message))
    with_id id message spells true next = told message (subst (λ (n : ℕ). SpellsMessage line n message) (eqb-true _ _ next) spells) (there_or_not before message)
    with_id id message spells false other = inr (λ found new. eqb-false _ _ other (one_message line id (length before) message found spells new.spelled).0)

judge_message : (version : ℕ) (before : List Message) (line : List ℕ) → begins_with (codes "message ") line ≡ true → Judged (parts.messages version before) line
judge_message version before line begun = told (ltb (length before) MAX_MESSAGES) refl
  where
    told : (b : Bool) → ltb (length before) MAX_MESSAGES ≡ b → Judged (parts.messages version before) line
    told false full = inr (causes.TooMany, inl (begun, inl (ltb-false _ _ full, refl)))
    told true room = elim (some_new before line) [
      | inl found ↦ inl (parts.messages version (before ++ found.0 ∷ []), inl (begun, ltb-true _ _ room, (found.0, found.1, refl)))
      | inr none ↦ inr (causes.Message, inl (begun, inr (ltb-true _ _ room, none, refl)))
    ]

judge_clock : (version : ℕ) (before : List Message) (line : List ℕ) (o : Option Clock) → begins_with (codes "message ") line ≡ false → clock_at line ≡ o → Judged (parts.messages version before) line
judge_clock version before line (Some time) other is = inl (parts.clocks version before (time ∷ []), inr (other, (time, is, refl)))
judge_clock version before line None other is = inr (causes.Clock, inr (other, is, refl))

judge_front : (version : ℕ) (before : List Message) (line : List ℕ) (b : Bool) → begins_with (codes "message ") line ≡ b → Judged (parts.messages version before) line
judge_front version before line true begun = judge_message version before line begun
judge_front version before line false other = judge_clock version before line (clock_at line) other refl

module _ (version : ℕ) (dictionary : List Message) (times : List Clock) (line : List ℕ) where
  judge_later : (r : Result Clock TraceCause) → is_later_clock version line ≡ true → later_clock times line ≡ r → Judged (parts.clocks version dictionary times) line
  judge_later (Ok time) later is = inl (parts.clocks version dictionary (times ++ time ∷ []), inl (later, (time, is, refl)))
  judge_later (Err cause) later is = inr (cause, inl (later, is))

  judge_writers : (o : Option ℕ) → is_later_clock version line ≡ false → writers_at version line ≡ o → Judged (parts.clocks version dictionary times) line
  judge_writers (Some count) none is = inl (parts.calls (start_of version dictionary times count), inr (none, (count, is, refl)))
  judge_writers None none is = inr (causes.Writers, inr (none, is, refl))

  judge_behind_clock : (b : Bool) → is_later_clock version line ≡ b → Judged (parts.clocks version dictionary times) line
  judge_behind_clock true later = judge_later (later_clock times line) later refl
  judge_behind_clock false none = judge_writers (writers_at version line) none refl

judge_call : (run : Recording) (line : List ℕ) (r : Result WriterCall TraceCause) → line ≢ last_line → call_at run line ≡ r → Judged (parts.calls run) line
judge_call run line (Ok made) other is = inl (parts.calls (with_call run made), inr (other, (made, is, refl)))
judge_call run line (Err cause) other is = inr (cause, (other, is))

judge_calls : (run : Recording) (line : List ℕ) → (line ≡ last_line) ⊎ (line ≢ last_line) → Judged (parts.calls run) line
judge_calls run line (inl same) = inl (parts.ended run, inl (same, refl))
judge_calls run line (inr other) = judge_call run line (call_at run line) other refl

judge : (part : TracePart) (line : List ℕ) → Judged part line
judge parts.opening line = judge_first line (version_at line) refl
judge (parts.messages version before) line = judge_front version before line (begins_with (codes "message ") line) refl
judge (parts.clocks version dictionary times) line = judge_behind_clock version dictionary times line (is_later_clock version line) refl
judge (parts.calls run) line = judge_calls run line (same_or_other line last_line)
judge (parts.ended run) line = inr (causes.AfterEnd, refl)

-- ---- all lines

-- an outcome of the lines
abbrev SomeReading : TracePart → ℕ → List (List ℕ) → List ℕ → Type 0
SomeReading part n lines rest = (outcome : Result Recording Broken) × ReadsLines part n lines rest outcome

some_reading : (part : TracePart) (n : ℕ) (lines : List (List ℕ)) (rest : List ℕ) → SomeReading part n lines rest
some_reading part n [] rest = (at_end part n rest, refl)
some_reading part n (line ∷ lines) rest = elim (judge part line) [
  | inl follows ↦ let others = some_reading follows.0 (n + 1) lines rest in (others.0, inl (follows.0, follows.1, others.1))
  | inr breaks ↦ (Err (record { line = n; cause = breaks.0 }), inr (breaks.0, breaks.1, refl))
]

pub some_outcome : (part : TracePart) (n : ℕ) (bytes : List ℕ) → (outcome : Result Recording Broken) × Gives part n bytes outcome
some_outcome part n bytes =
    let found = cut_of bytes in
    let read = some_reading part n found.lines found.rest in
    (read.0, record { lines = found.lines; rest = found.rest; cut = found.cut; reads = read.1 })
