-- Messages that follow one after the other, each in a line of its own.
use Rattle.std.proofs.Common.{◌≡◌, ℕ, ◌+◌, ◌<◌, ◌≤◌, true, List, [], ◌∷◌, ◌++◌, length, refl, sym, subst, append_assoc, arith}
use Rattle.std.specs.Prelude.{codes}
use Rattle.std.proofs.lemmas.List.{length-append}
use Rattle.log_dictionary.specs.declared.message.Message.{Message}
use Rattle.log_dictionary.specs.declared.dictionary.TheConstants.{MAX_MESSAGES}
use Rattle.log_dictionary.specs.Additions.{SpellsNew}
use Rattle.log_dictionary.specs.Messages.{SpellsMessage, AreDistinct}
use Rattle.log_dictionary.proofs.lemmas.Distinct.{is_new}
use Rattle.trace_text.specs.Lines.{SpellsMessages}
use Rattle.trace_text.specs.LineFields.{begins_with}

pub message_begins : (line : List ℕ) (id : ℕ) (message : Message) → SpellsMessage line id message → begins_with (codes "message ") line ≡ true
message_begins line id message spells = subst (λ text. begins_with (codes "message ") text ≡ true) (sym spells.spelled) refl

-- the line is that of a new message, for which there is room
pub record IsNext (before : List Message) (line : List ℕ) (message : Message) : Type 0 where
  pub new : SpellsNew before line (length before) message
  pub room : length before < MAX_MESSAGES

-- so are the lines, one after the other
abbrev pub NextMessages : List Message → List (List ℕ) → List Message → Type 0
NextMessages before [] [] = Unit {0}
NextMessages before (line ∷ lines) (message ∷ messages) = IsNext before line message × NextMessages (before ++ message ∷ []) lines messages
NextMessages before [] (message ∷ messages) = ⊥
NextMessages before (line ∷ lines) [] = ⊥

-- lines of distinct messages are
pub next_messages : (before : List Message) (lines : List (List ℕ)) (messages : List Message) → SpellsMessages (length before) lines messages → AreDistinct (before ++ messages) → length (before ++ messages) ≤ MAX_MESSAGES
    → NextMessages before lines messages
next_messages before [] [] spells distinct few = tt
next_messages before (line ∷ lines) (message ∷ messages) spells distinct few =
    let one : (before ++ message ∷ []) ++ messages ≡ before ++ message ∷ messages = append_assoc before (message ∷ []) messages in
    let count : length before + 1 ≡ length (before ++ message ∷ []) = sym (length-append before (message ∷ [])) in (
      record { new = record { spelled = spells.0; new = is_new before messages message distinct }; room = omega (arith, few, length-append before (message ∷ messages)) },
      next_messages (before ++ message ∷ []) lines messages (subst (λ id. SpellsMessages id lines messages) count spells.1) (subst AreDistinct (sym one) distinct) (subst (λ all. length all ≤ MAX_MESSAGES) (sym one) few),
    )
next_messages before [] (message ∷ messages) spells distinct few = absurd spells
next_messages before (line ∷ lines) [] spells distinct few = absurd spells
