-- The messages of sources, each once, and what of the sources is refused.
use Rattle.std.specs.Prelude.{◌≡◌, ℕ, suc, ◌⊎◌, ◌<◌, ◌≤◌, true, false, not, List, [], ◌∷◌, ◌++◌, length, filter}
use Rattle.std.specs.Prelude.{flat_map, slice_get, Some}
use Rattle.log_dictionary.specs.declared.message.Message.{Message}
use Rattle.log_dictionary.specs.declared.dictionary.TheConstants.{MAX_MESSAGES}
use Rattle.log_dictionary.specs.Messages.{SameMessage, is_same, HasMessage}
use Rattle.preprocessor.specs.declared.numbering.Numbering.{Numbering}
use Rattle.preprocessor.specs.declared.refusal.SourceRefusal.{SourceRefusal}
use Rattle.preprocessor.specs.declared.refusal.RefusalCause.TheVariants as causes
use Rattle.preprocessor.specs.Findings.{SourceFile, Finding, AllHave}

-- ---- lists of findings

abbrev pub finding_messages : Finding → List Message
finding_messages (Finding.stated message) = message ∷ []
finding_messages (Finding.refused refusal) = []

-- the message of each statement
abbrev pub stated_messages : List Finding → List Message
stated_messages findings = flat_map finding_messages findings

abbrev pub finding_refusals : Finding → List SourceRefusal
finding_refusals (Finding.stated message) = []
finding_refusals (Finding.refused refusal) = refusal ∷ []

-- what is refused, where no message is one too many
abbrev pub refusals_of : List Finding → List SourceRefusal
refusals_of findings = flat_map finding_refusals findings

-- the messages without those that equal one before them
unfoldable pub firsts : List Message → List Message
firsts [] = []
firsts (message ∷ messages) = message ∷ filter (λ (other : Message). not (is_same message other)) (firsts messages)

-- the message stands at this place of the list, and none before it equals it
pub record IsFirstAt (all : List Message) (place : ℕ) (message : Message) : Type 0 where
  pub there : slice_get all place ≡ Some message
  pub first : (k : ℕ) (other : Message) → k < place → slice_get all k ≡ Some other → ¬ (SameMessage other message)

-- each of the messages stands first at a place of the list, at or behind one and behind that of the message before
abbrev pub StandFirst : List Message → ℕ → List Message → Type 0
StandFirst all from [] = Unit {0}
StandFirst all from (message ∷ messages) =
    (place : ℕ) × (from ≤ place) × IsFirstAt all place message × StandFirst all (suc place) messages

-- the messages of all statements, each where it stands first
abbrev pub numbered : List Finding → List Message
numbered findings = firsts (stated_messages findings)

-- what is refused where a message is one too many
abbrev pub excess_refusal : Message → SourceRefusal
excess_refusal message = record { file = message.file; line = message.line; cause = causes.TooMany }

-- the findings in front of the first statement whose message is one too many
pub record IsFullAt (findings front : List Finding) (message : Message) : Type 0 where
  pub rest : List Finding
  pub joined : findings ≡ front ++ Finding.stated message ∷ rest
  pub full : length (numbered front) ≡ MAX_MESSAGES
  pub new : ¬ (HasMessage (numbered front) message)

-- ---- sources

-- the messages of all statements of these sources, and how many statements there are
pub record Numbered (files : List SourceFile) (messages : List Message) (statements : ℕ) : Type 0 where
  pub findings : List Finding
  pub have : AllHave files findings
  pub messages_are : messages ≡ numbered findings
  pub statements_are : statements ≡ length (stated_messages findings)

-- what is refused of these sources; after a message that is one too many no more is read
pub data Refusals (files : List SourceFile) (refusals : List SourceRefusal) : Type 0 where
  all_read : (findings : List Finding) → AllHave files findings → length (numbered findings) ≤ MAX_MESSAGES
      → refusals ≡ refusals_of findings → Refusals files refusals
  stopped : (read unread : List SourceFile) (findings : List Finding) → files ≡ read ++ unread → AllHave read findings
      → (front : List Finding) (message : Message) → IsFullAt findings front message
      → refusals ≡ refusals_of front ++ excess_refusal message ∷ [] → Refusals files refusals

-- ---- what a numbering holds

-- all findings, among which no message is one too many
pub record HoldsAllFindings (findings : List Finding) (numbering : Numbering) : Type 0 where
  pub few : length (numbered findings) ≤ MAX_MESSAGES
  pub messages : numbering.dictionary ≡ numbered findings
  pub statements : numbering.statements ≡ length (stated_messages findings)
  pub refusals : numbering.refusals.items ≡ refusals_of findings
  pub goes_on : numbering.is_stopped ≡ false

-- the findings in front of a message that is one too many, and that this is refused
pub record HoldsFrontFindings (findings : List Finding) (numbering : Numbering) : Type 0 where
  pub front : List Finding
  pub message : Message
  pub stops : IsFullAt findings front message
  pub messages : numbering.dictionary ≡ numbered front
  pub statements : numbering.statements ≡ length (stated_messages front)
  pub refusals : numbering.refusals.items ≡ refusals_of front ++ excess_refusal message ∷ []
  pub stopped : numbering.is_stopped ≡ true

-- what stands for the findings
abbrev pub HoldsFindings : List Finding → Numbering → Type 0
HoldsFindings findings numbering = HoldsAllFindings findings numbering ⊎ HoldsFrontFindings findings numbering

-- what stands for the sources: all of them were read, or some at the front, among which a message is one too many
pub data NumbersSources (files : List SourceFile) (numbering : Numbering) : Type 0 where
  all_read : (findings : List Finding) → AllHave files findings → HoldsAllFindings findings numbering
      → NumbersSources files numbering
  stopped : (read unread : List SourceFile) (findings : List Finding) → files ≡ read ++ unread → AllHave read findings
      → HoldsFrontFindings findings numbering → NumbersSources files numbering
