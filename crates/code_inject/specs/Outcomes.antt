-- What becomes of the statements of a source, by the messages of a dictionary.
use Rattle.std.specs.Prelude.{◌≡◌, List, [], ◌∷◌, flat_map}
use Rattle.log_dictionary.specs.declared.message.Message.{Message}
use Rattle.log_dictionary.specs.Messages.{HasMessage, HasId}
use Rattle.source_scan.specs.declared.found.Found.{Found}
use Rattle.source_scan.specs.declared.found.Found.TheVariants as found
use Rattle.source_scan.specs.declared.found.Statement.{Statement}
use Rattle.preprocessor.specs.declared.refusal.SourceRefusal.{SourceRefusal}
use Rattle.preprocessor.specs.declared.refusal.RefusalCause.TheVariants as causes
use Rattle.preprocessor.specs.Findings.{IsMessageOf, bad_refusal}
use Rattle.code_inject.specs.declared.rewrite.Rewrite.{Rewrite}
use Rattle.code_inject.specs.declared.outcomes.Outcomes.{Outcomes}

-- what becomes of what stands at one place: a call by number takes the place of its head, or it is refused
pub data Outcome : Type 0 where
  rewritten : Rewrite → Outcome
  refused : SourceRefusal → Outcome

-- ---- one place

-- the dictionary has the statement's message, under this id
pub record IsKnown (dictionary : List Message) (statement : Statement) (rewrite : Rewrite) : Type 0 where
  pub message : Message
  pub is : IsMessageOf statement message
  pub has : HasId dictionary message rewrite.id
  pub start : rewrite.start ≡ statement.start
  pub head : rewrite.head ≡ statement.head

-- what is refused where the dictionary has no message of a statement
abbrev pub unknown_refusal : Statement → SourceRefusal
unknown_refusal statement = record { file = statement.file; line = statement.line; cause = causes.NotInDictionary }

-- the dictionary doesn't have it
pub record IsUnknown (dictionary : List Message) (statement : Statement) (refusal : SourceRefusal) : Type 0 where
  pub message : Message
  pub is : IsMessageOf statement message
  pub has_none : ¬ (HasMessage dictionary message)
  pub refusal_is : refusal ≡ unknown_refusal statement

-- what becomes of what a scan found
abbrev pub IsOutcome : List Message → Found → Outcome → Type 0
IsOutcome dictionary (found.Statement statement) (Outcome.rewritten rewrite) = IsKnown dictionary statement rewrite
IsOutcome dictionary (found.Statement statement) (Outcome.refused refusal) = IsUnknown dictionary statement refusal
IsOutcome dictionary (found.Bad bad) (Outcome.rewritten rewrite) = ⊥
IsOutcome dictionary (found.Bad bad) (Outcome.refused refusal) = refusal ≡ bad_refusal bad

-- ---- all places

-- the same of all that a scan found, place by place
abbrev pub AreOutcomes : List Message → List Found → List Outcome → Type 0
AreOutcomes dictionary [] outcomes = outcomes ≡ []
AreOutcomes dictionary (one ∷ found) outcomes =
    (first : Outcome) × (others : List Outcome) × (outcomes ≡ first ∷ others)
    × IsOutcome dictionary one first × AreOutcomes dictionary found others

abbrev pub outcome_rewrites : Outcome → List Rewrite
outcome_rewrites (Outcome.rewritten rewrite) = rewrite ∷ []
outcome_rewrites (Outcome.refused refusal) = []

-- the heads that are rewritten
abbrev pub rewrites_in : List Outcome → List Rewrite
rewrites_in outcomes = flat_map outcome_rewrites outcomes

abbrev pub outcome_refusals : Outcome → List SourceRefusal
outcome_refusals (Outcome.rewritten rewrite) = []
outcome_refusals (Outcome.refused refusal) = refusal ∷ []

-- all that is refused
abbrev pub refusals_in : List Outcome → List SourceRefusal
refusals_in outcomes = flat_map outcome_refusals outcomes

-- what code holds of the outcomes
pub record HoldsOutcomes (dictionary : List Message) (found : List Found) (held : Outcomes) : Type 0 where
  pub outcomes : List Outcome
  pub are : AreOutcomes dictionary found outcomes
  pub rewrites : held.rewrites.items ≡ rewrites_in outcomes
  pub refusals : held.refusals.items ≡ refusals_in outcomes
