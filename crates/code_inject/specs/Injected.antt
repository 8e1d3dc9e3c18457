-- Rewritten sources: each statement is a call by the number of its message.
use Rattle.std.specs.Prelude.{◌≡◌, ◌≢◌, ◌⊎◌, ℕ, List, [], length}
use Rattle.log_dictionary.specs.declared.message.Message.{Message}
use Rattle.source_scan.specs.declared.found.Found.{Found}
use Rattle.source_scan.specs.Statements.{Statements}
use Rattle.preprocessor.specs.declared.refusal.SourceRefusal.{SourceRefusal}
use Rattle.code_inject.specs.declared.injection.InjectFault.{InjectFault}
use Rattle.code_inject.specs.declared.injection.InjectFault.TheVariants as faults
use Rattle.code_inject.specs.Rewrites.{rewritten_from}
use Rattle.code_inject.specs.Outcomes.{Outcome, AreOutcomes, rewrites_in, refusals_in}

-- the source where the head of each of these statements, from its start to before the comma behind its format or its
-- closing parenthesis, is `NANO_LOG_CALL(`, the id of its message and the line feeds of the head; all else stays
pub record Injected (source : List ℕ) (found : List Found) (dictionary : List Message) (text : List ℕ) : Type 0 where
  pub outcomes : List Outcome
  pub are : AreOutcomes dictionary found outcomes
  pub none_refused : refusals_in outcomes ≡ []
  pub text_is : text ≡ rewritten_from source 0 (rewrites_in outcomes)

-- the statements of which some is bad or has no message in the dictionary, and all of these in order
pub record Refused (found : List Found) (dictionary : List Message) (refusals : List SourceRefusal) : Type 0 where
  pub outcomes : List Outcome
  pub are : AreOutcomes dictionary found outcomes
  pub refusals_are : refusals ≡ refusals_in outcomes
  pub some : refusals ≢ []

-- ---- sources

-- the text that a source becomes, and how many statements it has
pub record InjectsSource (file source : List ℕ) (dictionary : List Message) (text : List ℕ) (count : ℕ) : Type 0 where
  pub found : List Found
  pub statements : Statements file source found
  pub injected : Injected source found dictionary text
  pub count_is : count ≡ length found

-- what is refused in a source
pub record RefusesSource (file source : List ℕ) (dictionary : List Message) (refusals : List SourceRefusal)
    : Type 0 where
  pub found : List Found
  pub statements : Statements file source found
  pub refused : Refused found dictionary refusals

-- a source becomes some text or is refused
abbrev pub HasAnswer : List ℕ → List ℕ → List Message → Type 0
HasAnswer file source dictionary =
    ((text : List ℕ) × (count : ℕ) × InjectsSource file source dictionary text count)
    ⊎ ((refusals : List SourceRefusal) × RefusesSource file source dictionary refusals)

-- why a source isn't rewritten
abbrev pub StopsInjection : List ℕ → List ℕ → List Message → InjectFault → Type 0
StopsInjection file source dictionary (faults.Bad refusals) = RefusesSource file source dictionary refusals.items
StopsInjection file source dictionary faults.NoMemory = Unit {0}
