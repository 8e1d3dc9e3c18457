-- Writers: what one knows of the calls that it logged.
use Rattle.std.proofs.Common.{ap, ◌∙◌}
use Rattle.std.proofs.lemmas.Option.{slice_get-map}
use Rattle.std.specs.Prelude.{◌≡◌, ℕ, ◌≤◌, List, [], ◌∷◌, ◌++◌, length, slice_get, Some, All, option_map, ⊤}
use Rattle.printf_grammar.specs.declared.arg_type.ArgType.{ArgType}
use Rattle.printf_grammar.specs.declared.argument.Value.{Value}
use Rattle.printf_grammar.specs.declared.limits.TheConstants.{MAX_ARGUMENTS}
use Rattle.printf_grammar.specs.Types.{Types, Fits}
use Rattle.log_dictionary.specs.declared.dictionary.TheConstants.{MAX_MESSAGES}
use Rattle.log_dictionary.specs.declared.message.Message.{Message}
use Rattle.log_dictionary.specs.Calls.{Takes}
use Rattle.session_options.specs.declared.limits.TheConstants.{MAX_RING, MIN_RING}
use Rattle.arg_records.specs.declared.call.Call.{Call}
use Rattle.arg_records.specs.Calls.{last_stamp}
use Rattle.ring_core.specs.declared.answers.Full.{Full}
use Rattle.ring_core.specs.Plans.{Plan, plan_of, AreFramesOf}
use Rattle.ring_core.specs.Positions.{Position}
use Rattle.log_session.specs.declared.refusal.LogRefusal.{LogRefusal}
use Rattle.log_session.specs.declared.refusal.LogRefusal.TheVariants as refusals
use Rattle.log_session.specs.declared.refusal.JudgedRefusal.{JudgedRefusal}
use Rattle.log_session.specs.declared.refusal.JudgedRefusal.TheVariants as judged

-- a writer as contracts see it: the end of its ring, the stamp of its last call, the number of its calls, and how often
-- it was asked to log one
pub record WriterView (S : Type 0) : Type 0 where
  pub end : S
  pub last : ℕ
  pub accepted : ℕ
  pub asked : ℕ

-- the plan is one of a dictionary: it has so many ids at most, each with so many types at most
pub record IsDictionaryPlan (plan : Plan) : Type 0 where
  pub few : length plan.types ≤ MAX_MESSAGES
  pub short : All (λ types. length types ≤ MAX_ARGUMENTS) plan.types

-- the plan has the id, and the arguments fit its types
abbrev pub Knows : Plan → ℕ → List Value → Type 0
Knows plan id args = (types : List ArgType) × (slice_get plan.types id ≡ Some types) × Fits args types

-- what the dictionary takes for which the plan was made may be logged
pub knows_taken : (messages : List Message) (first id : ℕ) (args : List Value) → Takes messages id args
    → Knows (plan_of messages first) id args
knows_taken messages first id args takes =
    let types_of = λ (message : Message). Types message.format.pieces in (
      types_of takes.0,
      slice_get-map types_of messages id ∙ ap (option_map types_of) takes.1,
      takes.2,
    )

-- The frames that a writer's end accepted are those of calls. This is the last one's stamp, or the plan's first where
-- there is none, and this is their number. They take the places of the ring up to the end's position.
pub record HasLogged (plan : Plan) (sent : List (List ℕ)) (at words : ℕ) (last accepted : ℕ) : Type 0 where
  pub planned : IsDictionaryPlan plan
  pub ring : (MIN_RING ≤ words) × (words ≤ MAX_RING)
  pub calls : List Call
  pub frames : AreFramesOf plan sent calls
  pub last_is : last_stamp plan.first calls ≡ last
  pub placed : at ≡ Position calls words
  pub counted : accepted ≡ length calls

-- the ring's room was wanting, and this is said of it
abbrev pub IfRefusedFull : LogRefusal → (Full → Type 0) → Type 0
IfRefusedFull (refusals.Full full) said = said full
IfRefusedFull refusals.TooLong said = ⊤

-- the same where the arguments were judged too
abbrev pub IfJudgedFull : JudgedRefusal → (Full → Type 0) → Type 0
IfJudgedFull (judged.Full full) said = said full
IfJudgedFull judged.TooLong said = ⊤
IfJudgedFull judged.Misfit said = ⊤

-- all but what a call changes is as it was: which ring it is, its size and its plan, and whether it is closed
pub record IsSameEnd {S : Type 0} (pair : S → List ℕ) (words : S → ℕ) (plan : S → Plan) (old new : S) : Type 0 where
  pub same_pair : pair new ≡ pair old
  pub same_words : words new ≡ words old
  pub same_plan : plan new ≡ plan old

-- where the frames before were those of some calls, the frames after are those of these with one call more
abbrev pub AppendsCall : Plan → List (List ℕ) → Plan → List (List ℕ) → Call → Type 0
AppendsCall plan sent plan_after sent_after call =
    (calls : List Call) → AreFramesOf plan sent calls → AreFramesOf plan_after sent_after (calls ++ call ∷ [])
