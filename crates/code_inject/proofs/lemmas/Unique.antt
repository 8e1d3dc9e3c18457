-- What becomes of a source is one thing.
use Rattle.std.proofs.Common.{◌≡◌, ℕ, ◌<◌, List, [], ◌∷◌, length, get_or, sym, subst, ap, ◌∙◌, inl, inr, arith}
use Rattle.std.proofs.lemmas.Bool.{cases_lt}
use Rattle.std.proofs.lemmas.Option.{slice_get_within, get_or_from_slice_get}
use Rattle.log_dictionary.specs.declared.message.Message.{Message}
use Rattle.log_dictionary.specs.Messages.{SameMessage, HasMessage, HasId, AreDistinct}
use Rattle.log_dictionary.proofs.lemmas.Distinct.{id_is_there}
use Rattle.source_scan.specs.declared.found.Found.{Found}
use Rattle.source_scan.specs.declared.found.Found.TheVariants as found
use Rattle.source_scan.specs.declared.found.Statement.{Statement}
use Rattle.source_scan.proofs.lemmas.Unique.{statements_once}
use Rattle.preprocessor.specs.declared.refusal.SourceRefusal.{SourceRefusal}
use Rattle.preprocessor.proofs.lemmas.Finding.{message_once}
use Rattle.code_inject.specs.declared.rewrite.Rewrite.{Rewrite}
use Rattle.code_inject.specs.Rewrites.{rewritten_from}
use Rattle.code_inject.specs.Outcomes.{Outcome, IsKnown, IsUnknown, IsOutcome, AreOutcomes, rewrites_in, refusals_in}
use Rattle.code_inject.specs.Injected.{InjectsSource, RefusesSource}

-- ---- one message

-- of two ids of a message the first isn't the lower one
not_below : (dictionary : List Message) (message : Message) (i j : ℕ) → AreDistinct dictionary → HasId dictionary message i → HasId dictionary message j → i < j → ⊥
not_below dictionary message i j distinct (a, at_a, same_a) (b, at_b, same_b) below =
    let is_a = get_or_from_slice_get dictionary i a message at_a in
    let is_b = get_or_from_slice_get dictionary j b message at_b in
    let same : SameMessage a b = record { file = sym same_a.file ∙ same_b.file; line = sym same_a.line ∙ same_b.line; severity = sym same_a.severity ∙ same_b.severity; format = sym same_a.format ∙ same_b.format } in
    distinct i j message below (slice_get_within dictionary j b at_b) (subst (λ (m : Message). SameMessage m (get_or dictionary j message)) (sym is_a) (subst (SameMessage a) (sym is_b) same))

id_once : (dictionary : List Message) (message : Message) (i j : ℕ) → AreDistinct dictionary → HasId dictionary message i → HasId dictionary message j → i ≡ j
id_once dictionary message i j distinct here there =
    elim (cases_lt i j) [
      | inl below ↦ absurd (not_below dictionary message i j distinct here there below)
      | inr above ↦ elim (cases_lt j i) [
        | inl below ↦ absurd (not_below dictionary message j i distinct there here below)
        | inr same ↦ omega (arith, above, same)
      ]
    ]

-- ---- one outcome

rewrite_same : (start from head comma id number : ℕ) → start ≡ from → head ≡ comma → id ≡ number → (let a : Rewrite = record { start = start; head = head; id = id } in let b : Rewrite = record { start = from; head = comma; id = number } in a ≡ b)
rewrite_same start from head comma id number s h i = cc

known_once : (dictionary : List Message) (statement : Statement) (a b : Rewrite) → AreDistinct dictionary → IsKnown dictionary statement a → IsKnown dictionary statement b → a ≡ b
known_once dictionary statement a b distinct here there =
    let message : there.message ≡ here.message = message_once statement there.message here.message there.is here.is in
    let id = id_once dictionary here.message a.id b.id distinct here.has (subst (λ (m : Message). HasId dictionary m b.id) message there.has) in
    rewrite_same a.start b.start a.head b.head a.id b.id (here.start ∙ sym there.start) (here.head ∙ sym there.head) id

never_both : (dictionary : List Message) (statement : Statement) (rewrite : Rewrite) (refusal : SourceRefusal) → IsKnown dictionary statement rewrite → IsUnknown dictionary statement refusal → ⊥
never_both dictionary statement rewrite refusal known unknown =
    unknown.has_none (subst (HasMessage dictionary) (message_once statement known.message unknown.message known.is unknown.is) (id_is_there dictionary known.message rewrite.id known.has))

outcome_once : (dictionary : List Message) (one : Found) (a b : Outcome) → AreDistinct dictionary → IsOutcome dictionary one a → IsOutcome dictionary one b → a ≡ b
outcome_once dictionary (found.Statement statement) (Outcome.rewritten a) (Outcome.rewritten b) distinct here there = ap Outcome.rewritten (known_once dictionary statement a b distinct here there)
outcome_once dictionary (found.Statement statement) (Outcome.rewritten a) (Outcome.refused b) distinct here there = absurd (never_both dictionary statement a b here there)
outcome_once dictionary (found.Statement statement) (Outcome.refused a) (Outcome.rewritten b) distinct here there = absurd (never_both dictionary statement b a there here)
outcome_once dictionary (found.Statement statement) (Outcome.refused a) (Outcome.refused b) distinct here there = ap Outcome.refused (here.refusal_is ∙ sym there.refusal_is)
outcome_once dictionary (found.Bad bad) (Outcome.rewritten a) b distinct here there = absurd here
outcome_once dictionary (found.Bad bad) (Outcome.refused a) (Outcome.rewritten b) distinct here there = absurd there
outcome_once dictionary (found.Bad bad) (Outcome.refused a) (Outcome.refused b) distinct here there = ap Outcome.refused (here ∙ sym there)

outcomes_once : (dictionary : List Message) (list : List Found) (outcomes others : List Outcome) → AreDistinct dictionary → AreOutcomes dictionary list outcomes → AreOutcomes dictionary list others → outcomes ≡ others
outcomes_once dictionary [] outcomes others distinct here there = here ∙ sym there
outcomes_once dictionary (one ∷ list) outcomes others distinct (a, behind_a, joined_a, is_a, here) (b, behind_b, joined_b, is_b, there) =
    let first = outcome_once dictionary one a b distinct is_a is_b in
    let rest = outcomes_once dictionary list behind_a behind_b distinct here there in
    joined_a ∙ (λ i. first i ∷ rest i) ∙ sym joined_b

-- the same of one source
same_outcomes : (dictionary : List Message) (list more : List Found) (outcomes others : List Outcome) → AreDistinct dictionary → list ≡ more → AreOutcomes dictionary list outcomes → AreOutcomes dictionary more others → outcomes ≡ others
same_outcomes dictionary list more outcomes others distinct same here there = outcomes_once dictionary list outcomes others distinct here (subst (λ (l : List Found). AreOutcomes dictionary l others) (sym same) there)

-- ---- one answer

pub text_once : (file source : List ℕ) (dictionary : List Message) (text other : List ℕ) (n m : ℕ) → AreDistinct dictionary → InjectsSource file source dictionary text n → InjectsSource file source dictionary other m → (text ≡ other) × (n ≡ m)
text_once file source dictionary text other n m distinct here there =
    let list : here.found ≡ there.found = statements_once file source here.found there.found here.statements there.statements in
    let outcomes = same_outcomes dictionary here.found there.found here.injected.outcomes there.injected.outcomes distinct list here.injected.are there.injected.are in (
      here.injected.text_is ∙ ap (λ (l : List Outcome). rewritten_from source 0 (rewrites_in l)) outcomes ∙ sym there.injected.text_is,
      here.count_is ∙ ap length list ∙ sym there.count_is,
    )

pub refusals_once : (file source : List ℕ) (dictionary : List Message) (refusals others : List SourceRefusal) → AreDistinct dictionary → RefusesSource file source dictionary refusals → RefusesSource file source dictionary others → refusals ≡ others
refusals_once file source dictionary refusals others distinct here there =
    let list : here.found ≡ there.found = statements_once file source here.found there.found here.statements there.statements in
    here.refused.refusals_are ∙ ap refusals_in (same_outcomes dictionary here.found there.found here.refused.outcomes there.refused.outcomes distinct list here.refused.are there.refused.are) ∙ sym there.refused.refusals_are

pub apart : (file source : List ℕ) (dictionary : List Message) (text : List ℕ) (n : ℕ) (refusals : List SourceRefusal) → AreDistinct dictionary → InjectsSource file source dictionary text n → RefusesSource file source dictionary refusals → ⊥
apart file source dictionary text n refusals distinct here there =
    let list : here.found ≡ there.found = statements_once file source here.found there.found here.statements there.statements in
    let outcomes = same_outcomes dictionary here.found there.found here.injected.outcomes there.refused.outcomes distinct list here.injected.are there.refused.are in
    there.refused.some (there.refused.refusals_are ∙ sym (ap refusals_in outcomes) ∙ here.injected.none_refused)
