-- What becomes of statements, gathered one by one.
use Rattle.std.proofs.Common.{◌≡◌, ℕ, suc, ◌+◌, ◌≤◌, List, [], ◌∷◌, ◌++◌, length, refl, sym, subst, ap, ◌∙◌, arith}
use Rattle.std.proofs.lemmas.Grind.{flat_map-append}
use Rattle.std.proofs.lemmas.List.{append-nil}
use Rattle.log_dictionary.specs.declared.message.Message.{Message}
use Rattle.source_scan.specs.declared.found.Found.{Found}
use Rattle.source_scan.specs.declared.found.Found.TheVariants as found
use Rattle.source_scan.specs.Spans.{StandFrom}
use Rattle.preprocessor.specs.declared.refusal.SourceRefusal.{SourceRefusal}
use Rattle.preprocessor.specs.declared.refusal.RefusalCause.{RefusalCause}
use Rattle.code_inject.specs.declared.rewrite.Rewrite.{Rewrite}
use Rattle.code_inject.specs.declared.outcomes.Outcomes.{Outcomes}
use Rattle.code_inject.specs.Rewrites.{HeadsFrom}
use Rattle.code_inject.specs.Outcomes.{Outcome, IsOutcome, AreOutcomes, outcome_rewrites, outcome_refusals, rewrites_in, refusals_in, HoldsOutcomes}

-- ---- one more

are_more : (dictionary : List Message) (list : List Found) (one : Found) (outcomes : List Outcome) (outcome : Outcome) → AreOutcomes dictionary list outcomes → IsOutcome dictionary one outcome → AreOutcomes dictionary (list ++ one ∷ []) (outcomes ++ outcome ∷ [])
are_more dictionary [] one outcomes outcome are is = (outcome, [], ap (λ (front : List Outcome). front ++ outcome ∷ []) are, is, refl)
are_more dictionary (first ∷ list) one outcomes outcome (head, others, joined, at, later) is =
    (head, others ++ outcome ∷ [], ap (λ (front : List Outcome). front ++ outcome ∷ []) joined, at, are_more dictionary list one others outcome later is)

-- what is held with one more
pub holds_more : (dictionary : List Message) (list : List Found) (one : Found) (outcome : Outcome) (held next : Outcomes) → IsOutcome dictionary one outcome → next.rewrites.items ≡ held.rewrites.items ++ outcome_rewrites outcome → next.refusals.items ≡ held.refusals.items ++ outcome_refusals outcome
    → HoldsOutcomes dictionary list held → HoldsOutcomes dictionary (list ++ one ∷ []) next
holds_more dictionary list one outcome held next is rewrites refusals holds = record {
  outcomes = holds.outcomes ++ outcome ∷ [];
  are = are_more dictionary list one holds.outcomes outcome holds.are is;
  rewrites = rewrites ∙ ap (λ (l : List Rewrite). l ++ outcome_rewrites outcome) holds.rewrites ∙ ap (λ (l : List Rewrite). rewrites_in holds.outcomes ++ l) (sym (append-nil (outcome_rewrites outcome))) ∙ sym (flat_map-append outcome_rewrites holds.outcomes (outcome ∷ []));
  refusals = refusals ∙ ap (λ (l : List SourceRefusal). l ++ outcome_refusals outcome) holds.refusals ∙ ap (λ (l : List SourceRefusal). refusals_in holds.outcomes ++ l) (sym (append-nil (outcome_refusals outcome))) ∙ sym (flat_map-append outcome_refusals holds.outcomes (outcome ∷ []));
}

-- ---- where none is refused

pub as_many : (dictionary : List Message) (list : List Found) (outcomes : List Outcome) → AreOutcomes dictionary list outcomes → refusals_in outcomes ≡ [] → length (rewrites_in outcomes) ≡ length list
as_many dictionary [] outcomes are none = ap (λ (l : List Outcome). length (rewrites_in l)) are
as_many dictionary (one ∷ list) outcomes (Outcome.rewritten rewrite, others, joined, is, later) none =
    let rest = as_many dictionary list others later (sym (ap refusals_in joined) ∙ none) in
    ap (λ (l : List Outcome). length (rewrites_in l)) joined ∙ ap suc rest
as_many dictionary (one ∷ list) outcomes (Outcome.refused refusal, others, joined, is, later) none = absurd (omega (arith, ap length (sym (ap refusals_in joined) ∙ none)))

-- the heads stand one behind the other, as the statements do
pub heads_stand : (dictionary : List Message) (list : List Found) (outcomes : List Outcome) (from later to : ℕ) → AreOutcomes dictionary list outcomes → from ≤ later → StandFrom later list to → HeadsFrom from (rewrites_in outcomes) to
heads_stand dictionary [] outcomes from later to are before stand = subst (λ (l : List Outcome). HeadsFrom from (rewrites_in l) to) (sym are) (omega (arith, before, stand))
heads_stand dictionary (found.Statement statement ∷ list) outcomes from later to (Outcome.rewritten rewrite, others, joined, is, are) before stand =
    subst (λ (l : List Outcome). HeadsFrom from (rewrites_in l) to) (sym joined) (
      omega (arith, before, stand.0, is.start),
      omega (arith, stand.1, is.start, is.head),
      heads_stand dictionary list others rewrite.head statement.end to are (omega (arith, stand.2, is.head)) stand.3,
    )
heads_stand dictionary (found.Statement statement ∷ list) outcomes from later to (Outcome.refused refusal, others, joined, is, are) before stand =
    subst (λ (l : List Outcome). HeadsFrom from (rewrites_in l) to) (sym joined) (heads_stand dictionary list others from statement.end to are (omega (arith, before, stand.0, stand.1, stand.2)) stand.3)
heads_stand dictionary (found.Bad bad ∷ list) outcomes from later to (Outcome.rewritten rewrite, others, joined, is, are) before stand = absurd is
heads_stand dictionary (found.Bad bad ∷ list) outcomes from later to (Outcome.refused refusal, others, joined, is, are) before stand =
    subst (λ (l : List Outcome). HeadsFrom from (rewrites_in l) to) (sym joined) (heads_stand dictionary list others from later to are before stand)

-- there are no more of them than places
pub heads_few : (rewrites : List Rewrite) (from to : ℕ) → HeadsFrom from rewrites to → from + length rewrites ≤ to
heads_few [] from to heads = omega (arith, heads)
heads_few (rewrite ∷ rewrites) from to heads = omega (arith, heads.0, heads.1, heads_few rewrites rewrite.head to heads.2)

pub heads_end : (rewrites : List Rewrite) (from to : ℕ) → HeadsFrom from rewrites to → from ≤ to
heads_end rewrites from to heads = omega (arith, heads_few rewrites from to heads)

-- ---- refusals

pub refusal_same : (file name : List ℕ) (line number : ℕ) (cause : RefusalCause) → file ≡ name → line ≡ number → (let a : SourceRefusal = record { file = file; line = line; cause = cause } in let b : SourceRefusal = record { file = name; line = number; cause = cause } in a ≡ b)
refusal_same file name line number cause f l = cc
