-- Sources that are rewritten whole.
use Rattle.std.proofs.Common.{◌≡◌, ℕ, List, [], length, sym, subst, ap, ◌∙◌, arith}
use Rattle.log_dictionary.specs.declared.message.Message.{Message}
use Rattle.source_scan.specs.declared.found.Found.{Found}
use Rattle.source_scan.specs.Statements.{Statements}
use Rattle.source_scan.proofs.lemmas.Order.{statements_stand}
use Rattle.code_inject.specs.declared.rewrite.Rewrite.{Rewrite}
use Rattle.code_inject.specs.declared.outcomes.Outcomes.{Outcomes}
use Rattle.code_inject.specs.Rewrites.{rewritten_from, HeadsFrom}
use Rattle.code_inject.specs.Outcomes.{HoldsOutcomes}
use Rattle.code_inject.specs.Injected.{InjectsSource}
use Rattle.code_inject.proofs.Gathered.{as_many, heads_stand}

-- the heads of a source's statements stand in it
pub heads_in : (file source : List ℕ) (list : List Found) (dictionary : List Message) (held : Outcomes) → Statements file source list → HoldsOutcomes dictionary list held → HeadsFrom 0 held.rewrites.items (length source)
heads_in file source list dictionary held statements holds =
    subst (λ (l : List Rewrite). HeadsFrom 0 l (length source)) (sym holds.rewrites) (heads_stand dictionary list holds.outcomes 0 0 (length source) holds.are (omega arith) (statements_stand file source list statements))

-- where none is refused, the text is what the source becomes
pub injects : (file source : List ℕ) (list : List Found) (dictionary : List Message) (held : Outcomes) (count : ℕ) → Statements file source list → HoldsOutcomes dictionary list held → held.refusals.items ≡ [] → count ≡ length held.rewrites.items
    → InjectsSource file source dictionary (rewritten_from source 0 held.rewrites.items) count
injects file source list dictionary held count statements holds none is =
    let empty = sym holds.refusals ∙ none in
    record {
      found = list;
      statements = statements;
      injected = record { outcomes = holds.outcomes; are = holds.are; none_refused = empty; text_is = ap (rewritten_from source 0) holds.rewrites };
      count_is = is ∙ ap length holds.rewrites ∙ as_many dictionary list holds.outcomes holds.are empty;
    }
