-- A rewritten source beside its source.
use Rattle.std.proofs.Common.{◌≡◌, ℕ, ◌+◌, ◌-◌, ◌≤◌, List, [], ◌∷◌, ◌++◌, length, drop, refl, sym, subst, ap, ◌∙◌, append_assoc, arith}
use Rattle.std.specs.Prelude.{flat_map, slice_range}
use Rattle.std.proofs.lemmas.List.{length-take-le, length-drop}
use Rattle.std.proofs.lemmas.List.Folds.{drop_split}
use Rattle.log_dictionary.specs.declared.message.Message.{Message}
use Rattle.source_scan.specs.declared.found.Found.{Found}
use Rattle.source_scan.specs.declared.found.Found.TheVariants as found
use Rattle.source_scan.specs.declared.found.Statement.{Statement}
use Rattle.source_scan.specs.Spans.{StandFrom}
use Rattle.source_scan.specs.Statements.{Statements}
use Rattle.source_scan.proofs.lemmas.Order.{statements_stand}
use Rattle.code_inject.specs.declared.rewrite.Rewrite.{Rewrite}
use Rattle.code_inject.specs.Rewrites.{call_by_id, rewritten_from}
use Rattle.code_inject.specs.Outcomes.{Outcome, IsKnown, AreOutcomes, rewrites_in, refusals_in}
use Rattle.code_inject.specs.Injected.{Injected}
use Rattle.code_inject.specs.Pieces.{Piece, piece_source, piece_text, AreHeads, DiffersInHeads}

stand_ends : (from : ℕ) (list : List Found) (to : ℕ) → StandFrom from list to → from ≤ to
stand_ends from [] to stand = stand
stand_ends from (found.Statement statement ∷ list) to stand = omega (arith, stand.0, stand.1, stand.2, stand_ends statement.end list to stand.3)
stand_ends from (found.Bad bad ∷ list) to stand = stand_ends from list to stand

length_between : (source : List ℕ) (from to : ℕ) → from ≤ to → to ≤ length source → from + length (slice_range source from to) ≡ to
length_between source from to before within = omega (arith, before, within, length-take-le (to - from) (drop from source), length-drop from source)

-- the source and its text from a place on
record Differs (source : List ℕ) (dictionary : List Message) (from : ℕ) (list : List Found) (outcomes : List Outcome) : Type 0 where
  pub pieces : List Piece
  pub rest : List ℕ
  pub source_is : drop from source ≡ flat_map piece_source pieces ++ rest
  pub text_is : rewritten_from source from (rewrites_in outcomes) ≡ flat_map piece_text pieces ++ rest
  pub heads : AreHeads dictionary from pieces list

regroup : (kept head later rest : List ℕ) → kept ++ (head ++ (later ++ rest)) ≡ ((kept ++ head) ++ later) ++ rest
regroup kept head later rest = simp append_assoc

source_joined : (source : List ℕ) (from start head : ℕ) (later rest : List ℕ) → from ≤ start → start ≤ head → drop head source ≡ later ++ rest → drop from source ≡ ((slice_range source from start ++ slice_range source start head) ++ later) ++ rest
source_joined source from start head later rest first second behind =
    drop_split source from start first
    ∙ ap (λ (l : List ℕ). slice_range source from start ++ l) (drop_split source start head second ∙ ap (λ (l : List ℕ). slice_range source start head ++ l) behind)
    ∙ regroup (slice_range source from start) (slice_range source start head) later rest

-- with a head more in front
one_more : (source : List ℕ) (dictionary : List Message) (from : ℕ) (statement : Statement) (rewrite : Rewrite) (list : List Found) (outcomes : List Outcome) → IsKnown dictionary statement rewrite → from ≤ rewrite.start → rewrite.start ≤ rewrite.head → rewrite.head ≤ length source
    → Differs source dictionary rewrite.head list outcomes → Differs source dictionary from (found.Statement statement ∷ list) (Outcome.rewritten rewrite ∷ outcomes)
unfolding rewritten_from
one_more source dictionary from statement rewrite list outcomes is first second within behind =
    let kept : List ℕ = slice_range source from rewrite.start in
    let head : List ℕ = slice_range source rewrite.start rewrite.head in
    let kept_long = length_between source from rewrite.start first (omega (arith, second, within)) in
    let head_long = length_between source rewrite.start rewrite.head second within in
    record {
      pieces = record { kept = kept; head = head; id = rewrite.id } ∷ behind.pieces;
      rest = behind.rest;
      source_is = source_joined source from rewrite.start rewrite.head _ behind.rest first second behind.source_is;
      text_is = ap (λ (l : List ℕ). (kept ++ call_by_id rewrite.id head) ++ l) behind.text_is ∙ sym (append_assoc (kept ++ call_by_id rewrite.id head) (flat_map piece_text behind.pieces) behind.rest);
      heads = (record { message = is.message; is = is.is; has = is.has; start = kept_long ∙ is.start; head = omega (arith, kept_long, head_long, is.head) }, subst (λ (n : ℕ). AreHeads dictionary n behind.pieces list) is.head behind.heads);
    }

differs : (source : List ℕ) (dictionary : List Message) (from later : ℕ) (list : List Found) (outcomes : List Outcome) → AreOutcomes dictionary list outcomes → refusals_in outcomes ≡ [] → from ≤ later → StandFrom later list (length source) → Differs source dictionary from list outcomes
unfolding rewritten_from
differs source dictionary from later [] outcomes are none before stand = record { pieces = []; rest = drop from source; source_is = refl; text_is = ap (λ (l : List Outcome). rewritten_from source from (rewrites_in l)) are; heads = refl }
differs source dictionary from later (found.Bad bad ∷ list) outcomes (Outcome.rewritten rewrite, others, joined, is, are) none before stand = absurd is
differs source dictionary from later (one ∷ list) outcomes (Outcome.refused refusal, others, joined, is, are) none before stand = absurd (omega (arith, ap length (sym (ap refusals_in joined) ∙ none)))
differs source dictionary from later (found.Statement statement ∷ list) outcomes (Outcome.rewritten rewrite, others, joined, is, are) none before stand =
    subst (Differs source dictionary from (found.Statement statement ∷ list)) (sym joined)
    (one_more source dictionary from statement rewrite list others is (omega (arith, before, stand.0, is.start)) (omega (arith, stand.1, is.start, is.head)) (omega (arith, is.head, stand.2, stand_ends statement.end list (length source) stand.3))
    (differs source dictionary rewrite.head statement.end list others are (sym (ap refusals_in joined) ∙ none) (omega (arith, stand.2, is.head)) stand.3))

pub differ_in_heads : (file source text : List ℕ) (list : List Found) (dictionary : List Message) → Statements file source list → Injected source list dictionary text → DiffersInHeads source list dictionary text
differ_in_heads file source text list dictionary statements injected =
    let whole = differs source dictionary 0 0 list injected.outcomes injected.are injected.none_refused (omega arith) (statements_stand file source list statements) in
    record { pieces = whole.pieces; rest = whole.rest; source_is = whole.source_is; text_is = injected.text_is ∙ whole.text_is; heads = whole.heads }
