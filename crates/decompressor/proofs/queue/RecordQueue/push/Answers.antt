use Rattle.std.proofs.Common.{◌≡◌, ◌≢◌, ℕ, true, false, eqb, List, [], ◌∷◌, ◌++◌, length, refl, sym, ap, subst, ◌∙◌, rules}
use Rattle.std.proofs.lemmas.Bool.{eqb-true}
use Rattle.std.proofs.lemmas.List.{nil_from_length}
use Rattle.decompressor.specs.Waiting.{QueueState, HoldsRecords}
use Rattle.decompressor.proofs.Queued.{added, added_first, none_added}
use Rattle.decompressor.proofs.queue.RecordQueue.push.Goals as goal

pub returns-then-is_empty-clause-ok : goal.returns-then-is_empty-clause-ok
returns-then-is_empty-clause-ok c records more last holds is =
    let none = nil_from_length c.args.body.now (eqb-true _ _ (sym c.is_empty.ensures ∙ c.if-is_empty.true)) in
    none_added c.args.dictionary.now c.args.base c.args.self.now c.args.body.now records more last none holds is

pub returns-then-was_empty-clause-ok : goal.returns-then-was_empty-clause-ok
returns-then-was_empty-clause-ok c records more last holds is =
    let some : c.args.body.now ≢ [] = λ none. let wrong : true ≡ false = ap (λ (b : List ℕ). eqb (length b) 0) (sym none) ∙ sym c.is_empty.ensures ∙ c.if-is_empty.false in absurd cc in
    let empty : c.self.inside.bodies ≡ [] = search rules in
    let bodies_are = c.in_ok-push.ensures.ok ∙ ap (λ (l : List (List ℕ)). l ++ c.args.body.now ∷ []) empty in
    added_first c.args.dictionary.now c.args.base c.args.self.now c.read_head.new.self c.args.body.now records more last some (ap (λ (q : QueueState). q.bodies) (sym c.self.view_is) ∙ empty)
    (c.read_head.ensures.bodies ∙ bodies_are) holds is
    (λ first own. c.read_head.ensures.read c.args.body.now [] first own last bodies_are)

pub returns-else-was_empty-clause-ok : goal.returns-else-was_empty-clause-ok
returns-else-was_empty-clause-ok c records more last holds is =
    let some : c.args.body.now ≢ [] = λ none. let wrong : true ≡ false = ap (λ (b : List ℕ). eqb (length b) 0) (sym none) ∙ sym c.is_empty.ensures ∙ c.if-is_empty.false in absurd cc in
    let waits : c.self.inside.bodies ≢ [] = search rules in
    subst (λ (q : QueueState). HoldsRecords c.args.dictionary.now c.args.base q records → HoldsRecords c.args.dictionary.now c.args.base (record { bodies = c.push.new.self; head = c.self.inside.head; place = c.self.inside.place }) (records ++ more)) c.self.view_is
    (λ before. added c.args.dictionary.now c.args.base _ _ c.args.body.now records more last some waits c.in_ok-push.ensures.ok refl refl before is) holds
