use Rattle.std.proofs.Common.{ap, ◌∙◌, arith}
use Rattle.std.specs.List.{position_or_len}
use Rattle.std.proofs.lemmas.Grind.{common_steps}
use Rattle.std.proofs.lemmas.List.Sums.{fails_before_first}
use Rattle.stamp_merge.specs.Mergers.{wants}
use Rattle.stamp_merge.proofs.Winners.{first_is_there, want_follows, root_there, take_follows, done_follows}
use Rattle.stamp_merge.proofs.merger.Merger.next.Goals as goal

-- ---- some list wants a head

pub overflow_cast-result : goal.overflow_cast-result
overflow_cast-result c =
    let keeps = c.self.invariant in
    let place = c.first_wanting-self-inside.ensures ∙ ap (position_or_len wants) c.deref.ensures.value in
    omega (arith, keeps.few, place, first_is_there c.self.inside.lists.items (omega (arith, keeps.counted)))

pub invariant_of-self : goal.invariant_of-self
invariant_of-self c =
    let place = c.first_wanting-self-inside.ensures ∙ ap (position_or_len wants) c.deref.ensures.value in
    grind (arith, common_steps, fails_before_first)

pub returns-then-self-gt0 : goal.returns-then-self-gt0
returns-then-self-gt0 c =
    let place = c.first_wanting-self-inside.ensures ∙ ap (position_or_len wants) c.deref.ensures.value in
    want_follows _ _ _ _ _ c.self.view_is c.self.invariant c.first_wanting-self-inside.result (omega arith) place

-- ---- there is no head

pub returns-then-key : goal.returns-then-key
returns-then-key c =
    done_follows _ _ _ _ _ c.self.view_is c.self.invariant c.index-key.result.now c.index-key.ensures (omega arith) c.if-key.true

-- ---- a head is taken

pub index_mut-list-requires : goal.index_mut-list-requires
index_mut-list-requires c =
    omega (arith, root_there _ _ _ _ _ c.self.view_is c.self.invariant c.index-key.result.now c.index-key.ensures (omega arith) c.if-key.false)

pub play-requires-clause-there : goal.play-requires-clause-there
play-requires-clause-there c =
    let within = root_there _ _ _ _ _ c.self.view_is c.self.invariant c.index-key.result.now c.index-key.ensures (omega arith) c.if-key.false in
    omega (arith, c.deref_mut.ensures.len, c.self.invariant.enough)

pub invariant_of-self-then-list : goal.invariant_of-self-then-list
invariant_of-self-then-list c =
    let within = root_there _ _ _ _ _ c.self.view_is c.self.invariant c.index-key.result.now c.index-key.ensures (omega arith) c.if-key.false in
    grind (arith, common_steps)

pub invariant_of-self-else-list : goal.invariant_of-self-else-list
invariant_of-self-else-list c =
    let within = root_there _ _ _ _ _ c.self.view_is c.self.invariant c.index-key.result.now c.index-key.ensures (omega arith) c.if-key.false in
    grind (arith, common_steps)

pub returns-then-list : goal.returns-then-list
returns-then-list c =
    take_follows _ _ _ _ _ c.self.view_is c.self.invariant c.index-key.result.now c.index-key.ensures (omega arith) c.if-key.false c.index_mut-list.result.now c.index_mut-list.ensures.value

pub returns-else-list : goal.returns-else-list
returns-else-list c =
    take_follows _ _ _ _ _ c.self.view_is c.self.invariant c.index-key.result.now c.index-key.ensures (omega arith) c.if-key.false c.index_mut-list.result.now c.index_mut-list.ensures.value
