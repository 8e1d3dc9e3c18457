use Rattle.std.proofs.Common.{◌<◌, ◌++◌, ◌∷◌, [], length, arith}
use Rattle.std.proofs.lemmas.List.{length-append}
use Rattle.std.specs.Vec.{vec_capacity}
use Rattle.trace_session.specs.Finishing.{AreDone}
use Rattle.trace_session.specs.FinishedInside.{finished_of}
use Rattle.trace_session.proofs.Leaving.{done_add, done_same, drops_fit}
use Rattle.trace_session.proofs.finishing.Finished.add.Goals as goal
use Rattle.trace_session.proofs.finishing.Finished.add.Goals.{After-self}

-- what the worker leaves is put to what others left, and there is such a writer
added : (g : _) (c : After-self g)
    → AreDone g.S.StageIn.sent g.S.StageIn.closed (record (finished_of c.self.inside) {
      drops = c.self.inside.drops.items ++ c.into_parts-writer.result.1.items;
      writers = c.self.inside.writers.items ++ c.into_parts-writer.result.0 ∷ [];
    }) × (length c.self.inside.writers.items < length c.self.inside.trace.now.writers)
added g c =
    let parts = c.into_parts-writer.ensures in
    done_add g.S.StageIn.pair g.S.StageIn.plan g.S.StageIn.words g.S.StageIn.sent g.S.StageIn.at g.S.StageIn.seen g.S.StageIn.closed
    (finished_of c.self.inside) c.args.self.now c.args.worker c.into_parts-writer.result.0 c.into_parts-writer.result.1.items c.self.view_is c.self.invariant.0 c.requires.next c.requires.finished
    parts.worked parts.writer parts.drops

pub unreachable-requires : goal.unreachable-requires
unreachable-requires g c =
    let inside = c.self.inside in
    let more = c.into_parts-writer.result.1 in
    let done = (added g (goal.at.unreachable-requires g c).After-self).0 in
    let fit = drops_fit g.S.StageIn.sent g.S.StageIn.closed _ (vec_capacity inside.drops) done c.self.invariant.1.drops in
    omega (arith, fit, length-append inside.drops.items more.items, inside.drops.ok.0, more.ok.0, c.in_default.ensures.full)

pub push_reserved-requires : goal.push_reserved-requires
push_reserved-requires g c =
    let within = (added g (goal.at.push_reserved-requires g c).After-self).1 in
    let v = c.self.inside.writers.ok in
    omega (arith, within, v.0, c.self.invariant.1.writers)

pub invariant_of-self : goal.invariant_of-self
invariant_of-self g c =
    let inside = c.self.inside in
    let done = (added g (goal.at.invariant_of-self g c).After-self).0 in (
      done_same g.S.StageIn.sent g.S.StageIn.closed (finished_of inside) _ c.append.new.self.items _ c.push_reserved.new.self.items done c.in-Ok.ensures.items c.push_reserved.ensures.items,
      record {
        writers = omega (arith, c.push_reserved.ensures.capacity, c.self.invariant.1.writers);
        drops = λ shed. omega (arith, c.append.ensures.capacity, c.self.invariant.1.drops shed);
      },
    )
