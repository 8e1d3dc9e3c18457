use Rattle.std.proofs.Common.{sym, ◌∙◌, ap, arith}
use Rattle.source_scan.specs.Positions.{in_force_of, changed_to}
use Rattle.source_scan.proofs.Fronts.{behind}
use Rattle.source_scan.proofs.Moving.{moved-stops, moved-on, moved-all}
use Rattle.source_scan.proofs.cursor.past_changes.Goals as goal

pub returns-then-placed-place-clause-none : goal.returns-then-placed-place-clause-none
returns-then-placed-place-clause-none c = moved-stops c.args.place (in_force_of c.loop-changes.position) c.loop-changes.changes.now c.placed-item.result c.in-len1-up.len_at_least c.placed-item.is c.if-placed-place.true

pub loop-changes-preserved : goal.loop-changes-preserved
loop-changes-preserved c =
    let near = c.if-placed-place.false in
    let from = ap (λ one. one.from) c.changed-position.ensures in
    record {
      from = omega (arith, from, near);
      same = λ k far.
          c.loop-changes.invariant.same k far ∙ moved-on k (in_force_of c.loop-changes.position) c.loop-changes.changes.now c.placed-item.result c.in-len1-up.len_at_least c.placed-item.is (omega (arith, near, far))
          ∙ ap (λ before. changed_to k before (behind c.loop-changes.changes.now)) (sym c.changed-position.ensures);
    }

pub returns-clause-none : goal.returns-clause-none
returns-clause-none c = moved-all c.args.place (in_force_of c.loop-changes.position) c.loop-changes.changes.now c.in_default.len_below
