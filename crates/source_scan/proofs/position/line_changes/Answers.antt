use Rattle.std.proofs.Common.{◌∙◌, sym, subst}
use Rattle.source_scan.specs.LineChanges.{ReadsDirective}
use Rattle.source_scan.proofs.ChangeLists.{changes-other, changes-none, changes-some, changes-all}
use Rattle.source_scan.proofs.position.line_changes.Goals as goal

pub loop-part-preserved-then-not-has_next_line : goal.loop-part-preserved-then-not-has_next_line
loop-part-preserved-then-not-has_next_line c = changes-other c.args.source.now c.args.parts.now c.loop-part.changes.items c.loop-part.part-index _ c.loop-part-test.true c.loop-part.invariant (sym c.has_next_line.ensures ∙ c.if-not-has_next_line.true)

pub loop-part-preserved-in_default : goal.loop-part-preserved-in_default
loop-part-preserved-in_default c =
    let reads = subst (λ bytes. ReadsDirective bytes c.in_ok-change.field-0) c.bytes_of.ensures c.in_ok-change.ensures in
    let none = subst (ReadsDirective _) c.in_default.is reads in
    changes-none c.args.source.now c.args.parts.now c.loop-part.changes.items c.loop-part.part-index _ c.loop-part-test.true c.loop-part.invariant (sym c.has_next_line.ensures ∙ c.if-not-has_next_line.false) none

pub loop-part-preserved : goal.loop-part-preserved
loop-part-preserved c =
    let reads = subst (λ bytes. ReadsDirective bytes c.in_ok-change.field-0) c.bytes_of.ensures c.in_ok-change.ensures in
    let some = subst (ReadsDirective _) c.in-Some.is reads in
    rw c.in_ok-push.ensures.items
    (changes-some c.args.source.now c.args.parts.now c.loop-part.changes.items c.loop-part.part-index _ c.in-Some.change c.loop-part-test.true c.loop-part.invariant (sym c.has_next_line.ensures ∙ c.if-not-has_next_line.false) some)

pub returns : goal.returns
returns c = changes-all c.args.source.now c.args.parts.now c.loop-part.changes.items c.loop-part.part-index c.loop-part-test.false c.loop-part.invariant
