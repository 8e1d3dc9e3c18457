use Rattle.std.proofs.Common.{◌∙◌, sym, ap, nat_eq}
use Rattle.std.specs.List.{starts_with}
use Rattle.source_scan.proofs.Texts.{before-here, before-more, before-all}
use Rattle.source_scan.proofs.literals.before_text.Goals as goal

pub returns-then-starts_with : goal.returns-then-starts_with
returns-then-starts_with c =
    let here = ap (λ rest. starts_with nat_eq rest c.args.others.now) (sym c.split_at.ensures.back) ∙ sym c.starts_with.ensures.value ∙ c.if-starts_with.true in
    rw c.split_at.ensures.front (before-here c.args.others.now c.args.bytes.now c.loop-place.place c.loop-place-test.true c.loop-place.invariant here)

pub loop-place-preserved : goal.loop-place-preserved
loop-place-preserved c =
    let here = ap (λ rest. starts_with nat_eq rest c.args.others.now) (sym c.split_at.ensures.back) ∙ sym c.starts_with.ensures.value ∙ c.if-starts_with.false in
    before-more c.args.others.now c.args.bytes.now c.loop-place.place c.loop-place-test.true c.loop-place.invariant here

pub returns : goal.returns
returns c = before-all c.args.others.now c.args.bytes.now c.loop-place.place c.loop-place-test.false c.loop-place.invariant
