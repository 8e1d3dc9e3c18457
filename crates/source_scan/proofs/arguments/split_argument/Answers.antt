use Rattle.std.proofs.Common.{◌+◌, ℕ, take, drop, sym, ap, ◌∙◌, arith}
use Rattle.source_scan.specs.Arguments.{parted_from}
use Rattle.source_scan.proofs.Commas.{onto_front, parted-found, parted-passed, parted-whole}
use Rattle.source_scan.proofs.arguments.split_argument.Goals as goal

pub returns-then-is_bare : goal.returns-then-is_bare
returns-then-is_bare c =
    rw (c.split_at.ensures.front, c.split_at-then-is_bare.ensures.back)
    (parted-found c.args.tokens.now c.loop-place.place c.loop-place.depth _ c.loop-place-test.true c.loop-place.invariant.1 (sym c.is_bare.ensures ∙ c.if-is_bare.true))

pub loop-place-preserved : goal.loop-place-preserved
loop-place-preserved c =
    let passed = parted-passed c.args.tokens.now c.loop-place.place c.loop-place.depth _ c.loop-place-test.true c.loop-place.invariant.1 (sym c.is_bare.ensures ∙ c.if-is_bare.false) in
    let next = ap (λ (depth : ℕ). onto_front (take (c.loop-place.place + 1) c.args.tokens.now) (parted_from depth (drop (c.loop-place.place + 1) c.args.tokens.now))) (sym c.depth_behind-depth.ensures) in
    (grind (arith, c.depth_behind-depth.ensures, c.loop-place.invariant.0), passed ∙ next)

pub returns : goal.returns
returns c = parted-whole c.args.tokens.now c.loop-place.place c.loop-place.depth c.loop-place-test.false c.loop-place.invariant.1
