use Rattle.std.proofs.Common.{◌+◌, ℕ, drop, sym, ap, ◌∙◌, arith}
use Rattle.std.specs.Option.{option_map}
use Rattle.source_scan.specs.Arguments.{closing_from}
use Rattle.source_scan.proofs.Commas.{closing-found, closing-passed, closing-missing}
use Rattle.source_scan.proofs.arguments.closing_place.Goals as goal

pub returns-then-is_bare-clause-place : goal.returns-then-is_bare-clause-place
returns-then-is_bare-clause-place c = closing-found c.args.tokens.now c.loop-place.place c.loop-place.depth _ c.loop-place-test.true c.loop-place.invariant.1 (sym c.is_bare.ensures ∙ c.if-is_bare.true)

pub loop-place-preserved : goal.loop-place-preserved
loop-place-preserved c =
    let passed = closing-passed c.args.tokens.now c.loop-place.place c.loop-place.depth _ c.loop-place-test.true c.loop-place.invariant.1 (sym c.is_bare.ensures ∙ c.if-is_bare.false) in
    let next = ap (λ (depth : ℕ). option_map (λ n. (c.loop-place.place + 1) + n) (closing_from depth (drop (c.loop-place.place + 1) c.args.tokens.now))) (sym c.depth_behind-depth.ensures) in
    (grind (arith, c.depth_behind-depth.ensures, c.loop-place.invariant.0), passed ∙ next)

pub returns-clause-place : goal.returns-clause-place
returns-clause-place c = closing-missing c.args.tokens.now c.loop-place.place c.loop-place.depth c.loop-place-test.false c.loop-place.invariant.1
