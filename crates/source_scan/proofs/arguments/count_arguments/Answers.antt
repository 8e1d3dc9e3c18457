use Rattle.std.proofs.Common.{◌+◌, ℕ, length, drop, sym, ap, ◌∙◌, arith}
use Rattle.source_scan.specs.Arguments.{parted_from}
use Rattle.source_scan.proofs.Commas.{parted-none, count-here, count-more}
use Rattle.source_scan.proofs.arguments.count_arguments.Goals as goal

pub loop-token-preserved : goal.loop-token-preserved
loop-token-preserved c =
    let more = count-more c.args.tokens.now c.loop-token.token-index c.loop-token.depth _ c.loop-token-test.true (sym c.is_bare.ensures ∙ c.if-is_bare.false) in
    let same = ap (λ (depth : ℕ). length (parted_from depth (drop (c.loop-token.token-index + 1) c.args.tokens.now))) c.depth_behind-depth.ensures in
    record {
      depth_is = grind (arith, c.depth_behind-depth.ensures, c.loop-token.invariant.depth_is);
      count_is = omega (arith, c.loop-token.invariant.count_is);
      goes = omega (arith, more, same, c.loop-token.invariant.goes);
    }

pub loop-token-preserved-then-is_bare : goal.loop-token-preserved-then-is_bare
loop-token-preserved-then-is_bare c =
    let here = count-here c.args.tokens.now c.loop-token.token-index c.loop-token.depth _ c.loop-token-test.true (sym c.is_bare.ensures ∙ c.if-is_bare.true) in
    record {
      depth_is = omega (arith, c.loop-token.invariant.depth_is);
      count_is = omega (arith, c.loop-token.invariant.count_is);
      goes = omega (arith, here, c.loop-token.invariant.goes);
    }

pub returns : goal.returns
returns c =
    let none = ap length (parted-none c.loop-token.depth c.args.tokens.now c.loop-token.token-index c.loop-token-test.false) in
    omega (arith, none, c.loop-token.invariant.goes)
