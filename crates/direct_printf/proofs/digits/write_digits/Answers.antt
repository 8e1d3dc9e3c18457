use Rattle.std.proofs.Common.{◌≡◌, ◌+◌, ◌-◌, ◌∙◌, arith}
use Rattle.std.proofs.lemmas.List.{drop-set, drop_all, length-set}
use Rattle.direct_printf.proofs.Spelling.{IsLeft-start, IsLeft-more, IsLeft-end}
use Rattle.direct_printf.proofs.digits.write_digits.Goals as goal

pub loop-left-init : goal.loop-left-init
loop-left-init c =
    (omega arith, c.told-buffer, IsLeft-start c.args.base c.args.value c.args.upper _ c.requires.low c.ranges.value.fits (drop_all 22 c.args.buffer.now (omega (arith, c.told-buffer))))

pub loop-left-preserved : goal.loop-left-preserved
loop-left-preserved c =
    let l = c.loop-left in
    let here : l.at - 1 + 1 ≡ l.at = omega (arith, l.invariant.2.some) in
    let is = l.invariant.2 in (
      omega arith,
      length-set l.buffer (l.at - 1) c.glyph.result ∙ l.invariant.1,
      IsLeft-more c.args.base c.args.value l.left l.at c.args.upper _ _ c.requires.low c.loop-left-test.true is (rw (drop-set l.buffer (l.at - 1) c.glyph.result (omega (arith, is.some)), here, c.glyph.ensures)),
    )

pub returns-clause-written : goal.returns-clause-written
returns-clause-written c =
    let l = c.loop-left in
    let here : l.at - 1 + 1 ≡ l.at = omega (arith, l.invariant.2.some) in
    let is = l.invariant.2 in
    IsLeft-end c.args.base c.args.value l.left l.at c.args.upper _ _ c.loop-left-test.false is (rw (drop-set l.buffer (l.at - 1) c.glyph-2.result (omega (arith, is.some)), here, c.glyph-2.ensures))
