use Rattle.std.proofs.Common.{drop, take, length, refl, ap, sym, ◌∙◌, arith}
use Rattle.std.proofs.lemmas.Fmt.{length-decimal-le}
use Rattle.std.proofs.lemmas.List.{drop-take, take_at}
use Rattle.std.specs.Fmt.{decimal}
use Rattle.direct_printf.proofs.log_line.show_second.Goals as goal

pub write_digits-requires : goal.write_digits-requires
write_digits-requires c = (length-decimal-le 20 c.args.second (omega arith) (omega (arith, c.ranges.second.fits)) (omega (arith, c.ranges.second.fits)), omega (arith, c.told-text))

pub returns : goal.returns
returns c =
    let w = c.write_digits in (
      omega (arith, w.ensures.start),
      ap (λ n. drop w.result (take n w.new.buf)) (sym w.ensures.start) ∙ drop-take w.result (length (decimal c.args.second)) w.new.buf ∙ ap (take (length (decimal c.args.second))) w.ensures.written ∙ take_at (decimal c.args.second) _ _ refl,
    )
