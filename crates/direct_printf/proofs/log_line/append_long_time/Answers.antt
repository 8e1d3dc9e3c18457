use Rattle.std.proofs.Common.{◌≡◌, ◌<◌, ◌^◌, false, [], ◌∷◌, arith, rules}
use Rattle.std.proofs.lemmas.Fmt.{length-decimal-le}
use Rattle.std.specs.Fmt.{decimal}
use Rattle.direct_printf.specs.Fields.{Digits}
use Rattle.direct_printf.proofs.Joining.{joined_time}
use Rattle.direct_printf.proofs.Plain.{Digits-nine}
use Rattle.direct_printf.proofs.log_line.append_long_time.Goals as goal

pub write_digits-requires : goal.write_digits-requires
write_digits-requires c = search (rules, length-decimal-le 10)

pub returns-clause-ok : goal.returns-clause-ok
returns-clause-ok c =
    let w = c.write_digits in
    let same : c.from.result ≡ c.args.rest = search rules in
    let few : c.from.result < 10 ^ 9 = omega (arith, same, c.requires) in
    let most = length-decimal-le 9 c.from.result (omega arith) few (omega (arith, few)) in
    let nine = rw same at (Digits-nine c.from.result w.result w.new.buf most w.ensures.start w.ensures.before w.ensures.written) in
    joined_time c.args.out.now.items (decimal c.args.seconds) (46 ∷ Digits c.args.rest 10 false 9) (32 ∷ []) _ _ (rw (c.as_bytes.ensures.value, c.format.ensures.text) at c.in_ok-extend_from_slice.ensures.items) (rw nine at c.in_ok-extend_from_slice-2.ensures.items)
