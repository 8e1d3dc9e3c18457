use Rattle.std.proofs.Common.{◌≡◌, ◌*◌, ℕ, false, nat_le, refl, ap, arith}
use Rattle.std.proofs.lemmas.Bool.{lt-leb}
use Rattle.std.specs.Str.Parse.{digits_value}
use Rattle.source_scan.proofs.Digits.{too-great}
use Rattle.source_scan.proofs.escape.value_within.Goals as goal

pub returns-then-value-from : goal.returns-then-value-from
returns-then-value-from c =
    let times = ap (λ (r : ℕ). c.loop-rest.value * r) c.from.ensures in
    let great = too-great c.args.limit c.args.radix c.loop-rest.value c.loop-rest.rest.now c.args.digits.now c.requires.radix.0 c.in-len1-up.len_at_least c.loop-rest.invariant.goes (omega (arith, times, c.if-value-from.true, c.in_ok-digit.ensures.value.1)) in
    let over : nat_le (digits_value c.args.radix c.args.digits.now) c.args.limit ≡ false = lt-leb (digits_value c.args.radix c.args.digits.now) c.args.limit great in
    rw over refl
