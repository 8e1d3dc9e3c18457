use Rattle.std.proofs.Common.{◌≡◌, ◌-◌, ◌*◌, [], ap, arith, rules}
use Rattle.log_dictionary.proofs.lemmas.TimeLaws.{Time-since}
use Rattle.direct_printf.proofs.Times.{Time-by_parts}
use Rattle.direct_printf.proofs.log_line.time_of.Goals as goal

pub returns : goal.returns
returns c =
    let nanos : c.from-2.result ≡ 1000000000 = search rules in
    let product : c.from.result * c.from-2.result ≡ c.from.result * 1000000000 = ap (λ n. c.from.result * n) nanos in
    omega (arith, product, Time-by_parts (c.args.stamp - c.args.clock.now.tick) c.args.clock.now.rate c.requires.rate, Time-since [] c.args.clock.now c.args.stamp c.requires.not_before)
