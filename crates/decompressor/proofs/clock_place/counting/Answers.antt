use Rattle.std.proofs.Common.{rules, ◌≡◌, Some, arith}
use Rattle.std.specs.Prelude.{slice_get}
use Rattle.decompressor.proofs.ClockPlaces.{counts_there, ticks_there}
use Rattle.decompressor.proofs.clock_place.counting.Goals as goal

pub returns-in_default-clause-counts : goal.returns-in_default-clause-counts
returns-in_default-clause-counts c =
    let there : slice_get c.args.clocks.now c.args.place ≡ Some c.in_ok-clock.clock = search rules in
    counts_there c.args.clocks.now c.args.place c.args.stamp c.in_ok-clock.clock c.requires.formed there (omega arith)
    (λ next is. let same : next ≡ c.in-Some.next = search rules in rw same (omega arith))

pub returns-in_default-clause-rate : goal.returns-in_default-clause-rate
returns-in_default-clause-rate c =
    let there : slice_get c.args.clocks.now c.args.place ≡ Some c.in_ok-clock.clock = search rules in
    ticks_there c.args.clocks.now c.args.place c.in_ok-clock.clock c.requires.formed there

pub returns-in_default-2-clause-counts : goal.returns-in_default-2-clause-counts
returns-in_default-2-clause-counts c =
    let there : slice_get c.args.clocks.now c.args.place ≡ Some c.in_ok-clock.clock = search rules in
    counts_there c.args.clocks.now c.args.place c.args.stamp c.in_ok-clock.clock c.requires.formed there (omega arith)
    (λ next is. absurd (search rules))

pub returns-in_default-2-clause-rate : goal.returns-in_default-2-clause-rate
returns-in_default-2-clause-rate c =
    let there : slice_get c.args.clocks.now c.args.place ≡ Some c.in_ok-clock.clock = search rules in
    ticks_there c.args.clocks.now c.args.place c.in_ok-clock.clock c.requires.formed there
