use Rattle.std.proofs.Common.{rules, ◌≡◌, ◌≤◌, ◌-◌, length, Some, sym, ap, ◌∙◌, arith}
use Rattle.std.specs.Prelude.{slice_get}
use Rattle.log_dictionary.specs.declared.clock.Clock.{Clock}
use Rattle.log_dictionary.proofs.lemmas.ClockLists.{last_tick-place}
use Rattle.std.proofs.lemmas.Option.{get_or_from_slice_get}
use Rattle.checkpoint_io.proofs.times.Times.last_tick.Goals as goal

pub returns-in-Some : goal.returns-in-Some
returns-in-Some c =
    let clocks = c.args.self.now.clocks in
    let clock : Clock = c.in-Some.clock in
    let there : slice_get clocks (length clocks - 1) ≡ Some clock = search rules in
    let some : 1 ≤ length clocks = search rules in
    ap (λ (k : Clock). k.tick) (sym (get_or_from_slice_get clocks (length clocks - 1) clock clock there)) ∙ sym (last_tick-place clocks (length clocks - 1) clock (omega (arith, some)))
