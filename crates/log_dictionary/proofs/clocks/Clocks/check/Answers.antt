use Rattle.std.proofs.Common.{◌≡◌, ◌<◌, ◌+◌, ◌-◌, List, length, ap, subst, arith, rules, ◌∙◌, get_or, refl}
use Rattle.log_dictionary.specs.declared.clock.Clock.{Clock}
use Rattle.log_dictionary.specs.declared.clocks.TheConstants.{MAX_CLOCKS}
use Rattle.log_dictionary.specs.Clocks.{AreClocks, last_tick}
use Rattle.log_dictionary.proofs.lemmas.ClockLists.{last_tick-place}
use Rattle.log_dictionary.proofs.clocks.Clocks.check.Goals as goal

abbrev last_clock : List Clock → Clock
last_clock clocks = get_or clocks (length clocks - 1) (record { tick = 0; nanos = 0; rate = 0 })

-- the clock that was looked at is the last one, and there is room behind it
found : (clocks items now : List Clock) → clocks ≡ items → items ≡ now → AreClocks items → (length clocks ≡ MAX_CLOCKS → ⊥) → (last_tick now ≡ (last_clock clocks).tick) × (length now < MAX_CLOCKS)
found clocks items now same kept formed room =
    let some : length clocks ≡ length clocks - 1 + 1 = omega (arith, formed.some, ap length same) in (
      subst (λ (all : List Clock). last_tick all ≡ (last_clock clocks).tick) (same ∙ kept) (last_tick-place clocks (length clocks - 1) _ some),
      omega (arith, formed.few, ap length same, ap length kept, room),
    )

pub returns-then-clock-clocks-clause-order : goal.returns-then-clock-clocks-clause-order
returns-then-clock-clocks-clause-order c =
    let last = found _ _ _ c.as_slice-clocks.ensures.value c.self.view_is c.self.invariant.0 c.if-clocks-eq-MAX_CLOCKS.false in
    (λ _. (last.1, omega (arith, last.0, c.if-clock-clocks.true)), λ _. refl)

pub returns-then-clock-clocks-clause-rate : goal.returns-then-clock-clocks-clause-rate
returns-then-clock-clocks-clause-rate c =
    let last = found _ _ _ c.as_slice-clocks.ensures.value c.self.view_is c.self.invariant.0 c.if-clocks-eq-MAX_CLOCKS.false in
    search (rules, last)

pub returns-then-clock-eq0-clause-order : goal.returns-then-clock-eq0-clause-order
returns-then-clock-eq0-clause-order c =
    let last = found _ _ _ c.as_slice-clocks.ensures.value c.self.view_is c.self.invariant.0 c.if-clocks-eq-MAX_CLOCKS.false in
    search (rules, last)

pub returns-then-clock-eq0-clause-rate : goal.returns-then-clock-eq0-clause-rate
returns-then-clock-eq0-clause-rate c =
    let last = found _ _ _ c.as_slice-clocks.ensures.value c.self.view_is c.self.invariant.0 c.if-clocks-eq-MAX_CLOCKS.false in
    (λ _. (last.1, omega (arith, last.0, c.if-clock-clocks.false), c.if-clock-eq0.true), λ _. refl)

pub returns-clause-order : goal.returns-clause-order
returns-clause-order c =
    let last = found _ _ _ c.as_slice-clocks.ensures.value c.self.view_is c.self.invariant.0 c.if-clocks-eq-MAX_CLOCKS.false in
    search (rules, last)

pub returns-clause-ok : goal.returns-clause-ok
returns-clause-ok c =
    let last = found _ _ _ c.as_slice-clocks.ensures.value c.self.view_is c.self.invariant.0 c.if-clocks-eq-MAX_CLOCKS.false in
    record {
      few = last.1;
      above = omega (arith, last.0, c.if-clock-clocks.false);
      rate = omega (arith, c.if-clock-eq0.false);
    }
