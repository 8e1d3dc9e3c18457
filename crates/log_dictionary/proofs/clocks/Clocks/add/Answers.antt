use Rattle.std.proofs.Common.{List, All, sym, subst, arith}
use Rattle.std.proofs.lemmas.List.Elements.{All-push}
use Rattle.log_dictionary.specs.declared.clock.Clock.{Clock}
use Rattle.log_dictionary.specs.Clocks.{AreClocks, FitsClock, FollowsClocks}
use Rattle.log_dictionary.proofs.lemmas.ClockLists.{AreClocks-push}
use Rattle.log_dictionary.proofs.clocks.Clocks.add.Goals as goal

pub invariant_of-self : goal.invariant_of-self
invariant_of-self c =
    let follows = subst (λ (l : List Clock). FollowsClocks l c.args.clock) (sym c.self.view_is) c.in_ok-check.ensures.ok in (
      subst AreClocks (sym c.push_reserved.ensures.items) (AreClocks-push _ _ c.self.invariant.0 follows.few follows.above follows.rate),
      subst (All FitsClock) (sym c.push_reserved.ensures.items)
          (All-push FitsClock _ _ c.self.invariant.1 (record { tick = omega arith; nanos = omega arith; rate = omega arith })),
      omega (arith, c.self.invariant.2, c.push_reserved.ensures.capacity),
    )
