-- The clocks of a run: the first of them, and one more behind them.
use Rattle.std.proofs.Common.{◌≡◌, ℕ, Bool, true, List, [], ◌∷◌, ◌++◌, Some, sym, ap, subst, ◌∙◌}
use Rattle.std.specs.Prelude.{slice_get}
use Rattle.std.proofs.lemmas.Bool.{both_ways}
use Rattle.std.proofs.lemmas.List.Elements.{All-push}
use Rattle.std.proofs.lemmas.Option.{same_Some}
use Rattle.log_dictionary.specs.declared.clock.Clock.{Clock}
use Rattle.log_dictionary.specs.Clocks.{first_tick, FitsClock, FollowsClocks}
use Rattle.log_dictionary.proofs.lemmas.ClockLists.{AreClocks-push}
use Rattle.session_options.specs.Versions.{has_clocks, MayHaveClocks}

pub first_tick_is : (clocks : List Clock) (clock : Clock) → slice_get clocks 0 ≡ Some clock → first_tick clocks ≡ clock.tick
first_tick_is [] clock there = absurd cc
first_tick_is (first ∷ clocks) clock there = ap (λ (c : Clock). c.tick) (same_Some first clock there)

-- the clocks with one more behind them may be those of the run
pub may_have_more : (version : ℕ) (clocks more : List Clock) (clock : Clock) → MayHaveClocks version clocks → has_clocks version ≡ true → FollowsClocks clocks clock → FitsClock clock → more ≡ clocks ++ clock ∷ [] → MayHaveClocks version more
may_have_more version clocks more clock may has follows fits is =
    subst (MayHaveClocks version) (sym is) (record {
      are = AreClocks-push clocks clock may.are follows.few follows.above follows.rate;
      fit = All-push FitsClock clocks clock may.fit fits;
      alone = λ none. absurd (both_ways (has_clocks version) none has);
    })
