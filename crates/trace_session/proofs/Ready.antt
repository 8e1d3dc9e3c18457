-- What a roamer that is ready says of the clocks of its run.
use Rattle.std.proofs.Common.{◌≡◌, List, sym, ap, ◌∙◌}
use Rattle.log_dictionary.specs.declared.clock.Clock.{Clock}
use Rattle.log_dictionary.specs.Clocks.{first_tick}
use Rattle.session_options.proofs.lemmas.RunClocks.{first_tick_is}
use Rattle.roaming_consumer.specs.declared.roamer.Roamer.{Roamer}
use Rattle.roaming_consumer.specs.Roamers.{roamer_clocks, roamer_clock}

-- the tick of its clock is that of the first of them
pub tick_of : {S : Type 0} (roamer : Roamer S) (clocks : List Clock) → roamer_clocks roamer ≡ clocks → (roamer_clock roamer).tick ≡ first_tick clocks
tick_of roamer clocks is = sym (first_tick_is (roamer_clocks roamer) (roamer_clock roamer) roamer.first) ∙ ap first_tick is
