use Rattle.std.proofs.Common.{◌≤◌}
use Rattle.log_dictionary.specs.declared.clock.Clock.{Clock}
use Rattle.log_dictionary.specs.Clocks.{FitsClock}
use Rattle.roaming_consumer.proofs.Due.{first_has}
use Rattle.roaming_consumer.proofs.roamer.Roamer.header.Goals as goal

pub returns-clause-right : goal.returns-clause-right
returns-clause-right g c =
    let roamer = c.args.self.now in
    let fits = first_has FitsClock roamer.clocks roamer.clock roamer.may_have.fit roamer.first in
    record {
      version_known = roamer.known_version;
      some_writer = roamer.some_end;
      few_writers = roamer.few_ends;
      tick_fits = fits.tick;
      nanos_fits = fits.nanos;
      rate_fits = fits.rate;
      rate = first_has (λ (clock : Clock). 1 ≤ clock.rate) roamer.clocks roamer.clock roamer.may_have.are.rates roamer.first;
    }
