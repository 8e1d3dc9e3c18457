use Rattle.std.proofs.Common.{refl, arith}
use Rattle.log_dictionary.specs.declared.clocks.ClockFault.TheVariants.{TooMany, Order, Rate}
use Rattle.log_dictionary.proofs.laws.worked_clock_limits.Goals as goal

pub returns-clause-one_cause : goal.returns-clause-one_cause
returns-clause-one_cause c clocks clock TooMany TooMany stops too = refl
returns-clause-one_cause c clocks clock TooMany Order stops too = absurd (omega (arith, stops, too.0))
returns-clause-one_cause c clocks clock TooMany Rate stops too = absurd (omega (arith, stops, too.0))
returns-clause-one_cause c clocks clock Order TooMany stops too = absurd (omega (arith, stops.0, too))
returns-clause-one_cause c clocks clock Order Order stops too = refl
returns-clause-one_cause c clocks clock Order Rate stops too = absurd (omega (arith, stops.1, too.1))
returns-clause-one_cause c clocks clock Rate TooMany stops too = absurd (omega (arith, stops.0, too))
returns-clause-one_cause c clocks clock Rate Order stops too = absurd (omega (arith, stops.1, too.1))
returns-clause-one_cause c clocks clock Rate Rate stops too = refl
