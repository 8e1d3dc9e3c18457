use Rattle.std.proofs.Common.{ℕ, ◌≤◌, eqb, length, refl, ap, subst, inl, inr, ⊎_elim, arith}
use Rattle.std.proofs.lemmas.Bool.{eqb-true, or_cases}
use Rattle.session_options.specs.Versions.{has_clocks, most_writers}
use Rattle.session_options.proofs.lemmas.VersionLimits.{few_writers}
use Rattle.trace_text.proofs.lemmas.RecordingLaws.{two_messages_recorded, two_clocks_recorded, slowest_recorded, writers_recorded, calls_recorded}
use Rattle.trace_text.proofs.laws.recordings_are_within_limits.Goals as goal

pub returns-clause-worked : goal.returns-clause-worked
returns-clause-worked c = two_messages_recorded

pub returns-clause-two_clocks : goal.returns-clause-two_clocks
returns-clause-two_clocks c = two_clocks_recorded

pub returns-clause-slowest_clock : goal.returns-clause-slowest_clock
returns-clause-slowest_clock c = slowest_recorded

pub returns-clause-writers : goal.returns-clause-writers
returns-clause-writers c n some few = writers_recorded 1 n refl some few

pub returns-clause-writers_of_2 : goal.returns-clause-writers_of_2
returns-clause-writers_of_2 c n some few = writers_recorded 2 n refl some few

pub returns-clause-calls : goal.returns-clause-calls
returns-clause-calls c = calls_recorded

pub returns-clause-limits : goal.returns-clause-limits
returns-clause-limits c run is = (is.some_writer, omega (arith, is.few_writers, few_writers run.version), is.clocks.are.some, is.clocks.are.few, is.few_calls)

pub returns-clause-limits_of_1 : goal.returns-clause-limits_of_1
returns-clause-limits_of_1 c run is first = (subst (λ (version : ℕ). length run.writers ≤ most_writers version) first is.few_writers, is.clocks.alone (ap has_clocks first))

pub returns-clause-versions : goal.returns-clause-versions
returns-clause-versions c run is =
    ⊎_elim
    (λ first. inl (eqb-true run.version 1 first))
    (λ second. inr (eqb-true run.version 2 second))
    (or_cases (eqb run.version 1) (eqb run.version 2) is.known)

pub returns-clause-clocks_are_right : goal.returns-clause-clocks_are_right
returns-clause-clocks_are_right c run is = (is.clocks.are, is.clocks.fit)
