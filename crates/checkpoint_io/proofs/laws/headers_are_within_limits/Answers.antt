use Rattle.std.proofs.Common.{sym, ◌∙◌}
use Rattle.std.proofs.lemmas.Bool.{true≢false}
use Rattle.checkpoint_io.proofs.laws.headers_are_within_limits.Goals as goal

pub returns-clause-right : goal.returns-clause-right
returns-clause-right c header known some few tick nanos rate ticks = record {
  version_known = known;
  some_writer = some;
  few_writers = few;
  tick_fits = tick;
  nanos_fits = nanos;
  rate_fits = rate;
  rate = ticks;
}

pub returns-clause-other_version : goal.returns-clause-other_version
returns-clause-other_version c header unknown right = true≢false (sym right.version_known ∙ unknown)
