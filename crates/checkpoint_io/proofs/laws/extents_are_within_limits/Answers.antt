use Rattle.checkpoint_io.proofs.lemmas.LimitLaws.{extent_within, extent_some, extent_short, extent_has_records, close_within}
use Rattle.checkpoint_io.proofs.laws.extents_are_within_limits.Goals as goal

pub returns-clause-right : goal.returns-clause-right
returns-clause-right c = extent_within

pub returns-clause-some : goal.returns-clause-some
returns-clause-some c = extent_some

pub returns-clause-short : goal.returns-clause-short
returns-clause-short c = extent_short

pub returns-clause-some_record : goal.returns-clause-some_record
returns-clause-some_record c = extent_has_records

pub returns-clause-right_close : goal.returns-clause-right_close
returns-clause-right_close c = close_within
