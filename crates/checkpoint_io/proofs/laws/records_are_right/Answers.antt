use Rattle.checkpoint_io.proofs.lemmas.ValidityLaws.{records_defined, records_fit, stamps_rise}
use Rattle.checkpoint_io.proofs.laws.records_are_right.Goals as goal

pub returns-clause-defined : goal.returns-clause-defined
returns-clause-defined c = records_defined

pub returns-clause-fits : goal.returns-clause-fits
returns-clause-fits c = records_fit

pub returns-clause-rises : goal.returns-clause-rises
returns-clause-rises c = stamps_rise
