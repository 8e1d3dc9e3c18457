use Rattle.checkpoint_io.proofs.lemmas.ValidityLaws.{clocks_rise, early_before}
use Rattle.checkpoint_io.proofs.laws.logs_have_clocks_of_a_run.Goals as goal

pub returns-clause-clocks : goal.returns-clause-clocks
returns-clause-clocks c = clocks_rise

pub returns-clause-early : goal.returns-clause-early
returns-clause-early c = early_before
