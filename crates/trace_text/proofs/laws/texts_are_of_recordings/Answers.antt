use Rattle.trace_text.proofs.SpelledRuns.{read_has_text}
use Rattle.trace_text.proofs.laws.texts_are_of_recordings.Goals as goal

pub returns-clause-written : goal.returns-clause-written
returns-clause-written c = read_has_text
