use Rattle.code_inject.proofs.lemmas.Unique.{text_once, refusals_once, apart}
use Rattle.code_inject.proofs.laws.one_answer.Goals as goal

pub returns-clause-text : goal.returns-clause-text
returns-clause-text c = text_once

pub returns-clause-refusals : goal.returns-clause-refusals
returns-clause-refusals c = refusals_once

pub returns-clause-apart : goal.returns-clause-apart
returns-clause-apart c = apart
