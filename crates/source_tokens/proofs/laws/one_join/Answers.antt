use Rattle.source_tokens.proofs.lemmas.Joining.{tokens-join, parts-join}
use Rattle.source_tokens.proofs.laws.one_join.Goals as goal

pub returns-clause-tokens : goal.returns-clause-tokens
returns-clause-tokens c = tokens-join

pub returns-clause-parts : goal.returns-clause-parts
returns-clause-parts c = parts-join
