use Rattle.source_tokens.proofs.lemmas.Unique.{tokens_once}
use Rattle.source_tokens.proofs.lemmas.UniqueParts.{parts_once}
use Rattle.source_tokens.proofs.laws.one_list.Goals as goal

pub returns-clause-tokens : goal.returns-clause-tokens
returns-clause-tokens c = tokens_once

pub returns-clause-parts : goal.returns-clause-parts
returns-clause-parts c = parts_once
