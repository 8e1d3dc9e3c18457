use Rattle.source_scan.proofs.SomeStatements.{some_statements}
use Rattle.source_scan.proofs.laws.some_list.Goals as goal

pub returns : goal.returns
returns c = some_statements c.args.source.now c.some_list.ensures.parts.0 c.some_list.ensures.parts.1 c.parts_have_tokens.ensures
