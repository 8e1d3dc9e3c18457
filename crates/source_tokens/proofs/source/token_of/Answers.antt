use Rattle.std.proofs.Common.{arith}
use Rattle.source_tokens.proofs.source.token_of.Goals as goal

pub returns : goal.returns
returns c = record { stands = c.requires.stands; start = omega arith; end = omega arith }
