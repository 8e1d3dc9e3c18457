use Rattle.code_inject.proofs.Differing.{differ_in_heads}
use Rattle.code_inject.proofs.laws.heads_differ.Goals as goal

pub returns : goal.returns
returns c = differ_in_heads
