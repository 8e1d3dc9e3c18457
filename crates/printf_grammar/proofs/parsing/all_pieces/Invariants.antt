use Rattle.std.proofs.Common.{length}
use Rattle.printf_grammar.proofs.Reading.{IsReadTo}
use Rattle.printf_grammar.proofs.parsing.all_pieces.Given as goal

abbrev pub invariant-loop-rest : goal.invariant-loop-rest
invariant-loop-rest l = IsReadTo l.bytes l.pieces.items l.types.items l.rest

abbrev pub decreases-loop-rest : goal.decreases-loop-rest
decreases-loop-rest l = length l.rest
