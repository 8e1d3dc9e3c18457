use Rattle.std.proofs.Common.{List}
use Rattle.printf_grammar.specs.declared.argument.Value.{Value}
use Rattle.buffer_extent.specs.Writing.{AreWordsOf}
use Rattle.buffer_extent.proofs.Staging.{ArePutSoFar}
use Rattle.buffer_extent.proofs.put.put_texts.Given as goal

abbrev pub invariant-loop-kind : goal.invariant-loop-kind
invariant-loop-kind l = (args : List Value) → AreWordsOf l.types args l.words → ArePutSoFar args l.fn.body l.body l.at l.end l.kind-index l.rest
