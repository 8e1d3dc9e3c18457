use Rattle.std.proofs.Common.{take}
use Rattle.std.specs.List.{AllByRecursion}
use Rattle.printf_grammar.specs.Spelling.{IsLiteralByte}
use Rattle.printf_grammar.proofs.parsing.literal_len.Given as goal

abbrev pub invariant-loop-place : goal.invariant-loop-place
invariant-loop-place l = AllByRecursion IsLiteralByte (take l.place l.bytes)
