use Rattle.std.proofs.Common.{take}
use Rattle.std.specs.List.{AllByRecursion}
use Rattle.printf_grammar.specs.Spelling.{IsFlag}
use Rattle.printf_grammar.proofs.parts.flag_len.Given as goal

abbrev pub invariant-loop-place : goal.invariant-loop-place
invariant-loop-place l = AllByRecursion IsFlag (take l.place l.bytes)
