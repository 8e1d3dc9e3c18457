use Rattle.std.proofs.Common.{take}
use Rattle.printf_grammar.specs.Spelling.{SpellsDigits}
use Rattle.printf_grammar.proofs.parts.number_of.Given as goal

abbrev pub invariant-loop-place : goal.invariant-loop-place
invariant-loop-place l = SpellsDigits (take l.place l.bytes) l.number
