use Rattle.std.proofs.Common.{◌≡◌, take}
use Rattle.printf_grammar.specs.Types.{values_of}
use Rattle.buffer_extent.proofs.kept.keep_many.Given as goal

abbrev pub invariant-loop-arg : goal.invariant-loop-arg
invariant-loop-arg l = l.values ≡ values_of (take l.arg-index l.args)
