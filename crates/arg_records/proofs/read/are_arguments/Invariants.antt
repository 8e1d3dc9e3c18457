use Rattle.std.proofs.Common.{◌↔◌, List, drop}
use Rattle.printf_grammar.specs.declared.argument.Value.{Value}
use Rattle.arg_records.specs.Reading.{SpellsArguments}
use Rattle.arg_records.proofs.read.are_arguments.Given as goal

abbrev pub invariant-loop-kind : goal.invariant-loop-kind
invariant-loop-kind l = ((args : List Value) × SpellsArguments (drop l.kind-index l.types) args l.rest) ↔ ((args : List Value) × SpellsArguments l.types args l.words)
