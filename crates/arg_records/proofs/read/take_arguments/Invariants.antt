use Rattle.std.proofs.Common.{◌≡◌, List, ◌++◌, length, drop}
use Rattle.printf_grammar.specs.declared.argument.Value.{Value}
use Rattle.arg_records.specs.Reading.{SpellsArguments}
use Rattle.arg_records.proofs.read.take_arguments.Given as goal

abbrev pub invariant-loop-kind : goal.invariant-loop-kind
invariant-loop-kind l = record {
  many : length l.args ≡ l.kind-index;
  left : (more : List Value) × SpellsArguments (drop l.kind-index l.types) more l.rest;
  read : (more : List Value) → SpellsArguments (drop l.kind-index l.types) more l.rest → SpellsArguments l.types (l.args ++ more) l.words;
}
