use Rattle.std.proofs.Common.{◌≡◌, ◌++◌, length}
use Rattle.std.specs.List.{AllByRecursion}
use Rattle.std.specs.Vec.Iter.{into_iter_items, into_iter_len}
use Rattle.preprocessor.specs.Findings.{IsNamed}
use Rattle.code_inject.specs.Outcomes.{HoldsOutcomes}
use Rattle.code_inject.proofs.outcomes.outcomes_of.Given as goal

-- what becomes of what was yielded is held
abbrev pub invariant-loop-one : goal.invariant-loop-one
invariant-loop-one l = record {
  parted : l.yielded ++ into_iter_items l.one-iterator ≡ into_iter_items l.initial.one-iterator;
  named : AllByRecursion IsNamed (into_iter_items l.one-iterator);
  holds : HoldsOutcomes l.dictionary l.yielded l.outcomes;
  counted : into_iter_len l.one-iterator ≡ length (into_iter_items l.one-iterator);
}
