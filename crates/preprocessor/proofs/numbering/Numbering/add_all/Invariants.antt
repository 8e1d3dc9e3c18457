use Rattle.std.proofs.Common.{◌≡◌, ◌++◌, List, length}
use Rattle.std.specs.List.{AllByRecursion}
use Rattle.std.specs.Vec.Iter.{into_iter_items, into_iter_len}
use Rattle.preprocessor.specs.Findings.{Finding, IsNamed, AreFindings}
use Rattle.preprocessor.specs.Numbering.{HoldsFindings}
use Rattle.preprocessor.proofs.numbering.Numbering.add_all.Given as goal

-- the numbering holds the findings of what was yielded behind those before
abbrev pub invariant-loop-one : goal.invariant-loop-one
invariant-loop-one l = record {
  parted : l.yielded ++ into_iter_items l.one-iterator ≡ into_iter_items l.initial.one-iterator;
  named : AllByRecursion IsNamed (into_iter_items l.one-iterator);
  holds : (before findings : List Finding) → AreFindings l.yielded findings → HoldsFindings before l.initial.numbering → HoldsFindings (before ++ findings) l.numbering;
  counted : into_iter_len l.one-iterator ≡ length (into_iter_items l.one-iterator);
}
