use Rattle.std.proofs.Common.{◌+◌, ◌*◌, ◌/◌, ◌≤◌, ℕ, List, length}
use Rattle.printf_grammar.specs.declared.argument.Value.{Value}
use Rattle.buffer_extent.specs.Writing.{AreWordsOf}
use Rattle.buffer_extent.proofs.Writes.{PutsAll}
use Rattle.buffer_extent.proofs.put.put_numbers.Given as goal

abbrev pub invariant-loop-kinds : goal.invariant-loop-kinds
invariant-loop-kinds l = record {
  words : (args : List Value) × AreWordsOf l.kinds args l.rest;
  before : l.place + (length l.kinds + 1) / 2 ≤ l.end;
  room : l.end + 8 * length l.kinds ≤ l.at + (length l.types + 1) / 2 + 8 * length l.types;
  goes_on : (new : List ℕ) (end : ℕ) → PutsAll l.kinds l.rest l.body l.place l.end new end → PutsAll l.types l.words l.fn.body l.at (l.at + (length l.types + 1) / 2) new end;
}

abbrev pub decreases-loop-kinds : goal.decreases-loop-kinds
decreases-loop-kinds l = length l.kinds
