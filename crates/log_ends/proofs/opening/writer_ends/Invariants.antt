use Rattle.std.proofs.Common.{◌≡◌, ◌++◌, length, map}
use Rattle.std.specs.Prelude.{All}
use Rattle.log_ends.specs.declared.writer.WriterEnd.{WriterEnd}
use Rattle.log_ends.specs.Ends.{IsWriterFor}
use Rattle.log_ends.proofs.opening.writer_ends.Given as goal

abbrev pub invariant-loop-writer : goal.invariant-loop-writer
invariant-loop-writer l = record {
  goes_on : (goal.iterator-loop-writer).can_next l.writer-iterator;
  ends : (goal.iterator-loop-writer).is_finite l.writer-iterator;
  joined : map (λ (end : WriterEnd). end.writer) l.left.items ++ l.writer-iterator.rest.items ≡ l.fn.writers.items;
  planned : All (IsWriterFor l.fn.dictionary) l.writer-iterator.rest.items;
  named : All (λ (end : WriterEnd). end.dictionary.now ≡ l.fn.dictionary) l.left.items;
  long : length l.writer-iterator.rest.items ≡ l.writer-iterator.rest.len;
}
