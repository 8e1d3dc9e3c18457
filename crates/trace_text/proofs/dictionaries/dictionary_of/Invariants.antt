use Rattle.std.proofs.Common.{length}
use Rattle.trace_text.proofs.DictionaryReads.{ReadTo}
use Rattle.trace_text.proofs.dictionaries.dictionary_of.Given as goal

abbrev pub invariant-loop-line : goal.invariant-loop-line
invariant-loop-line l = ReadTo l.fn.text l.dictionary l.lines

abbrev pub decreases-loop-line : goal.decreases-loop-line
decreases-loop-line l = length l.lines.bytes.now
