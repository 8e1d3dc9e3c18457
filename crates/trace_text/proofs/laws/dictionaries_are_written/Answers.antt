use Rattle.trace_text.proofs.DictionaryLaws.{written_reads, read_have_lines}
use Rattle.trace_text.proofs.laws.dictionaries_are_written.Goals as goal

pub returns : goal.returns
returns c = record { again = written_reads; lines = read_have_lines }
