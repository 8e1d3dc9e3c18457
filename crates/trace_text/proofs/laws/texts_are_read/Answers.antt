use Rattle.trace_text.proofs.TextReads.{text_reads}
use Rattle.trace_text.proofs.ReadTexts.{read_spells}
use Rattle.trace_text.proofs.laws.texts_are_read.Goals as goal

pub returns : goal.returns
returns c = record { read = text_reads; spelled = read_spells }
