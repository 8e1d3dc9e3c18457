use Rattle.decompressor.proofs.lemmas.DecompressionLaws.{whole_is_text}
use Rattle.decompressor.proofs.laws.whole_logs_give_all_lines.Goals as goal

pub returns : goal.returns
returns c = whole_is_text
