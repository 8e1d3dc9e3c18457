use Rattle.decompressor.proofs.lemmas.DecompressionLaws.{one_text}
use Rattle.decompressor.proofs.laws.texts_are_one.Goals as goal

pub returns : goal.returns
returns c = one_text
