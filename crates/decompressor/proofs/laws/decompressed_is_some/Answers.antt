use Rattle.decompressor.proofs.SomeText.{some_text}
use Rattle.decompressor.proofs.laws.decompressed_is_some.Goals as goal

pub returns : goal.returns
returns c = some_text
