use Rattle.std.proofs.Common.{refl}
use Rattle.preprocessor.proofs.Counting.{none_read}
use Rattle.preprocessor.proofs.numbering.Numbering.make.Goals as goal

pub returns : goal.returns
returns c = none_read _ c.make.ensures refl c.new.ensures.items refl
