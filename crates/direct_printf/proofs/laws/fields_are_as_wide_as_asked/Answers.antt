use Rattle.direct_printf.proofs.Padded.{Field-width}
use Rattle.direct_printf.proofs.laws.fields_are_as_wide_as_asked.Goals as goal

pub returns : goal.returns
returns c = Field-width
