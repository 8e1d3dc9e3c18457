use Rattle.direct_printf.proofs.Formats.{Text-joined}
use Rattle.direct_printf.proofs.laws.joined_formats_write_joined_texts.Goals as goal

pub returns : goal.returns
returns c = Text-joined
