use Rattle.std.proofs.Common.{refl}
use Rattle.std.specs.Fmt.{digits}
use Rattle.std.specs.Int.{int_wrap}
use Rattle.direct_printf.specs.Fields.{Digits, Field, Text, pieces_text}
use Rattle.direct_printf.proofs.laws.wraps_by_length.Goals as goal

pub returns : goal.returns
unfolding Text pieces_text Field Digits digits int_wrap
returns c = record { row = refl; negative = refl }
