use Rattle.std.proofs.Common.{refl}
use Rattle.std.specs.Fmt.{digits}
use Rattle.std.specs.Int.{int_wrap}
use Rattle.direct_printf.specs.Fields.{Digits, Field, Text, pieces_text}
use Rattle.direct_printf.proofs.laws.zero_has_few_digits.Goals as goal

pub returns : goal.returns
unfolding Text pieces_text Field Digits digits int_wrap
returns c = record { no_digits = refl; one_octal = refl; no_prefix = refl; sign_alone = refl; space_alone = refl; padded_without_prefix = refl }
