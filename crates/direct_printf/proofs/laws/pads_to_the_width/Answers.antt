use Rattle.std.proofs.Common.{refl}
use Rattle.std.specs.Fmt.{digits}
use Rattle.std.specs.Int.{int_wrap}
use Rattle.direct_printf.specs.Fields.{Digits, Field, Text, pieces_text}
use Rattle.direct_printf.proofs.laws.pads_to_the_width.Goals as goal

pub returns : goal.returns
unfolding Text pieces_text Field Digits digits int_wrap
returns c = record { three_ways = refl; left_before_zeros = refl }
