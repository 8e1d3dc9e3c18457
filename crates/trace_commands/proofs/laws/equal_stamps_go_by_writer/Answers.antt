use Rattle.std.proofs.Common.{refl}
use Rattle.std.specs.Fmt.{digits}
use Rattle.direct_printf.specs.Fields.{Digits, Field, Text, pieces_text}
use Rattle.stamp_merge.specs.Ordering.{insert_by, in_order_by}
use Rattle.direct_printf.specs.Lines.{Line, Direct}
use Rattle.trace_commands.proofs.laws.equal_stamps_go_by_writer.Goals as goal

pub returns : goal.returns
unfolding Direct in_order_by insert_by Line Text pieces_text Field Digits digits
returns c = refl
