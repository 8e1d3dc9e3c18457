-- The worked logs are proved by computing their lines.
use Rattle.std.proofs.Common.{◌≡◌, refl, subst}
use Rattle.std.specs.Fmt.{digits}
use Rattle.direct_printf.specs.Fields.{Digits, Field, pieces_text, Text}
use Rattle.stamp_merge.specs.Ordering.{insert_by, in_order_by}
use Rattle.direct_printf.specs.Lines.{Line, Direct}
use Rattle.checkpoint_io.specs.Rows.{row_header, row_blocks, row_bytes, clock_header, clock_blocks}
use Rattle.checkpoint_io.proofs.lemmas.Worked.{file, valid}
use Rattle.decompressor.specs.Decompression.{whole_text, Decompressed}
use Rattle.decompressor.proofs.lemmas.DecompressionLaws.{whole_is_text}
use Rattle.decompressor.specs.Rows.{row_line, clock_line, stepped_blocks, stepped_lines, three_writers, mixed_blocks, mixed_lines}

one_line : whole_text row_header row_blocks ≡ row_line
unfolding digits Digits Field pieces_text Text Line insert_by in_order_by Direct
one_line = refl

pub one_call : Decompressed row_bytes row_line
one_call = subst (Decompressed row_bytes) one_line (whole_is_text row_header row_blocks row_bytes file valid)

pub mixed : whole_text three_writers mixed_blocks ≡ mixed_lines
unfolding digits Digits Field pieces_text Text Line insert_by in_order_by Direct
mixed = refl

pub two_clocks : whole_text clock_header clock_blocks ≡ clock_line
unfolding digits Digits Field pieces_text Text Line insert_by in_order_by Direct
two_clocks = refl

pub step_back : whole_text clock_header stepped_blocks ≡ stepped_lines
unfolding digits Digits Field pieces_text Text Line insert_by in_order_by Direct
step_back = refl
