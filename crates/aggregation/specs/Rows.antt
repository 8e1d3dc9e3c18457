-- Worked blocks and their totals.
use Rattle.std.specs.Prelude.{ℕ, ℤ, pos, negsuc, List, [], ◌∷◌, Some, None, codes}
use Rattle.printf_grammar.specs.declared.piece.Piece.TheVariants.{Field}
use Rattle.printf_grammar.specs.declared.piece.Length.TheVariants.{HH}
use Rattle.printf_grammar.specs.declared.piece.Size.TheVariants.{Star}
use Rattle.printf_grammar.specs.declared.piece.Conversion.TheVariants.{S}
use Rattle.printf_grammar.specs.declared.argument.Value.{Value}
use Rattle.printf_grammar.specs.declared.argument.Value.TheVariants.{Signed, Text}
use Rattle.printf_grammar.specs.Narrow.{plain_d}
use Rattle.log_dictionary.specs.declared.message.Message.{Message}
use Rattle.log_dictionary.specs.Rows.{row_message}
use Rattle.arg_records.specs.declared.call.Call.{Call}
use Rattle.checkpoint_io.specs.Blocks.{Block, Fragment, Extent, Close}
use Rattle.aggregation.specs.declared.totals.Totals.{Totals}

-- a record of the message with this id
abbrev pub call_of : ℕ → List Value → Call
call_of id args = record { stamp = 1003; id = id; args = args }

-- a message with a width, a number that hh narrows where it is printed, and a text
abbrev pub starred_message : Message
starred_message =
    let number = Field (record plain_d { width = Star; length = HH }) in
    let text = Field (record plain_d { conversion = S }) in
    record row_message { format = record { bytes = codes "%*hhd%s"; pieces = number ∷ text ∷ [] } }

-- 7, -3 and 7 of one message, by two writers, and between them a record of the other
abbrev pub total_blocks : List Block
total_blocks =
    Fragment 0 (row_message ∷ starred_message ∷ [])
    ∷ Extent 1
    (call_of 0 (Signed (pos 7) ∷ []) ∷ call_of 1 (Signed (negsuc 4) ∷ Signed (pos 300) ∷ Text [] ∷ []) ∷ [])
    ∷ Close 1
    ∷ Extent 0 (call_of 0 (Signed (negsuc 2) ∷ []) ∷ call_of 0 (Signed (pos 7) ∷ []) ∷ []) ∷ []

abbrev pub plain_totals : Totals
plain_totals = record { count = 3; range = Some (negsuc 2, pos 7); sum = pos 11 }

-- the width counts as an argument
abbrev pub width_totals : Totals
width_totals = record { count = 1; range = Some (negsuc 4, negsuc 4); sum = negsuc 4 }

-- 300, which `%hhd` prints as 44
abbrev pub long_totals : Totals
long_totals = record { count = 1; range = Some (pos 300, pos 300); sum = pos 300 }

abbrev pub no_totals : Totals
no_totals = record { count = 0; range = None; sum = pos 0 }

-- the greatest and the least numbers of 64 bits
abbrev pub long_numbers : List ℤ
long_numbers = pos 18446744073709551615 ∷ negsuc 9223372036854775807 ∷ pos 18446744073709551615 ∷ []

abbrev pub long_number_totals : Totals
long_number_totals =
    record {
      count = 3;
      range = Some (negsuc 9223372036854775807, pos 18446744073709551615);
      sum = pos 27670116110564327422;
    }
