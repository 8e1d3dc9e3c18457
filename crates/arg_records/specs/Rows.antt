-- Worked calls, and the messages that they name.
use Rattle.std.specs.Prelude.{ℕ, pos, List, [], ◌∷◌, codes, replicate}
use Rattle.std.proofs.Common.{lit≤}
use Rattle.printf_grammar.specs.declared.piece.Piece.TheVariants.{Literal, Field}
use Rattle.printf_grammar.specs.declared.piece.Conversion.TheVariants.{S}
use Rattle.printf_grammar.specs.declared.argument.Value.TheVariants.{Signed, Text}
use Rattle.printf_grammar.specs.Narrow.{plain_d}
use Rattle.log_dictionary.specs.declared.severity.Severity.TheVariants.{Warning}
use Rattle.log_dictionary.specs.declared.message.Message.{Message}
use Rattle.log_dictionary.specs.Calls.{LogCall}
use Rattle.log_dictionary.specs.Rows.{row_message}
use Rattle.arg_records.specs.declared.call.Call.{Call}

-- a call of the worked message
abbrev pub row_call : ℕ → Call
row_call n = record { stamp = 1003; id = 0; args = Signed (pos n) ∷ [] }

-- a message with no field, at line 30 of `disk.cc` with the format `full`
abbrev pub full_message : Message
full_message = record {
  file = codes "disk.cc";
  line = 30;
  severity = Warning;
  format = record { bytes = codes "full"; pieces = Literal 0 4 ∷ [] };
  file_length = (lit≤ tt, lit≤ tt);
}

-- a call of it behind the other message
abbrev pub full_call : ℕ → Call
full_call stamp = record { stamp = stamp; id = 1; args = [] }

-- the calls of three writers; the second one's first call is the earliest
abbrev pub mixed_calls : List (List Call)
mixed_calls = (row_call 1 ∷ full_call 1004 ∷ []) ∷ (full_call 1000 ∷ row_call 2 ∷ []) ∷ (row_call 3 ∷ []) ∷ []

-- these calls, each with its place among its writer's and its message
abbrev pub mixed_log_calls : List LogCall
mixed_log_calls =
    record { writer = 0; ordinal = 0; stamp = 1003; message = row_message; args = Signed (pos 1) ∷ [] }
    ∷ record { writer = 0; ordinal = 1; stamp = 1004; message = full_message; args = [] }
    ∷ record { writer = 1; ordinal = 0; stamp = 1000; message = full_message; args = [] }
    ∷ record { writer = 1; ordinal = 1; stamp = 1003; message = row_message; args = Signed (pos 2) ∷ [] }
    ∷ record { writer = 2; ordinal = 0; stamp = 1003; message = row_message; args = Signed (pos 3) ∷ [] } ∷ []

-- a message with two texts
abbrev pub texts_message : Message
texts_message =
    let text = Field (record plain_d { conversion = S }) in
    record row_message { format = record { bytes = codes "%s%s"; pieces = text ∷ text ∷ [] } }

-- a call of it with a text of 4,000 bytes, and one of so many
abbrev pub texts_call : ℕ → Call
texts_call n = record { stamp = 1003; id = 0; args = Text (replicate 4000 97) ∷ Text (replicate n 97) ∷ [] }
