-- How messages and texts are written: each in one spelling, the canonical one.
use Rattle.std.specs.Prelude.{ℕ, ◌<◌, ◌/◌, ◌%◌, ◌^◌, List, [], ◌∷◌, ◌++◌, codes, decimal, ◌==◌, nat_le, ◌&&◌, if◌then◌else◌}
use Rattle.std.specs.Char.{digit_char}
use Rattle.std.specs.List.{flat_map, enumerate_from}
use Rattle.nibble_pack.specs.Bytes.{AreBytes}
use Rattle.printf_grammar.specs.Spelling.{Spells}
use Rattle.log_dictionary.specs.declared.message.Message.{Message}
use Rattle.log_dictionary.specs.Severities.{severity_name}

-- how a byte of a text is written: as an escape, as itself where it is printable, and else as `\x` and two digits, in
-- lower case
abbrev pub canonical_byte : ℕ → List ℕ
canonical_byte b =
    if b == 34 then codes "\\\""
    else (if b == 92 then codes "\\\\"
    else (if b == 10 then codes "\\n"
    else (if b == 9 then codes "\\t"
    else (if nat_le 32 b && nat_le b 126 then b ∷ []
    else codes "\\x" ++ digit_char (b / 16) ∷ digit_char (b % 16) ∷ []))))

-- how a text is written, without its quotation marks
abbrev pub canonical_text : List ℕ → List ℕ
canonical_text bytes = flat_map canonical_byte bytes

-- a text in quotation marks
abbrev pub quoted_text : List ℕ → List ℕ
quoted_text bytes = 34 ∷ canonical_text bytes ++ 34 ∷ []

-- the line of a message with its id, up to its texts
abbrev pub message_fields : ℕ → Message → List ℕ
message_fields id message =
    codes "message " ++ decimal id ++ 32 ∷ severity_name message.severity ++ 32 ∷ decimal message.line ++ 32 ∷ []

-- the line of a message with its id
abbrev pub message_line : ℕ → Message → List ℕ
message_line id message = message_fields id message ++ quoted_text message.file ++ 32 ∷ quoted_text message.format.bytes

-- the same, with its line feed
abbrev pub message_text : ℕ × Message → List ℕ
message_text (id, message) = message_line id message ++ 10 ∷ []

-- the lines of messages, whose ids count from 0
abbrev pub messages_text : List Message → List ℕ
messages_text messages = flat_map message_text (enumerate_from 0 messages)

-- the text of a dictionary: the first line of a trace of version 1, and the lines of the messages
abbrev pub dictionary_text : List Message → List ℕ
dictionary_text messages = codes "nanolog-trace 1\n" ++ messages_text messages

-- a message that a line can spell: its texts are bytes, its format is formed, and its line is a u32
pub record HasLine (message : Message) : Type 0 where
  pub file : AreBytes message.file
  pub bytes : AreBytes message.format.bytes
  pub formed : Spells message.format.bytes message.format.pieces
  pub line_fits : message.line < 2 ^ 32
