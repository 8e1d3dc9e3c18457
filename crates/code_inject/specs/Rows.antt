-- A worked source with its rewritten text, and a worked header.
use Rattle.std.specs.Prelude.{ℕ, false, List, [], ◌∷◌, ◌++◌, codes}
use Rattle.std.proofs.Common.{lit≤}
use Rattle.printf_grammar.specs.declared.piece.Piece.{Piece}
use Rattle.printf_grammar.specs.declared.piece.Piece.TheVariants.{Literal, Field}
use Rattle.printf_grammar.specs.declared.piece.Size.{Size}
use Rattle.printf_grammar.specs.declared.piece.Size.TheVariants.{Absent, Star}
use Rattle.printf_grammar.specs.declared.piece.Length.{Length}
use Rattle.printf_grammar.specs.declared.piece.Length.TheVariants.{Plain, L}
use Rattle.printf_grammar.specs.declared.piece.Conversion.{Conversion}
use Rattle.printf_grammar.specs.declared.piece.Conversion.TheVariants.{D, U, S}
use Rattle.printf_grammar.specs.Pieces.{Parsed}
use Rattle.log_dictionary.specs.declared.severity.Severity.{Severity}
use Rattle.log_dictionary.specs.declared.severity.Severity.TheVariants.{Error, Notice, Debug}
use Rattle.log_dictionary.specs.declared.message.Message.{Message}
use Rattle.source_scan.specs.declared.found.Found.{Found}
use Rattle.source_scan.specs.declared.found.Found.TheVariants as found

-- ---- formats and messages

-- a conversion with this width, precision and length
abbrev pub field : Size → Size → Length → Conversion → Piece
field width precision length conversion =
    Field
    (record {
      minus = false;
      plus = false;
      space = false;
      sharp = false;
      zero = false;
      width = width;
      precision = precision;
      length = length;
      conversion = conversion;
    })

-- `x`, `y` and `%d`
abbrev pub letter_x : Parsed
letter_x = record { bytes = codes "x"; pieces = Literal 0 1 ∷ [] }

abbrev pub letter_y : Parsed
letter_y = record { bytes = codes "y"; pieces = Literal 0 1 ∷ [] }

abbrev pub format_d : Parsed
format_d = record { bytes = codes "%d"; pieces = field Absent Absent Plain D ∷ [] }

-- a format with each type
abbrev pub all_types : Parsed
all_types = record {
  bytes = codes "%d%u%ld%lu%*.*d%s";
  pieces = field Absent Absent Plain D ∷ field Absent Absent Plain U ∷ field Absent Absent L D
      ∷ field Absent Absent L U ∷ field Star Star Plain D ∷ field Absent Absent Plain S ∷ [];
}

-- a message in this line of `t.cc`
abbrev pub message_in : ℕ → Severity → Parsed → Message
message_in line severity format = record {
  file = codes "t.cc";
  line = line;
  severity = severity;
  format = format;
  file_length = (lit≤ tt, lit≤ tt);
}

-- ---- a source

-- two statements in one line, and one in two lines with a comment inside
abbrev pub injected_source : List ℕ
injected_source =
    codes "a(); NANO_LOG(ERROR, \"x\"); NANO_LOG(DEBUG, \"%d\", n);\n"
    ++ codes "NANO_LOG(NOTICE, // \"z\", 1\n" ++ codes "  \"y\");\n"

-- a statement of that source
abbrev pub statement_in : ℕ → Severity → Parsed → ℕ → ℕ → ℕ → ℕ → Found
statement_in line severity format args start head end =
    found.Statement
    (record {
      file = codes "t.cc";
      line = line;
      severity = severity;
      format = format;
      args = args;
      start = start;
      head = head;
      end = end;
    })

abbrev pub injected_found : List Found
injected_found =
    statement_in 1 Error letter_x 0 5 24 25 ∷ statement_in 1 Debug format_d 1 27 47 51
    ∷ statement_in 2 Notice letter_y 0 53 85 86 ∷ []

-- their messages, in another order
abbrev pub worked_dictionary : List Message
worked_dictionary = message_in 1 Debug format_d ∷ message_in 2 Notice letter_y ∷ message_in 1 Error letter_x ∷ []

abbrev pub worked_text : List ℕ
worked_text =
    codes "a(); NANO_LOG_CALL(2); NANO_LOG_CALL(0, n);\n" ++ codes "NANO_LOG_CALL(1\n" ++ codes ");\n"

-- ---- a header

abbrev pub header_dictionary : List Message
header_dictionary = message_in 1 Error letter_x ∷ message_in 2 Debug all_types ∷ []

abbrev pub worked_header : List ℕ
worked_header =
    codes "/* nanolog-header 1 */\n" ++ codes "#define NANO_LOG_MESSAGES 2\n"
    ++ codes "static const char *const nano_log_types[] = {\n" ++ codes "\"\",\n" ++ codes "\"iulmwpis\",\n"
    ++ codes "0};\n" ++ codes "static const unsigned char nano_log_severity[] = {\n" ++ codes "1,\n" ++ codes "4,\n"
    ++ codes "0};\n"
