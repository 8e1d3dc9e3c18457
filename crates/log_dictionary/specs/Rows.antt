-- A worked message, its entry and its line, worked clocks, and more rows of laws.
use Rattle.std.specs.Prelude.{ℕ, List, [], ◌∷◌, ◌++◌, codes}
use Rattle.std.proofs.Common.{lit≤}
use Rattle.printf_grammar.specs.declared.piece.Piece.TheVariants.{Literal, Field}
use Rattle.printf_grammar.specs.Narrow.{plain_d}
use Rattle.log_dictionary.specs.declared.clock.Clock.{Clock}
use Rattle.log_dictionary.specs.declared.severity.Severity.{Severity}
use Rattle.log_dictionary.specs.declared.severity.Severity.TheVariants.{Error, Warning, Notice, Debug}
use Rattle.log_dictionary.specs.declared.message.Message.{Message}

-- a message at line 12 of `srv.cc` with the format `x=%d`
abbrev pub row_message : Message
row_message = record {
  file = codes "srv.cc";
  line = 12;
  severity = Notice;
  format = record { bytes = codes "x=%d"; pieces = Literal 0 2 ∷ Field plain_d ∷ [] };
  file_length = (lit≤ tt, lit≤ tt);
}

-- its severity and its line
abbrev pub row_head : List ℕ
row_head = 3 ∷ 12 ∷ 0 ∷ 0 ∷ 0 ∷ []

-- its entry
abbrev pub row_entry : List ℕ
row_entry = row_head ++ 6 ∷ 0 ∷ codes "srv.cc" ++ 4 ∷ 0 ∷ codes "x=%d"

-- its line as the first message of a dictionary
abbrev pub row_message_line : List ℕ
row_message_line = codes "message 0 NOTICE 12 \"srv.cc\" \"x=%d\""

-- a line whose id is 2^64
abbrev pub great_line : List ℕ
great_line = codes "message 18446744073709551616 NOTICE 12 \"srv.cc\" \"x\""

abbrev pub all_severities : List Severity
all_severities = Error ∷ Warning ∷ Notice ∷ Debug ∷ []

-- a clock of two ticks a nanosecond
abbrev pub row_clock : Clock
row_clock = record { tick = 1000; nanos = 1514764800000000000; rate = 2000000000 }

-- a later clock, of one tick a nanosecond
abbrev pub later_clock : Clock
later_clock = record { tick = 2000; nanos = 1514764801000000000; rate = 1000000000 }
