-- Worked message lines.
use Rattle.std.proofs.Common.{◌≡◌, ℕ, ◌<◌, lit<, lit≤, List, [], ◌∷◌, Ok, Err, refl, subst, arith}
use Rattle.std.specs.Prelude.{codes}
use Rattle.std.specs.Fmt.{digits}
use Rattle.std.proofs.lemmas.List.Elements.{All-from_recursion}
use Rattle.nibble_pack.specs.Bytes.{AreBytes}
use Rattle.printf_grammar.specs.declared.piece.Piece.TheVariants.{Literal}
use Rattle.printf_grammar.specs.Spelling.{Spells}
use Rattle.log_dictionary.specs.declared.message.Message.{Message}
use Rattle.log_dictionary.specs.declared.dictionary.LineFault.TheVariants.{BadEntry, Order}
use Rattle.log_dictionary.specs.declared.severity.Severity.TheVariants.{Notice}
use Rattle.log_dictionary.specs.Numbers.{number_from}
use Rattle.log_dictionary.specs.Messages.{HasMessage, SpellsMessage}
use Rattle.log_dictionary.specs.Additions.{ReadsLine}
use Rattle.log_dictionary.specs.Canonical.{message_line, dictionary_text}
use Rattle.log_dictionary.specs.Rows.{row_message, row_message_line, great_line}
use Rattle.log_dictionary.proofs.lemmas.BinaryWorked.{formed}
use Rattle.log_dictionary.proofs.lemmas.Written.{written_text, written_message}

none_there : (message : Message) → ¬ (HasMessage [] message)
none_there message (k, other, within, is, same) = omega (arith, within)

-- ---- the row's line

file_bytes : AreBytes (codes "srv.cc")
file_bytes = All-from_recursion (λ (b : ℕ). b < 256) (codes "srv.cc") (lit< tt, (lit< tt, (lit< tt, (lit< tt, (lit< tt, (lit< tt, tt))))))

format_bytes : AreBytes (codes "x=%d")
format_bytes = All-from_recursion (λ (b : ℕ). b < 256) (codes "x=%d") (lit< tt, (lit< tt, (lit< tt, (lit< tt, tt))))

pub row_written : message_line 0 row_message ≡ row_message_line
unfolding digits
row_written = refl

pub dictionary_written : dictionary_text (row_message ∷ []) ≡ codes "nanolog-trace 1\nmessage 0 NOTICE 12 \"srv.cc\" \"x=%d\"\n"
unfolding digits
dictionary_written = refl

pub row_spelled : SpellsMessage row_message_line 0 row_message
row_spelled = subst (λ (line : List ℕ). SpellsMessage line 0 row_message) row_written (written_message 0 row_message (lit< tt) (record { file = file_bytes; bytes = format_bytes; formed = formed; line_fits = lit< tt }))

pub row_read : ReadsLine [] row_message_line (row_message ∷ []) (Ok tt)
row_read = (row_message, record { spelled = row_spelled; new = none_there row_message }, lit< tt, refl)

-- ---- an id of 2^64

abbrev great_message : Message
great_message = record { file = codes "srv.cc"; line = 12; severity = Notice; format = record { bytes = codes "x"; pieces = Literal 0 1 ∷ [] }; file_length = (lit≤ tt, lit≤ tt) }

great_formed : Spells (codes "x") (Literal 0 1 ∷ [])
great_formed = record { short = lit≤ tt; few = lit≤ tt; apart = (tt, tt); spelled = (codes "x", [], refl, record { start_is = refl; end_is = refl; nonempty = lit< tt; literal = ((λ h. cc, λ h. cc), tt) }, refl) }

great_spelled : SpellsMessage great_line 18446744073709551616 great_message
unfolding digits number_from
great_spelled = record {
  digits = codes "18446744073709551616";
  name = codes "srv.cc";
  format = codes "x";
  spelled = refl;
  numeral = refl;
  file = written_text (codes "srv.cc") file_bytes;
  bytes = written_text (codes "x") (All-from_recursion (λ (b : ℕ). b < 256) (codes "x") (lit< tt, tt));
  formed = great_formed;
  line_fits = lit< tt;
}

pub great_order : ReadsLine [] great_line [] (Err Order)
great_order = (lit< tt, (18446744073709551616, great_message, record { spelled = great_spelled; new = none_there great_message }, λ e. cc), refl)

pub great_not_bad : ¬ (ReadsLine [] great_line [] (Err BadEntry))
great_not_bad bad = none_there great_message (bad.1 18446744073709551616 great_message great_spelled)
