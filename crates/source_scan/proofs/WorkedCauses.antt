-- Worked statements that are refused.
use Rattle.std.proofs.Common.{◌≡◌, ℕ, lit≤, lit<, List, [], ◌∷◌, length, Some, refl, ap, sym, ◌∙◌, inl, inr, arith}
use Rattle.std.specs.Prelude.{codes}
use Rattle.printf_grammar.specs.declared.piece.Piece.TheVariants.{Field}
use Rattle.printf_grammar.specs.declared.piece.Size.TheVariants.{Absent}
use Rattle.printf_grammar.specs.declared.piece.Length.TheVariants.{Plain}
use Rattle.printf_grammar.specs.declared.fault.FormatCause.TheVariants.{Store}
use Rattle.printf_grammar.specs.Spelling.{Spells}
use Rattle.printf_grammar.specs.Breaks.{FormatBreak}
use Rattle.printf_grammar.specs.Narrow.{plain_d}
use Rattle.printf_grammar.proofs.lemmas.NarrowLaws.{plain_d_spelled}
use Rattle.log_dictionary.specs.declared.severity.Severity.{Severity}
use Rattle.log_dictionary.specs.declared.severity.Severity.TheVariants.{Error, Warning, Notice, Debug}
use Rattle.log_dictionary.specs.Severities.{severity_name}
use Rattle.source_tokens.specs.declared.token.Token.{Token}
use Rattle.source_scan.specs.declared.found.Found.TheVariants as found
use Rattle.source_scan.specs.declared.found.StatementCause.TheVariants as causes
use Rattle.source_scan.specs.Arguments.{closing_from}
use Rattle.source_scan.specs.Texts.{unspliced, bytes_of}
use Rattle.source_scan.specs.Escapes.{unescaped_behind}
use Rattle.source_scan.specs.Items.{items_bytes}
use Rattle.source_scan.specs.Severities.{last_name, NamesSeverity}
use Rattle.source_scan.specs.Readings.{IsFileName}
use Rattle.source_scan.specs.Statements.{IsFoundIn}
use Rattle.source_scan.specs.Rows.{worked_words, word, error, integer, store, name_at, IsToldOf}

is_name : IsFileName (codes "t.cc")
is_name = (lit≤ tt, lit≤ tt)

-- `x` names no severity
not_x : (severity : Severity) → codes "x" ≡ severity_name severity → ⊥
not_x Error same = let lengths = ap length same in omega (arith, lengths)
not_x Warning same = let lengths = ap length same in omega (arith, lengths)
not_x Notice same = let lengths = ap length same in omega (arith, lengths)
not_x Debug same = let lengths = ap length same in omega (arith, lengths)

pub is_no_severity : (source : List ℕ) (start end : ℕ) (severity : Severity) → unspliced (bytes_of source (name_at start end)) ≡ codes "x" → NamesSeverity source (name_at start end ∷ []) severity → ⊥
unfolding last_name
is_no_severity source start end severity is names =
    let same : name_at start end ≡ names.0 = cc in
    not_x severity (sym is ∙ ap (λ (token : Token). unspliced (bytes_of source token)) same ∙ names.2)

names_error : NamesSeverity worked_words (error ∷ []) Error
unfolding unspliced last_name
names_error = (error, refl, refl)

pub spells_d : Spells (codes "%d") (Field plain_d ∷ [])
spells_d = record { short = lit≤ tt; few = lit≤ tt; apart = tt; spelled = (codes "%d", [], refl, plain_d_spelled, refl) }

breaks : FormatBreak (codes "%d%n") Store 3
breaks = inr (record {
  short = lit≤ tt;
  before = codes "%d%";
  after = codes "n";
  joined = refl;
  place_is = refl;
  head = Some (record { flags = []; width = []; precision = []; modifier = [] });
  count = 1;
  right = record {
    pieces = Field plain_d ∷ [];
    whole = codes "%d";
    joined = refl;
    spelled = (codes "%d", [], refl, plain_d_spelled, refl);
    apart = tt;
    right = record { flags = tt; width = (Absent, refl); precision = (Absent, refl); modifier = inl (Plain, refl) };
    count_is = refl;
    few = lit≤ tt;
  };
  stops = refl;
})

pub unclosed : IsFoundIn worked_words [] 1 word (word ∷ []) (closing_from 0 (word ∷ [])) (found.Bad (record { file = []; line = 1; cause = causes.Unclosed }))
unfolding closing_from
unclosed = record { file = refl; line_is = refl; cause = refl }

pub file_name : IsToldOf [] (word ∷ []) (word ∷ []) causes.FileName
file_name = (record { file = refl; line = refl }, λ is. omega (arith, is.0))

pub severity : IsToldOf (codes "t.cc") (word ∷ []) (word ∷ []) causes.Severity
unfolding unspliced
severity = (record { file = refl; line = refl }, (is_name, λ has. is_no_severity worked_words 0 1 has.0 refl has.1))

pub not_literal : IsToldOf (codes "t.cc") (error ∷ []) (integer ∷ word ∷ []) causes.FormatNotLiteral
unfolding unspliced unescaped_behind items_bytes
not_literal = (record { file = refl; line = refl }, (is_name, (Error, names_error), refl))

pub format : IsToldOf (codes "t.cc") (error ∷ []) (integer ∷ store ∷ []) (causes.Format Store 3)
unfolding unspliced unescaped_behind items_bytes
format = (record { file = refl; line = refl }, (is_name, (Error, names_error), (codes "%d%n", refl, breaks)))

pub too_few : IsToldOf (codes "t.cc") (error ∷ []) (integer ∷ []) causes.TooFew
unfolding unspliced unescaped_behind items_bytes
too_few = (record { file = refl; line = refl }, (is_name, (Error, names_error), record { bytes = codes "%d"; pieces = Field plain_d ∷ []; has = refl; spells = spells_d; few = lit< tt }))
