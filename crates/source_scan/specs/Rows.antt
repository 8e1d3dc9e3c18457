-- Worked tokens.
use Rattle.std.specs.Prelude.{ℕ, suc, List, [], ◌∷◌, ◌++◌, map, codes, Option}
use Rattle.printf_grammar.specs.declared.piece.Piece.TheVariants.{Field}
use Rattle.printf_grammar.specs.Narrow.{plain_d}
use Rattle.log_dictionary.specs.declared.severity.Severity.TheVariants.{Error}
use Rattle.source_tokens.specs.declared.kind.TokenKind.TheVariants.{Identifier, Number, StringLiteral, Punctuator}
use Rattle.source_tokens.specs.declared.kind.TokenKind.TheVariants.{RawString, LineComment, Space, NewLine}
use Rattle.source_tokens.specs.declared.token.Token.{Token}
use Rattle.source_scan.specs.declared.found.Found.{Found}
use Rattle.source_scan.specs.declared.found.Found.TheVariants as found
use Rattle.source_scan.specs.declared.found.StatementCause.{StatementCause}
use Rattle.source_scan.specs.declared.found.StatementCause.TheVariants as causes
use Rattle.source_scan.specs.PriWords.{pri_bytes}
use Rattle.source_scan.specs.Readings.{Parted, IsRead}

-- the byte alone, at this place
abbrev pub mark_at : ℕ → ℕ → Token
mark_at byte start = record { kind = Punctuator byte; start = start; end = suc start }

-- a name from one place to another
abbrev pub name_at : ℕ → ℕ → Token
name_at start end = record { kind = Identifier; start = start; end = end }

-- a number, and a literal
abbrev pub number_at : ℕ → ℕ → Token
number_at start end = record { kind = Number; start = start; end = end }

abbrev pub literal_at : ℕ → ℕ → Token
literal_at start end = record { kind = StringLiteral; start = start; end = end }

-- a raw string, a comment, space, and the end of a line
abbrev pub raw_at : ℕ → ℕ → Token
raw_at start end = record { kind = RawString; start = start; end = end }

abbrev pub comment_at : ℕ → ℕ → Token
comment_at start end = record { kind = LineComment; start = start; end = end }

abbrev pub space_at : ℕ → ℕ → Token
space_at start end = record { kind = Space; start = start; end = end }

abbrev pub line_end_at : ℕ → Token
line_end_at start = record { kind = NewLine; start = start; end = suc start }

-- `{1,2}`, and `(1,2)`
abbrev pub in_braces : List Token
in_braces = mark_at 123 0 ∷ number_at 1 2 ∷ mark_at 44 2 ∷ number_at 3 4 ∷ mark_at 125 4 ∷ []

abbrev pub in_parentheses : List Token
in_parentheses = mark_at 40 0 ∷ number_at 1 2 ∷ mark_at 44 2 ∷ number_at 3 4 ∷ mark_at 41 4 ∷ []

-- `ERROR, "%d", f(1));` as it stands behind `a; NANO_LOG(`
abbrev pub behind_word : List Token
behind_word =
    name_at 12 17 ∷ mark_at 44 17 ∷ literal_at 19 23 ∷ mark_at 44 23
    ∷ name_at 25 26 ∷ mark_at 40 26 ∷ number_at 27 28 ∷ mark_at 41 28 ∷ mark_at 41 29 ∷ mark_at 59 30 ∷ []

-- the statement at place 3 that closes at the second parenthesis of these
abbrev pub worked_statement : Parted
worked_statement = record {
  file = codes "t.cc";
  line = 1;
  severity = name_at 12 17 ∷ [];
  format = literal_at 19 23 ∷ [];
  args = 1;
  start = 3;
  head = 23;
  end = 30;
}

-- `nano::ERROR` with spaces in it, where the second colon stands at this place
abbrev pub scoped : ℕ → List Token
scoped second = name_at 0 4 ∷ mark_at 58 5 ∷ mark_at 58 second ∷ name_at 8 13 ∷ []

-- ---- PRI words

-- what the words of this width stand for, letter by letter
abbrev pub pri_words : List ℕ → List (Option (List ℕ))
pri_words width = map (λ letter. pri_bytes (codes "PRI" ++ letter ∷ width)) (codes "diouxX")

-- the letters alone, and behind `l`
abbrev pub letters : List (List ℕ)
letters = codes "d" ∷ codes "i" ∷ codes "o" ∷ codes "u" ∷ codes "x" ∷ codes "X" ∷ []

abbrev pub long_letters : List (List ℕ)
long_letters = codes "ld" ∷ codes "li" ∷ codes "lo" ∷ codes "lu" ∷ codes "lx" ∷ codes "lX" ∷ []

-- ---- causes

-- a source of four tokens
abbrev pub worked_words : List ℕ
worked_words = codes "x ERROR \"%d\" \"%n\""

abbrev pub word : Token
word = name_at 0 1

abbrev pub error : Token
error = name_at 2 7

abbrev pub integer : Token
integer = literal_at 8 12

abbrev pub store : Token
store = literal_at 13 17

-- a statement of that source with these two arguments and no others, in line 1 of this file
abbrev pub reading_with : List ℕ → List Token → List Token → Parted
reading_with file severity format = record {
  file = file;
  line = 1;
  severity = severity;
  format = format;
  args = 0;
  start = 0;
  head = 16;
  end = 17;
}

-- it is refused from this cause
abbrev pub IsToldOf : List ℕ → List Token → List Token → StatementCause → Type 0
IsToldOf file severity format cause =
    IsRead worked_words (reading_with file severity format)
    (found.Bad (record { file = file; line = 1; cause = cause }))

-- ---- a whole source

-- a line directive, a raw string and a comment, a good statement, a bad one and an open one
abbrev pub worked_source : List ℕ
worked_source =
    codes "# 7 \"h\" NANO_LOG(x)" ++ 10
    ∷ codes "R\"(NANO_LOG()\"//NANO_LOG(x)" ++ 10
    ∷ codes "NANO_LOG NANO_LOG(ERROR,\"%d\",f(1,2))" ++ 10
    ∷ codes "NANO_LOG(x,NANO_LOG(y))" ++ 10
    ∷ codes "NANO_LOG(NANO_LOG()" ++ 10 ∷ []

-- the statements of its last three lines
abbrev pub worked_good : Found
worked_good = found.Statement (record {
  file = codes "h";
  line = 8;
  severity = Error;
  format = record { bytes = codes "%d"; pieces = Field plain_d ∷ [] };
  args = 1;
  start = 57;
  head = 76;
  end = 84;
})

abbrev pub worked_bad : Found
worked_bad = found.Bad (record { file = codes "h"; line = 9; cause = causes.Severity })

abbrev pub worked_open : Found
worked_open = found.Bad (record { file = codes "h"; line = 10; cause = causes.Unclosed })

abbrev pub worked_found : List Found
worked_found = worked_good ∷ worked_bad ∷ worked_open ∷ []
