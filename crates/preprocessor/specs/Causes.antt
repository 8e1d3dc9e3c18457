-- The causes of refusals, and the words on what is refused.
use Rattle.std.specs.Prelude.{ℕ, List, [], ◌∷◌, ◌++◌, codes, decimal}
use Rattle.printf_grammar.specs.Causes.{cause_name as format_cause_name}
use Rattle.source_scan.specs.declared.found.StatementCause.{StatementCause}
use Rattle.source_scan.specs.declared.found.StatementCause.TheVariants as statements
use Rattle.preprocessor.specs.declared.refusal.RefusalCause.{RefusalCause}
use Rattle.preprocessor.specs.declared.refusal.RefusalCause.TheVariants as causes
use Rattle.preprocessor.specs.declared.refusal.SourceRefusal.{SourceRefusal}

-- ---- causes

abbrev pub statement_number : StatementCause → ℕ
statement_number statements.Severity = 1
statement_number statements.FormatNotLiteral = 2
statement_number (statements.Format cause place) = 3
statement_number statements.TooFew = 4
statement_number statements.Unclosed = 5
statement_number statements.FileName = 6

-- a cause's number, which is only another name
abbrev pub cause_number : RefusalCause → ℕ
cause_number (causes.Statement cause) = statement_number cause
cause_number causes.TooLarge = 7
cause_number causes.TooMany = 8
cause_number causes.NotInDictionary = 9

abbrev pub statement_name : StatementCause → List ℕ
statement_name statements.Severity = codes "Severity"
statement_name statements.FormatNotLiteral = codes "FormatNotLiteral"
statement_name (statements.Format cause place) = codes "Format"
statement_name statements.TooFew = codes "TooFew"
statement_name statements.Unclosed = codes "Unclosed"
statement_name statements.FileName = codes "FileName"

-- the bytes of a cause's name
abbrev pub cause_name : RefusalCause → List ℕ
cause_name (causes.Statement cause) = statement_name cause
cause_name causes.TooLarge = codes "TooLarge"
cause_name causes.TooMany = codes "TooMany"
cause_name causes.NotInDictionary = codes "NotInDictionary"

-- ---- words

abbrev pub statement_place : StatementCause → List ℕ
statement_place (statements.Format cause place) = 32 ∷ format_cause_name cause ++ codes " at " ++ decimal place
statement_place _ = []

-- how and where a format is broken, if that is the cause
abbrev pub cause_place : RefusalCause → List ℕ
cause_place (causes.Statement cause) = statement_place cause
cause_place _ = []

-- a cause's number and its name
abbrev pub cause_words : RefusalCause → List ℕ
cause_words cause = decimal (cause_number cause) ++ 32 ∷ cause_name cause

-- the line that says what is refused, up to the place in a format
abbrev pub refusal_fields : SourceRefusal → List ℕ
refusal_fields refusal =
    codes "nanolog: " ++ refusal.file ++ 58 ∷ decimal refusal.line
    ++ codes ": refused: " ++ cause_words refusal.cause

-- the whole line
abbrev pub refusal_line : SourceRefusal → List ℕ
refusal_line refusal = refusal_fields refusal ++ cause_place refusal.cause ++ 10 ∷ []
