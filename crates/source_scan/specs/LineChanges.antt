-- Line directives (C++ [cpp.line]).
use Rattle.std.specs.Prelude.{◌≡◌, ℕ, if◌then◌else◌, List, [], ◌∷◌, drop, codes, Option, Some, None}
use Rattle.source_tokens.specs.declared.kind.TokenKind.{TokenKind}
use Rattle.source_tokens.specs.declared.kind.TokenKind.TheVariants as kinds
use Rattle.source_tokens.specs.declared.token.Token.{Token}
use Rattle.source_tokens.specs.Tokens.{Tokens}
use Rattle.source_scan.specs.declared.line_change.LineChange.{LineChange}
use Rattle.source_scan.specs.Texts.{unspliced, bytes_of, is_word, significant}
use Rattle.source_scan.specs.Items.{string_bytes}
use Rattle.source_scan.specs.LineNumbers.{spelled_number}

-- ---- numbers and names

abbrev pub kind_number : TokenKind → List ℕ → Option ℕ
kind_number kinds.Number bytes = spelled_number (unspliced bytes)
kind_number _ bytes = None

-- the number of a line that a token spells
abbrev pub line_number : List ℕ → Token → Option ℕ
line_number source token = kind_number token.kind (bytes_of source token)

abbrev pub kind_name : TokenKind → List ℕ → Option (List ℕ)
kind_name kinds.StringLiteral bytes = string_bytes bytes
kind_name _ bytes = None

-- the name of a file that a token spells: a literal without a prefix
abbrev pub file_name : List ℕ → Token → Option (List ℕ)
file_name source token = kind_name token.kind (bytes_of source token)

abbrev pub with_both : Option ℕ → Option (List ℕ) → Option LineChange
with_both (Some number) (Some name) = Some (record { number = number; name = Some name })
with_both _ _ = None

abbrev pub with_number : Option ℕ → Option LineChange
with_number None = None
with_number (Some number) = Some (record { number = number; name = None })

-- the number and the name that two tokens spell
abbrev pub named : List ℕ → Token → Token → Option LineChange
named source number name = with_both (line_number source number) (file_name source name)

-- the number that a token spells, with no name
abbrev pub unnamed : List ℕ → Token → Option LineChange
unnamed source number = with_number (line_number source number)

-- ---- directives

-- `# N "F"` and anything behind it, where these tokens stand behind `#`
abbrev pub marker_change : List ℕ → List Token → Option LineChange
marker_change source [] = None
marker_change source (number ∷ []) = None
marker_change source (number ∷ name ∷ tokens) = named source number name

-- `#line N` or `#line N "F"`, where these tokens stand behind `line`
abbrev pub line_change : List ℕ → List Token → Option LineChange
line_change source [] = None
line_change source (number ∷ []) = unnamed source number
line_change source (number ∷ name ∷ []) = named source number name
line_change source (number ∷ name ∷ other ∷ tokens) = None

-- what a directive says, where these tokens stand behind its `#`
abbrev pub directive_change : List ℕ → List Token → Option LineChange
directive_change source [] = None
directive_change source (first ∷ tokens) =
    if is_word (codes "line") source first then line_change source tokens else marker_change source (first ∷ tokens)

-- what a directive says of the next line, if it is a line directive, by the tokens of its bytes
pub record ReadsDirective (directive : List ℕ) (change : Option LineChange) : Type 0 where
  pub tokens : List Token
  pub tokens_are : Tokens directive tokens
  pub change_is : change ≡ directive_change directive (drop 1 (significant tokens))
