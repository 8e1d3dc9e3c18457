-- The severity of a statement.
use Rattle.std.specs.Prelude.{◌≡◌, ℕ, Bool, ◌&&◌, if◌then◌else◌, List, [], ◌∷◌, Option, Some, None}
use Rattle.log_dictionary.specs.declared.severity.Severity.{Severity}
use Rattle.log_dictionary.specs.Severities.{severity_name}
use Rattle.source_tokens.specs.declared.token.Token.{Token}
use Rattle.source_scan.specs.Arguments.{is_mark}
use Rattle.source_scan.specs.Texts.{unspliced, bytes_of, is_identifier, touches}

-- the tokens are `::`
abbrev pub is_scope : Token → Token → Bool
is_scope first second = is_mark 58 first && is_mark 58 second && touches first second

-- the tokens without `::` at the front
abbrev pub without_scope : List Token → List Token
without_scope [] = []
without_scope (first ∷ []) = first ∷ []
without_scope (first ∷ second ∷ tokens) = if is_scope first second then tokens else first ∷ second ∷ tokens

-- the last of identifiers that are joined by `::`
unfoldable pub last_name : List Token → Option Token
last_name [] = None
last_name (name ∷ []) = if is_identifier name.kind then Some name else None
last_name (name ∷ first ∷ []) = None
last_name (name ∷ first ∷ second ∷ tokens) =
    if is_identifier name.kind && is_scope first second then last_name tokens else None

-- the argument names this severity
abbrev pub NamesSeverity : List ℕ → List Token → Severity → Type 0
NamesSeverity source tokens severity =
    (name : Token) × (last_name (without_scope tokens) ≡ Some name)
    × (unspliced (bytes_of source name) ≡ severity_name severity)
