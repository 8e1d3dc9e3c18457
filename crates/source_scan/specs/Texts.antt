-- Bytes of a source without splices, and what tokens spell.
use Rattle.std.specs.Prelude.{ℕ, ◌-◌, Bool, true, false, ◌&&◌, ◌==◌, if◌then◌else◌, List, [], ◌∷◌, take, drop, filter}
use Rattle.std.specs.Str.{bytes_eq}
use Rattle.source_tokens.specs.declared.kind.TokenKind.{TokenKind}
use Rattle.source_tokens.specs.declared.kind.TokenKind.TheVariants as kinds
use Rattle.source_tokens.specs.declared.token.Token.{Token}

-- the bytes without their splices, each a backslash and LF, or a backslash, CR and LF
unfoldable pub unspliced : List ℕ → List ℕ
unspliced [] = []
unspliced (first ∷ []) = first ∷ []
unspliced (first ∷ second ∷ []) = if first == 92 && second == 10 then [] else first ∷ unspliced (second ∷ [])
unspliced (first ∷ second ∷ third ∷ rest) =
    if first == 92 && second == 10 then unspliced (third ∷ rest)
    else (if first == 92 && second == 13 && third == 10 then unspliced rest
    else first ∷ unspliced (second ∷ third ∷ rest))

-- ---- tokens

-- the bytes of a token, with its splices
abbrev pub bytes_of : List ℕ → Token → List ℕ
bytes_of source token = take (token.end - token.start) (drop token.start source)

-- the token is an identifier
abbrev pub is_identifier : TokenKind → Bool
is_identifier kinds.Identifier = true
is_identifier _ = false

-- the token is the identifier that spells this
abbrev pub is_word : List ℕ → List ℕ → Token → Bool
is_word word source token = is_identifier token.kind && bytes_eq (unspliced (bytes_of source token)) word

-- the tokens touch: nothing but splices stands between them
abbrev pub touches : Token → Token → Bool
touches token next = token.end == next.start

-- neither space nor a comment, and no directive
abbrev pub is_significant : TokenKind → Bool
is_significant kinds.Space = false
is_significant kinds.NewLine = false
is_significant kinds.LineComment = false
is_significant kinds.BlockComment = false
is_significant kinds.Directive = false
is_significant _ = true

-- what statements are looked for in
abbrev pub significant : List Token → List Token
significant parts = filter (λ (part : Token). is_significant part.kind) parts
