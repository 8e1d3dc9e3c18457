-- A source as the list of what it is made of outside directives, and its directives (C++ [cpp.pre]).
use Rattle.std.specs.Prelude.{◌≡◌, ℕ, Bool, true, false, not, ◌==◌, if◌then◌else◌, List, [], ◌∷◌, ◌++◌}
use Rattle.std.specs.List.{list_all, flat_map, AllByRecursion}
use Rattle.source_tokens.specs.declared.kind.TokenKind.{TokenKind}
use Rattle.source_tokens.specs.declared.kind.TokenKind.TheVariants.{Space, NewLine, LineComment, BlockComment}
use Rattle.source_tokens.specs.declared.kind.TokenKind.TheVariants.{Punctuator, Directive}
use Rattle.source_tokens.specs.declared.token.Token.{Token}
use Rattle.source_tokens.specs.declared.line_parts.LinePlace.{LinePlace}
use Rattle.source_tokens.specs.declared.line_parts.LinePlace.TheVariants as places
use Rattle.source_tokens.specs.Tokens.{Tokens}

-- ---- one line

-- space or a comment
abbrev pub is_blank : TokenKind → Bool
is_blank Space = true
is_blank LineComment = true
is_blank BlockComment = true
is_blank _ = false

abbrev pub is_hash : TokenKind → Bool
is_hash (Punctuator byte) = byte == 35
is_hash _ = false

-- the LF that ends a line
abbrev pub ends_line : TokenKind → Bool
ends_line NewLine = true
ends_line _ = false

-- the end of the last token, or `end` where there is none
abbrev pub last_end : ℕ → List Token → ℕ
last_end end [] = end
last_end end (token ∷ tokens) = last_end token.end tokens

-- a directive that begins with this token and goes to the end of these
abbrev pub directive_of : Token → List Token → Token
directive_of first tokens = record { kind = Directive; start = first.start; end = last_end first.end tokens }

-- a line with its directive: where its first token that is no space and no comment is `#`, that and all behind it are
-- one directive
abbrev pub of_line : List Token → List Token
of_line [] = []
of_line (token ∷ tokens) =
    if is_blank token.kind then token ∷ of_line tokens
    else (if is_hash token.kind then directive_of token tokens ∷ [] else token ∷ tokens)

-- ---- all lines

-- the tokens of a line, and the LF that ends it
pub record TokenLine : Type 0 where
  pub tokens : List Token
  pub ending : Token

abbrev pub continues_line : Token → Bool
continues_line token = not (ends_line token.kind)

-- only its last token ends the line
abbrev pub IsLine : TokenLine → Type 0
IsLine line = (list_all continues_line line.tokens ≡ true) × (ends_line line.ending.kind ≡ true)

abbrev pub line_tokens : TokenLine → List Token
line_tokens line = line.tokens ++ line.ending ∷ []

abbrev pub line_parts : TokenLine → List Token
line_parts line = of_line line.tokens ++ line.ending ∷ []

-- the parts are the tokens line by line, with the directives of each line
pub record InLines (tokens parts : List Token) : Type 0 where
  pub lines : List TokenLine
  pub last : List Token
  pub are_lines : AllByRecursion IsLine lines
  pub last_goes_on : list_all continues_line last ≡ true
  pub tokens_are : tokens ≡ flat_map line_tokens lines ++ last
  pub parts_are : parts ≡ flat_map line_parts lines ++ of_line last

-- the tokens, comments, spaces and directives of a source, in order
pub record Parts (source : List ℕ) (parts : List Token) : Type 0 where
  pub tokens : List Token
  pub tokens_are : Tokens source tokens
  pub in_lines : InLines tokens parts

-- ---- a part of the lines

-- what the tokens that follow within a line become, by the place in the line
abbrev pub left_at : LinePlace → List Token → List Token
left_at places.Front tokens = of_line tokens
left_at places.Behind tokens = tokens
left_at (places.Inside directive) tokens = record directive { end = last_end directive.end tokens } ∷ []

-- the parts are those of the tokens up to this place of a line, but for an unfinished directive
pub record InLinesTo (tokens parts : List Token) (place : LinePlace) : Type 0 where
  pub lines : List TokenLine
  pub last : List Token
  pub front : List Token
  pub are_lines : AllByRecursion IsLine lines
  pub last_goes_on : list_all continues_line last ≡ true
  pub tokens_are : tokens ≡ flat_map line_tokens lines ++ last
  pub parts_are : parts ≡ flat_map line_parts lines ++ front
  pub goes : (more : List Token) → of_line (last ++ more) ≡ front ++ left_at place more
