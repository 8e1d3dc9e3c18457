-- The parentheses of a statement, and its arguments. A depth is the number of parentheses that are open.
use Rattle.std.specs.Prelude.{ℕ, suc, ◌+◌, ◌-◌, ◌≤◌, Bool, false, ◌&&◌, ◌==◌, if◌then◌else◌, List, [], ◌∷◌, length, take, count_by}
use Rattle.std.specs.Prelude.{Option, Some, None}
use Rattle.std.specs.Option.{option_map}
use Rattle.source_tokens.specs.declared.kind.TokenKind.{TokenKind}
use Rattle.source_tokens.specs.declared.kind.TokenKind.TheVariants.{Punctuator}
use Rattle.source_tokens.specs.declared.token.Token.{Token}

abbrev pub is_punctuator : ℕ → TokenKind → Bool
is_punctuator byte (Punctuator other) = other == byte
is_punctuator byte _ = false

-- the token is this byte alone
abbrev pub is_mark : ℕ → Token → Bool
is_mark byte token = is_punctuator byte token.kind

abbrev pub opens_parenthesis : Token → Bool
opens_parenthesis token = is_mark 40 token

abbrev pub closes_parenthesis : Token → Bool
closes_parenthesis token = is_mark 41 token

-- the token is this byte alone, at depth 0
abbrev pub is_bare : ℕ → ℕ → Token → Bool
is_bare byte depth token = is_mark byte token && depth == 0

-- the depth behind a token
abbrev pub depth_behind : ℕ → Token → ℕ
depth_behind depth token =
    if opens_parenthesis token then suc depth else (if closes_parenthesis token then depth - 1 else depth)

-- the place of the parenthesis that closes what was opened before the tokens
unfoldable pub closing_from : ℕ → List Token → Option ℕ
closing_from depth [] = None
closing_from depth (token ∷ tokens) =
    if is_bare 41 depth token then Some 0 else option_map suc (closing_from (depth_behind depth token) tokens)

-- among so many of the tokens no more parentheses are closed than opened
abbrev pub IsOpenTo : List Token → ℕ → Type 0
IsOpenTo tokens n = count_by closes_parenthesis (take n tokens) ≤ count_by opens_parenthesis (take n tokens)

-- these lists with a token in front of the first
abbrev pub onto_first : Token → List (List Token) → List (List Token)
onto_first token [] = []
onto_first token (first ∷ others) = (token ∷ first) ∷ others

-- the tokens between the commas at depth 0; parentheses alone protect a comma
unfoldable pub parted_from : ℕ → List Token → List (List Token)
parted_from depth [] = [] ∷ []
parted_from depth (token ∷ tokens) =
    if is_bare 44 depth token then [] ∷ parted_from 0 tokens
    else onto_first token (parted_from (depth_behind depth token) tokens)

-- how many tokens stand in front of the comma behind the second of these arguments; where there is no such comma, how
-- many there are
abbrev pub head_length : List (List Token) → ℕ
head_length [] = 0
head_length (first ∷ []) = length first
head_length (first ∷ second ∷ others) = suc (length first + length second)

-- the first of these lists, or no tokens
abbrev pub first_argument : List (List Token) → List Token
first_argument [] = []
first_argument (first ∷ others) = first
