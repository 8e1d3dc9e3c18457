-- The forms of what a source is made of, as texts without splices (C++ [lex], with the limits of this library).
use Rattle.std.specs.Prelude.{ℕ, Bool, true, false, not, ◌&&◌, ◌||◌, ◌==◌, if◌then◌else◌, List, [], ◌∷◌, drop}
use Rattle.std.specs.List.{list_all}
use Rattle.std.specs.Char.{is_ascii_digit}
use Rattle.source_tokens.specs.Bytes.{is_space, begins_word, continues_word, is_number_byte, is_exponent, is_sign}
use Rattle.source_tokens.specs.Bytes.{is_within_line}
use Rattle.source_tokens.specs.declared.kind.TokenKind.{TokenKind}
use Rattle.source_tokens.specs.declared.kind.TokenKind.TheVariants as kinds
use Rattle.source_tokens.specs.declared.opening.Opening.{Opening}
use Rattle.source_tokens.specs.declared.opening.Opening.TheVariants.{Space, NewLine, LineComment, BlockComment}
use Rattle.source_tokens.specs.declared.opening.Opening.TheVariants.{Identifier, Number, StringLiteral}
use Rattle.source_tokens.specs.declared.opening.Opening.TheVariants.{CharacterConstant, Punctuator}

-- the bytes begin with one that passes the test
abbrev pub first_passes : (ℕ → Bool) → List ℕ → Bool
first_passes test [] = false
first_passes test (byte ∷ bytes) = test byte

abbrev pub is_empty : List ℕ → Bool
is_empty [] = true
is_empty (byte ∷ bytes) = false

-- ---- what begins with a byte

-- what begins with this byte, where these bytes follow it
abbrev pub opening_of : ℕ → List ℕ → Opening
opening_of first behind =
    if first == 10 then NewLine
    else (if is_space first then Space
    else (if first == 47 && first_passes (λ byte. byte == 47) behind then LineComment
    else (if first == 47 && first_passes (λ byte. byte == 42) behind then BlockComment
    else (if first == 34 then StringLiteral
    else (if first == 39 then CharacterConstant
    else (if begins_word first then Identifier
    else (if is_ascii_digit first || (first == 46 && first_passes is_ascii_digit behind) then Number
    else Punctuator)))))))

-- ---- comments

-- `*/` stands nowhere before the last of the bytes
unfoldable pub is_comment_body : List ℕ → Bool
is_comment_body [] = true
is_comment_body (byte ∷ []) = true
is_comment_body (byte ∷ next ∷ []) = true
is_comment_body (byte ∷ next ∷ third ∷ bytes) =
    not (byte == 42 && next == 47) && is_comment_body (next ∷ third ∷ bytes)

-- the same of the bytes behind a first one, which is the `*` of `/*`
abbrev pub is_comment_tail : List ℕ → Bool
is_comment_tail [] = true
is_comment_tail (star ∷ body) = is_comment_body body

-- ---- string literals and character constants

-- the mark stands in the bytes and isn't the second byte of a pair: a backslash and the byte behind it
unfoldable pub has_mark : ℕ → List ℕ → Bool
has_mark mark [] = false
has_mark mark (byte ∷ []) = byte == mark
has_mark mark (byte ∷ next ∷ bytes) =
    if byte == mark then true else (if byte == 92 then has_mark mark bytes else has_mark mark (next ∷ bytes))

-- a part of one line in which such a mark stands nowhere before the last byte
unfoldable pub is_literal_body : ℕ → List ℕ → Bool
is_literal_body mark [] = true
is_literal_body mark (byte ∷ []) = not (byte == 10)
is_literal_body mark (byte ∷ next ∷ bytes) =
    if byte == 10 || byte == mark then false
    else (if byte == 92 then not (next == 10) && is_literal_body mark bytes else is_literal_body mark (next ∷ bytes))

-- ---- preprocessing numbers

-- behind the byte `before` of a number the byte goes on with it, where these bytes follow
abbrev pub number_goes_on : ℕ → ℕ → List ℕ → Bool
number_goes_on before byte behind =
    is_number_byte byte || byte == 46 || (is_sign byte && is_exponent before)
    || (byte == 39 && first_passes is_number_byte behind)

-- each of the bytes goes on with a number behind the byte `before`
unfoldable pub is_number_tail : ℕ → List ℕ → Bool
is_number_tail before [] = true
is_number_tail before (byte ∷ bytes) = number_goes_on before byte bytes && is_number_tail byte bytes

-- ---- all forms

-- the bytes go on with what begins with the byte `first`
abbrev pub is_tail : Opening → ℕ → List ℕ → Bool
is_tail Space first bytes = list_all is_space bytes
is_tail NewLine first bytes = is_empty bytes
is_tail LineComment first bytes = list_all is_within_line bytes
is_tail BlockComment first bytes = is_comment_tail bytes
is_tail Identifier first bytes = list_all continues_word bytes
is_tail Number first bytes = is_number_tail first bytes
is_tail StringLiteral first bytes = is_literal_body 34 bytes
is_tail CharacterConstant first bytes = is_literal_body 39 bytes
is_tail Punctuator first bytes = is_empty bytes

-- a string literal or a character constant, or a broken one, where its mark doesn't stand at the end
abbrev pub literal_kind : Bool → TokenKind → TokenKind → TokenKind
literal_kind ended whole broken = if ended then whole else broken

-- what a text is that was read with this opening
abbrev pub token_kind : Opening → List ℕ → TokenKind
token_kind Space text = kinds.Space
token_kind NewLine text = kinds.NewLine
token_kind LineComment text = kinds.LineComment
token_kind BlockComment text = kinds.BlockComment
token_kind Identifier text = kinds.Identifier
token_kind Number text = kinds.Number
token_kind StringLiteral text = literal_kind (has_mark 34 (drop 1 text)) kinds.StringLiteral kinds.BrokenString
token_kind CharacterConstant text = literal_kind (has_mark 39 (drop 1 text)) kinds.CharacterConstant kinds.BrokenConstant
token_kind Punctuator [] = kinds.Space
token_kind Punctuator (byte ∷ bytes) = kinds.Punctuator byte
