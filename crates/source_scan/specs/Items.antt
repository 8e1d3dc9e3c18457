-- The format of a statement, as the items of its argument.
use Rattle.std.specs.Prelude.{ℕ, ◌-◌, Bool, true, false, ◌&&◌, ◌||◌, ◌==◌, if◌then◌else◌, List}
use Rattle.std.specs.Prelude.{[], ◌∷◌, ◌++◌, length, take, drop, codes, Option, Some, None}
use Rattle.std.specs.Option.{option_map}
use Rattle.std.specs.List.{before_first, after_first, list_any, starts_with}
use Rattle.std.specs.Prelude.{nat_eq}
use Rattle.std.specs.Str.{bytes_eq}
use Rattle.source_tokens.specs.declared.kind.TokenKind.{TokenKind}
use Rattle.source_tokens.specs.declared.kind.TokenKind.TheVariants as kinds
use Rattle.source_tokens.specs.declared.token.Token.{Token}
use Rattle.source_tokens.specs.RawStrings.{past_delimiter, opens_raw, closing_of}
use Rattle.source_scan.specs.Texts.{unspliced, bytes_of, is_word, touches}
use Rattle.source_scan.specs.Escapes.{unescaped_literal}
use Rattle.source_scan.specs.PriWords.{pri_bytes}

-- ---- literals

-- the bytes between the marks of a literal
abbrev pub between_marks : List ℕ → List ℕ
between_marks text = take (length text - 2) (drop 1 text)

-- what a whole string literal stands for, from its bytes in the source
abbrev pub string_bytes : List ℕ → Option (List ℕ)
string_bytes bytes = unescaped_literal (between_marks (unspliced bytes))

abbrev pub is_quote : ℕ → Bool
is_quote byte = byte == 34

-- the bytes before the first place where the others stand
unfoldable pub before_text : List ℕ → List ℕ → List ℕ
before_text others [] = []
before_text others (byte ∷ bytes) =
    if starts_with nat_eq (byte ∷ bytes) others then [] else byte ∷ before_text others bytes

-- a raw string's prefix is one of those of an item
abbrev pub is_item_prefix : List ℕ → Bool
is_item_prefix prefix = bytes_eq prefix (codes "R") || bytes_eq prefix (codes "u8R")

-- what a raw string holds, from the bytes behind its first mark
abbrev pub raw_content : List ℕ → List ℕ
raw_content raw = before_text (closing_of raw) (drop 1 (past_delimiter raw))

-- what a whole raw string stands for, from its bytes in the source
abbrev pub raw_bytes : List ℕ → Option (List ℕ)
raw_bytes bytes =
    if is_item_prefix (unspliced (before_first is_quote bytes)) && opens_raw (after_first is_quote bytes)
    then Some (raw_content (after_first is_quote bytes)) else None

-- ---- items

abbrev pub is_string : TokenKind → Bool
is_string kinds.StringLiteral = true
is_string _ = false

abbrev pub is_literal : TokenKind → Bool
is_literal kinds.StringLiteral = true
is_literal kinds.RawString = true
is_literal _ = false

-- what a token of this kind stands for
abbrev pub kind_bytes : TokenKind → List ℕ → Option (List ℕ)
kind_bytes kinds.StringLiteral bytes = string_bytes bytes
kind_bytes kinds.RawString bytes = raw_bytes bytes
kind_bytes kinds.Identifier bytes = pri_bytes (unspliced bytes)
kind_bytes _ bytes = None

abbrev pub item_bytes : List ℕ → Token → Option (List ℕ)
item_bytes source token = kind_bytes token.kind (bytes_of source token)

-- the token is the prefix `u8` of the string literal that it touches
abbrev pub is_prefix : List ℕ → Token → List Token → Bool
is_prefix source token [] = false
is_prefix source token (next ∷ tokens) = is_word (codes "u8") source token && is_string next.kind && touches token next

-- the bytes of one item, and then those of others
abbrev pub joined_items : Option (List ℕ) → Option (List ℕ) → Option (List ℕ)
joined_items None others = None
joined_items (Some bytes) others = option_map (λ (more : List ℕ). bytes ++ more) others

-- what items stand for, joined, if all of the tokens are items
unfoldable pub items_bytes : List ℕ → List Token → Option (List ℕ)
items_bytes source [] = Some []
items_bytes source (token ∷ tokens) =
    if is_prefix source token tokens then items_bytes source tokens
    else joined_items (item_bytes source token) (items_bytes source tokens)

-- the format of an argument: items, of which one at least is a literal
abbrev pub format_bytes : List ℕ → List Token → Option (List ℕ)
format_bytes source tokens =
    if list_any (λ (token : Token). is_literal token.kind) tokens then items_bytes source tokens else None
