-- Raw strings, in which nothing is removed behind the mark (C++ [lex.string]).
use Rattle.std.specs.Prelude.{◌≡◌, ◌⊎◌, ℕ, ◌+◌, Bool, true, not, ◌&&◌, ◌||◌, ◌==◌, nat_lt, nat_le}
use Rattle.std.specs.Prelude.{List, [], ◌∷◌, ◌++◌, length, drop, codes, Option, None, Some, take_while}
use Rattle.memchr.specs.Find.{FindsNeedle}
use Rattle.source_tokens.specs.declared.kind.TokenKind.{TokenKind}
use Rattle.source_tokens.specs.declared.kind.TokenKind.TheVariants.{RawString, BrokenRawString}
use Rattle.source_tokens.specs.declared.raw_string.TheConstants.{MAX_DELIMITER}
use Rattle.source_tokens.specs.Forms.{first_passes}
use Rattle.source_tokens.specs.Splices.{past_splices}
use Rattle.source_tokens.specs.Reading.{ReadsUnspliced}

-- the prefix of a raw string
abbrev pub IsRawPrefix : List ℕ → Type 0
IsRawPrefix text =
    (text ≡ codes "R") ⊎ (text ≡ codes "u8R") ⊎ (text ≡ codes "uR") ⊎ (text ≡ codes "UR") ⊎ (text ≡ codes "LR")

-- the first byte of a prefix
abbrev pub is_prefix_byte : ℕ → Bool
is_prefix_byte byte = byte == 82 || byte == 117 || byte == 85 || byte == 76

-- no space, parenthesis, backslash or control byte
abbrev pub is_delimiter_byte : ℕ → Bool
is_delimiter_byte byte =
    nat_lt 32 byte && not (byte == 40) && not (byte == 41) && not (byte == 92) && not (byte == 127)

-- the delimiter with which the bytes behind the mark begin
abbrev pub delimiter_of : List ℕ → List ℕ
delimiter_of raw = take_while is_delimiter_byte raw

-- the bytes behind the delimiter
abbrev pub past_delimiter : List ℕ → List ℕ
past_delimiter raw = drop (length (delimiter_of raw)) raw

-- the bytes behind a mark are those of a raw string: a delimiter of at most sixteen bytes, and `(`
abbrev pub opens_raw : List ℕ → Bool
opens_raw raw =
    nat_le (length (delimiter_of raw)) MAX_DELIMITER && first_passes (λ byte. byte == 40) (past_delimiter raw)

-- what ends a raw string: `)`, its delimiter and the mark
abbrev pub closing_of : List ℕ → List ℕ
closing_of raw = 41 ∷ (delimiter_of raw ++ 34 ∷ [])

-- a raw string's prefix and mark stand at the front, and `raw` are the bytes behind the mark
pub record BeginsRaw (bytes raw : List ℕ) : Type 0 where
  pub prefix : List ℕ
  pub is_prefix : IsRawPrefix prefix
  pub reads : ReadsUnspliced bytes prefix (34 ∷ raw)
  pub opens : opens_raw raw ≡ true

-- what stands behind a raw string whose closing stands at the place, and behind a broken one, which goes to the end of
-- the file
abbrev pub EndsAt : List ℕ → Option ℕ → TokenKind → List ℕ → Type 0
EndsAt raw None kind rest = (kind ≡ BrokenRawString) × (rest ≡ [])
EndsAt raw (Some at) kind rest =
    (kind ≡ RawString) × (rest ≡ past_splices (drop (at + length (closing_of raw)) (drop 1 (past_delimiter raw))))

-- a raw string goes to the first place where its closing stands; `rest` stands behind it
pub record EndsRaw (raw : List ℕ) (kind : TokenKind) (rest : List ℕ) : Type 0 where
  pub place : Option ℕ
  pub first : FindsNeedle (drop 1 (past_delimiter raw)) (closing_of raw) 0 place
  pub ends : EndsAt raw place kind rest
