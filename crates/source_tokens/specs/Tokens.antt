-- A source as the list of what it is made of.
use Rattle.std.specs.Prelude.{◌≡◌, ◌⊎◌, ℕ, zero, suc, ◌+◌, ◌&&◌, ◌==◌, if◌then◌else◌, List, [], ◌∷◌, ◌++◌, length}
use Rattle.source_tokens.specs.declared.kind.TokenKind.{TokenKind}
use Rattle.source_tokens.specs.declared.kind.TokenKind.TheVariants as kinds
use Rattle.source_tokens.specs.declared.token.Token.{Token}
use Rattle.source_tokens.specs.declared.opening.Opening.{Opening}
use Rattle.source_tokens.specs.Forms.{opening_of, is_tail, token_kind}
use Rattle.source_tokens.specs.RawStrings.{BeginsRaw, EndsRaw}
use Rattle.source_tokens.specs.Splices.{past_splices}
use Rattle.source_tokens.specs.Reading.{IsLongest}

-- a raw string stands at the front
pub record StandsRaw (bytes : List ℕ) (kind : TokenKind) (rest : List ℕ) : Type 0 where
  pub raw : List ℕ
  pub begins : BeginsRaw bytes raw
  pub ends : EndsRaw raw kind rest

-- what the byte `first` opens goes on with the longest text that stands at the front of the bytes behind it, and
-- `rest` stands behind that
abbrev pub ContinuesToken : Opening → ℕ → List ℕ → TokenKind → List ℕ → Type 0
ContinuesToken opening first behind kind rest =
    (tail : List ℕ) × IsLongest (is_tail opening first) behind tail rest × (kind ≡ token_kind opening (first ∷ tail))

-- what the first byte opens stands at the front, as long as it can be, and `rest` stands behind it and its splices
pub record StandsPlain (bytes : List ℕ) (kind : TokenKind) (rest : List ℕ) : Type 0 where
  pub first : ℕ
  pub behind : List ℕ
  pub bytes_are : bytes ≡ first ∷ behind
  pub goes_on : ContinuesToken (opening_of first (past_splices behind)) first (past_splices behind) kind rest
  pub not_raw : (raw : List ℕ) → ¬ (BeginsRaw bytes raw)

abbrev pub Stands : List ℕ → TokenKind → List ℕ → Type 0
Stands bytes kind rest = StandsRaw bytes kind rest ⊎ StandsPlain bytes kind rest

-- the token is what stands at the front of these bytes, which are the last of a source of so many bytes
pub record IsToken (total : ℕ) (bytes : List ℕ) (token : Token) (rest : List ℕ) : Type 0 where
  pub stands : Stands bytes token.kind rest
  pub start : token.start + length bytes ≡ total
  pub end : token.end + length rest ≡ total

-- the tokens stand one behind the other at the front of these bytes, and `rest` stands behind them
unfoldable pub Follow : ℕ → List ℕ → List Token → List ℕ → Type 0
Follow total bytes [] rest = bytes ≡ rest
Follow total bytes (token ∷ tokens) rest =
    (behind : List ℕ) × IsToken total bytes token behind × Follow total behind tokens rest

-- the bytes without a byte order mark (ef bb bf) at the front
abbrev pub past_mark : List ℕ → List ℕ
past_mark (first ∷ second ∷ third ∷ rest) =
    if first == 239 && second == 187 && third == 191 then rest else first ∷ second ∷ third ∷ rest
past_mark bytes = bytes

-- what no token can begin with: a byte order mark, and the splices behind it
abbrev pub past_front : List ℕ → List ℕ
past_front source = past_splices (past_mark source)

-- space of so many bytes at the front of a source, or nothing
abbrev pub front_tokens : ℕ → List Token
front_tokens zero = []
front_tokens (suc length) = record { kind = kinds.Space; start = 0; end = suc length } ∷ []

-- the tokens, comments and spaces of a source, in order: the front, and then what stands one behind the other up to
-- the end
pub record Tokens (source : List ℕ) (tokens : List Token) : Type 0 where
  pub front : ℕ
  pub others : List Token
  pub front_is : front + length (past_front source) ≡ length source
  pub tokens_are : tokens ≡ front_tokens front ++ others
  pub follow : Follow (length source) (past_front source) others []
