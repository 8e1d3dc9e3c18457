-- How many bytes of its texts a message prints (C11 7.21.6.1, paragraphs 4, 5 and 8).
use Rattle.std.specs.Prelude.{ℕ, List, [], ◌∷◌, ◌++◌, min, take, slice_get, slice_index_or, Option, Some, None, option_and_then}
use Rattle.printf_grammar.specs.declared.limits.TheConstants.{MAX_TEXT}
use Rattle.printf_grammar.specs.declared.piece.Piece.{Piece}
use Rattle.printf_grammar.specs.declared.piece.Piece.TheVariants.{Literal, Percent, Field}
use Rattle.printf_grammar.specs.declared.piece.Size.{Size}
use Rattle.printf_grammar.specs.declared.piece.Size.TheVariants.{Absent, Star, Given}
use Rattle.printf_grammar.specs.declared.piece.Conversion.{Conversion}
use Rattle.printf_grammar.specs.declared.piece.Conversion.TheVariants.{S}
use Rattle.printf_grammar.specs.declared.argument.Value.{Value}
use Rattle.printf_grammar.specs.declared.argument.Value.TheVariants.{Text}
use Rattle.log_dictionary.specs.declared.message.Message.{Message}

-- of a text under this precision: as many as its digits say, and without digits all that a text has
abbrev pub printed_bytes : Size → ℕ
printed_bytes Absent = MAX_TEXT
printed_bytes Star = MAX_TEXT
printed_bytes (Given n) = min n MAX_TEXT

-- of the value that is converted, where it is a text
abbrev pub value_limit : Conversion → Size → Option ℕ
value_limit S precision = Some (printed_bytes precision)
value_limit _ precision = None

-- a `*` takes an argument, which is no text
abbrev pub star_limits : Size → List (Option ℕ)
star_limits Star = None ∷ []
star_limits _ = []

-- of each argument of a piece: those for its width and its precision, and the value
abbrev pub piece_limits : Piece → List (Option ℕ)
piece_limits (Literal start end) = []
piece_limits Percent = []
piece_limits (Field spec) =
    star_limits spec.width ++ star_limits spec.precision ++ value_limit spec.conversion spec.precision ∷ []

-- of each argument of a format, in order
abbrev pub text_limits : List Piece → List (Option ℕ)
text_limits [] = []
text_limits (piece ∷ pieces) = piece_limits piece ++ text_limits pieces

-- the limit at this place: none where nothing stands there, or no text
abbrev pub limit_at : List (Option ℕ) → ℕ → Option ℕ
limit_at limits nth = slice_index_or limits nth None

-- the limit of this argument of the message that has this id, where there are both and the argument is a text
abbrev pub text_limit : List Message → ℕ → ℕ → Option ℕ
text_limit messages id nth =
    option_and_then (λ message. limit_at (text_limits message.format.pieces) nth) (slice_get messages id)

-- ---- texts that are cut to their limits

abbrev pub cut_text : Option ℕ → Value → Value
cut_text (Some most) (Text bytes) = Text (take most bytes)
cut_text _ value = value

-- each argument by its own limit
abbrev pub cut_texts : List (Option ℕ) → List Value → List Value
cut_texts (limit ∷ limits) (value ∷ values) = cut_text limit value ∷ cut_texts limits values
cut_texts _ values = values
