-- The frame of a call: the 64-bit words in which it is staged.
use Rattle.std.specs.Prelude.{◌≡◌, ℕ, ◌+◌, ◌*◌, ◌/◌, ◌^◌, ◌<◌, ◌≤◌, List, [], ◌∷◌, length, sum_by, ⊤, All}
use Rattle.std.specs.List.{flat_map}
use Rattle.std.specs.Int.{w64, cast_unsigned}
use Rattle.nibble_pack.specs.Bytes.{number_of_bytes}
use Rattle.log_dictionary.specs.declared.dictionary.TheConstants.{MAX_MESSAGES}
use Rattle.arg_records.specs.declared.frame.TheConstants.{MAX_FRAME_WORDS}
use Rattle.printf_grammar.specs.declared.limits.TheConstants.{MAX_ARGUMENTS, MAX_TEXT}
use Rattle.printf_grammar.specs.declared.argument.Value.{Value}
use Rattle.printf_grammar.specs.declared.argument.Value.TheVariants as values

-- bytes as words, eight to a word, the lowest first; the last word is filled up with zeros
abbrev pub words_of_bytes : List ℕ → List ℕ
words_of_bytes [] = []
words_of_bytes (a ∷ b ∷ c ∷ d ∷ e ∷ f ∷ g ∷ h ∷ bytes) =
    number_of_bytes (a ∷ b ∷ c ∷ d ∷ e ∷ f ∷ g ∷ h ∷ []) ∷ words_of_bytes bytes
words_of_bytes bytes = number_of_bytes bytes ∷ []

-- An integer is one word, a signed one in two's complement. A text is its length, and then its bytes.
abbrev pub words_of_argument : Value → List ℕ
words_of_argument (values.Signed z) = cast_unsigned w64 z ∷ []
words_of_argument (values.Unsigned n) = n ∷ []
words_of_argument (values.Text bytes) = length bytes ∷ words_of_bytes bytes

-- how many words a text of so many bytes takes, its length among them
abbrev pub words_of_text : ℕ → ℕ
words_of_text n = 1 + (n + 7) / 8

-- how many words an argument takes
abbrev pub argument_words : Value → ℕ
argument_words (values.Signed z) = 1
argument_words (values.Unsigned n) = 1
argument_words (values.Text bytes) = words_of_text (length bytes)

-- how many words the frame of a call with these arguments has
abbrev pub FrameLen : List Value → ℕ
FrameLen args = 2 + sum_by argument_words args

-- the id with the length, the stamp, and the arguments in order
abbrev pub Frame : ℕ → ℕ → List Value → List ℕ
Frame id stamp args = (id * 65536 + FrameLen args) ∷ stamp ∷ flat_map words_of_argument args

-- ---- which calls have a frame

-- no text above the limit
abbrev pub IsShort : Value → Type 0
IsShort (values.Text bytes) = length bytes ≤ MAX_TEXT
IsShort _ = ⊤

-- the arguments that a call may have
pub record AreArguments (args : List Value) : Type 0 where
  pub few : length args ≤ MAX_ARGUMENTS
  pub short : All IsShort args

-- a call that is staged has these ranges
pub record IsStaged (id stamp : ℕ) (args : List Value) : Type 0 where
  pub id_in_range : id < MAX_MESSAGES
  pub stamp_in_range : stamp < 2 ^ 64
  pub arguments : AreArguments args
  pub within : FrameLen args ≤ MAX_FRAME_WORDS

-- the words are the frame of a call
abbrev pub IsFrame : List ℕ → Type 0
IsFrame words = (id : ℕ) × (stamp : ℕ) × (args : List Value) × IsStaged id stamp args × (words ≡ Frame id stamp args)
