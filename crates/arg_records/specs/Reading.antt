-- Words that are read: which are the frame of arguments that fit types.
use Rattle.std.specs.Prelude.{◌≡◌, ◌≢◌, ℕ, List, ◌++◌, take, drop, All}
use Rattle.std.specs.List.{flat_map}
use Rattle.std.specs.Int.{w64, to_le_bytes}
use Rattle.printf_grammar.specs.declared.arg_type.ArgType.{ArgType}
use Rattle.printf_grammar.specs.declared.argument.Value.{Value}
use Rattle.printf_grammar.specs.Types.{FitsType, Fits}
use Rattle.arg_records.specs.Frames.{words_of_argument, IsStaged, Frame}
use Rattle.arg_records.specs.Kinds.{HoldsBytes}

-- the words are the frame of a call that is staged, with these arguments, which fit the types
pub record IsFrameOf (types : List ArgType) (args : List Value) (words : List ℕ) : Type 0 where
  pub id : ℕ
  pub stamp : ℕ
  pub staged : IsStaged id stamp args
  pub fits : Fits args types
  pub bytes : All HoldsBytes args
  pub is : words ≡ Frame id stamp args

-- the words are those of these arguments, which fit the types, one argument behind another
pub record SpellsArguments (types : List ArgType) (args : List Value) (words : List ℕ) : Type 0 where
  pub fits : Fits args types
  pub bytes : All HoldsBytes args
  pub is : words ≡ flat_map words_of_argument args

-- the words begin with those of the argument, which is of the type, and these words follow
pub record BeginsWithWordsOf (type : ArgType) (words : List ℕ) (value : Value) (back : List ℕ) : Type 0 where
  pub fits : FitsType value type
  pub bytes : HoldsBytes value
  pub parts : words ≡ words_of_argument value ++ back

-- the bytes of words, eight to a word, the lowest first
abbrev pub bytes_of_words : List ℕ → List ℕ
bytes_of_words words = flat_map (to_le_bytes w64) words

-- so many bytes at the front are not NUL, and all others are
pub record IsPadded (len : ℕ) (bytes : List ℕ) : Type 0 where
  pub no_nul : All (λ byte. byte ≢ 0) (take len bytes)
  pub zeros : All (λ byte. byte ≡ 0) (drop len bytes)
