-- What is asked of a frame whose record is to be written, and the room that the record takes.
use Rattle.std.specs.Prelude.{◌≡◌, ℕ, ◌+◌, ◌*◌, ◌/◌, ◌<◌, ◌≤◌, List, ◌∷◌, ◌++◌, pos, length, sum_by, All}
use Rattle.std.specs.Int.{w64, to_le_bytes, from_le_bytes}
use Rattle.std.specs.List.{flat_map}
use Rattle.printf_grammar.specs.declared.arg_type.ArgType.{ArgType}
use Rattle.printf_grammar.specs.declared.arg_type.ArgType.TheVariants as types
use Rattle.printf_grammar.specs.declared.argument.Value.{Value}
use Rattle.printf_grammar.specs.Types.{FitsType, Fits, text_of}
use Rattle.log_dictionary.specs.declared.dictionary.TheConstants.{MAX_MESSAGES}
use Rattle.arg_records.specs.declared.frame.TheConstants.{MAX_FRAME_WORDS}
use Rattle.arg_records.specs.Frames.{words_of_argument, FrameLen, Frame}
use Rattle.arg_records.specs.Kinds.{HoldsBytes}
use Rattle.nibble_pack.specs.declared.pack.Packed.{Packed as PackedBytes}
use Rattle.nibble_pack.specs.Packing.{unsigned, Packed}
use Rattle.arg_records.specs.Places.{with_words}
use Rattle.buffer_extent.specs.Records.{PackedNumber, kind_of, packed_value, PacksArguments, codes_of, packed_bytes, code_bytes}

-- the words are the frame of a call that was made at this stamp or later, with arguments that fit the types
pub record IsFrameSince (types : List ArgType) (before : ℕ) (frame : List ℕ) : Type 0 where
  pub id : ℕ
  pub stamp : ℕ
  pub args : List Value
  pub id_in_range : id < MAX_MESSAGES
  pub not_before : before ≤ stamp
  pub fits : Fits args types
  pub bytes : All HoldsBytes args
  pub within : FrameLen args ≤ MAX_FRAME_WORDS
  pub is : frame ≡ Frame id stamp args

-- the words are those of arguments that fit the types, one argument behind another
pub record AreWordsOf (types : List ArgType) (args : List Value) (words : List ℕ) : Type 0 where
  pub fits : Fits args types
  pub bytes : All HoldsBytes args
  pub is : words ≡ flat_map words_of_argument args

-- the words begin with those of an argument of the type, and these follow
pub record BeginsWithWords (type : ArgType) (words : List ℕ) (value : Value) (more : List ℕ) : Type 0 where
  pub fits : FitsType value type
  pub is : words ≡ words_of_argument value ++ more

-- it has eight bytes, and no more of them than these
pub record HasItsBytes (packed : PackedBytes) : Type 0 where
  pub few : packed.len ≤ 8
  pub eight : to_le_bytes w64 (from_le_bytes w64 packed.bytes) ≡ packed.bytes

-- the bytes of the argument's number were written at a place, and it has this code
pub record PutsNumber (type : ArgType) (value : Value) (old : List ℕ) (at code : ℕ) (new : List ℕ)
    (end : ℕ) : Type 0 where
  pub bytes : List ℕ
  pub packed : Packed (kind_of type) (packed_value value) code bytes
  pub written : new ≡ with_words old at bytes
  pub behind : end ≡ at + length bytes

-- the codes of the arguments' numbers were written at the one place, and their bytes at the other
pub record PutsNumbers (types : List ArgType) (args : List Value) (old : List ℕ) (place at : ℕ) (new : List ℕ)
    (end : ℕ) : Type 0 where
  pub numbers : List PackedNumber
  pub packed : PacksArguments types args numbers
  pub written : new ≡ with_words (with_words old place (code_bytes (codes_of numbers))) at (packed_bytes numbers)
  pub behind : end ≡ at + length (packed_bytes numbers)

-- the bytes of a head, which has the id and the step
pub record HeadBytes (id step : ℕ) (bytes : List ℕ) : Type 0 where
  pub id_number : PackedNumber
  pub step_number : PackedNumber
  pub id_packed : Packed unsigned (pos id) id_number.code id_number.bytes
  pub step_packed : Packed unsigned (pos step) step_number.code step_number.bytes
  pub joined : bytes ≡ (id_number.code + 16 * step_number.code) ∷ (id_number.bytes ++ step_number.bytes)

-- the most bytes of the number of an argument of the type
abbrev pub number_room : ArgType → ℕ
number_room types.Int = 4
number_room types.UInt = 4
number_room types.Long = 8
number_room types.ULong = 8
number_room types.Width = 2
number_room types.Precision = 4
number_room types.Text = 2

-- The most bytes that a record with such arguments has: a byte of codes, two of the id, eight of the step, the codes of
-- the arguments, their numbers, and the texts.
abbrev pub record_room : List ArgType → List Value → ℕ
record_room types args = 11 + (length types + 1) / 2 + sum_by number_room types + length (flat_map text_of args)
