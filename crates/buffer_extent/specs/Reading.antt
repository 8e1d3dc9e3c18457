-- A record as it is read, from left to right: what the bytes give, or the first cause by which they break.
use Rattle.std.specs.Prelude.{ℕ, zero, suc, ℤ, pos, negsuc, ◌+◌, ◌-◌, ◌/◌, ◌%◌, ◌^◌, Bool, true, false, ◌&&◌, not, nat_eq, nat_lt, nat_le, if◌then◌else◌, List, [], ◌∷◌, length, Option, Some, None, Ok, Err, slice_get, IsTrue, ⊤}
use Rattle.std.specs.Int.{w64, cast_signed}
use Rattle.std.specs.List.{list_all}
use Rattle.printf_grammar.specs.declared.limits.TheConstants.{MAX_SIZE, MAX_TEXT}
use Rattle.printf_grammar.specs.declared.arg_type.ArgType.{ArgType}
use Rattle.printf_grammar.specs.declared.arg_type.ArgType.TheVariants as types
use Rattle.printf_grammar.specs.declared.argument.Value.{Value}
use Rattle.printf_grammar.specs.declared.argument.Value.TheVariants as values
use Rattle.printf_grammar.specs.Types.{Types}
use Rattle.nibble_pack.specs.Bytes.{number_of_bytes}
use Rattle.nibble_pack.specs.Packing.{Kind, unsigned, signed}
use Rattle.nibble_pack.specs.declared.unpack.UnpackFault.{UnpackFault}
use Rattle.nibble_pack.specs.declared.unpack.UnpackFault.TheVariants as faults
use Rattle.log_dictionary.specs.declared.message.Message.{Message}
use Rattle.arg_records.specs.declared.frame.TheConstants.{MAX_FRAME_WORDS}
use Rattle.arg_records.specs.declared.call.Call.{Call}
use Rattle.arg_records.specs.Frames.{words_of_text}
use Rattle.buffer_extent.specs.declared.fault.BodyCause.{BodyCause}
use Rattle.buffer_extent.specs.declared.fault.BodyCause.TheVariants as causes
use Rattle.buffer_extent.specs.declared.numbers.Number.{Number}
use Rattle.buffer_extent.specs.declared.numbers.Number.TheVariants as numbers
use Rattle.buffer_extent.specs.declared.take.HeadCodes.{HeadCodes}
use Rattle.buffer_extent.specs.declared.take.RecordHeader.{RecordHeader}
use Rattle.nibble_pack.specs.Parsing.{Parse, ◌>>=◌, provided, so_many, each_of}
use Rattle.buffer_extent.specs.Records.{kind_of}

-- ---- numbers

-- how a number that isn't read breaks the rules
abbrev pub number_cause : UnpackFault → BodyCause
number_cause faults.Cut = causes.RecordCut
number_cause faults.BadCode = causes.BadNibble
number_cause faults.NotShortest = causes.NotShortest

-- no fewer bytes hold the number
abbrev pub is_shortest : ℕ → ℕ → Bool
is_shortest zero n = true
is_shortest (suc fewer) n = nat_le (256 ^ fewer) n

-- the unsigned number of a code
abbrev pub unsigned_at : ℕ → List ℕ → Parse BodyCause ℕ
unsigned_at code bytes = do
  count ← provided (nat_le code 8) causes.BadNibble code
  front ← so_many count causes.RecordCut bytes
  provided (is_shortest count (number_of_bytes front.0)) causes.NotShortest (number_of_bytes front.0, front.1)

-- no other code has this number
abbrev pub is_wide : ℤ → Bool
is_wide (pos n) = nat_le (2 ^ 56) n
is_wide (negsuc n) = nat_le (2 ^ 48) n

-- the signed number of code 8: eight bytes in two's complement
abbrev pub wide_at : List ℕ → Parse BodyCause ℤ
wide_at bytes = do
  front ← so_many 8 causes.RecordCut bytes
  provided (is_wide (cast_signed w64 (number_of_bytes front.0))) causes.NotShortest
      (cast_signed w64 (number_of_bytes front.0), front.1)

-- the signed number of a code: one below zero is spelled as -z - 1 from code 9 on
abbrev pub signed_at : ℕ → List ℕ → Parse BodyCause ℤ
signed_at code bytes =
    if nat_le code 7 then unsigned_at code bytes >>= (λ n. Ok (pos n.0, n.1))
    else if nat_eq code 8 then wide_at bytes
    else provided (nat_le code 15) causes.BadNibble (code - 9) >>= (λ count.
    unsigned_at count bytes >>= (λ n. Ok (negsuc n.0, n.1)))

-- the number of a code and a kind
abbrev pub number_at : Kind → ℕ → List ℕ → Parse BodyCause Number
number_at unsigned code bytes = unsigned_at code bytes >>= (λ n. Ok (numbers.Unsigned n.0, n.1))
number_at signed code bytes = signed_at code bytes >>= (λ z. Ok (numbers.Signed z.0, z.1))

-- the number isn't below minus the one, nor above the other
abbrev pub is_between : ℕ → ℕ → ℤ → Bool
is_between below above (pos n) = nat_le n above
is_between below above (negsuc n) = nat_lt n below

-- an argument of the type may have this number: the integer is of the type, and the length isn't that of too long a
-- text
abbrev pub may_stand : ArgType → Number → Bool
may_stand types.Int (numbers.Signed z) = is_between (2 ^ 31) (2 ^ 31 - 1) z
may_stand types.Long (numbers.Signed z) = is_between (2 ^ 63) (2 ^ 63 - 1) z
may_stand types.Width (numbers.Signed z) = is_between MAX_SIZE MAX_SIZE z
may_stand types.Precision (numbers.Signed z) = is_between (2 ^ 31) MAX_SIZE z
may_stand types.UInt (numbers.Unsigned n) = nat_lt n (2 ^ 32)
may_stand types.ULong (numbers.Unsigned n) = nat_lt n (2 ^ 64)
may_stand types.Text (numbers.Unsigned n) = nat_le n MAX_TEXT
may_stand _ _ = false

abbrev pub MayStand : List ArgType → List Number → Type 0
MayStand [] [] = ⊤
MayStand (type ∷ types) (number ∷ numbers) = IsTrue (may_stand type number) × MayStand types numbers
MayStand _ _ = ⊥

-- the number of an argument of the type
abbrev pub argument_at : ArgType → ℕ → List ℕ → Parse BodyCause Number
argument_at type code bytes = do
  number ← number_at (kind_of type) code bytes
  provided (may_stand type number.0) causes.ArgRange number

-- the numbers of arguments of these types, one behind another, whose codes these are
abbrev pub numbers_at : List ArgType → List ℕ → List ℕ → Parse BodyCause (List Number)
numbers_at types codes bytes = each_of causes.RecordCut argument_at types codes bytes

-- ---- codes

-- the codes that bytes hold, two to a byte, the low four bits first
abbrev pub codes_in : List ℕ → List ℕ
codes_in [] = []
codes_in (byte ∷ bytes) = byte % 16 ∷ byte / 16 ∷ codes_in bytes

-- the kind has this code, of four bits
abbrev pub is_code : Kind → ℕ → Bool
is_code unsigned code = nat_le code 8
is_code signed code = nat_le code 15

-- they are codes of the types, and 0 where there are more
abbrev pub are_codes : List ArgType → List ℕ → Bool
are_codes [] codes = list_all (λ code. nat_eq code 0) codes
are_codes (type ∷ types) [] = false
are_codes (type ∷ types) (code ∷ codes) = is_code (kind_of type) code && are_codes types codes

-- the codes of the numbers of arguments of these types
abbrev pub codes_at : List ArgType → List ℕ → Parse BodyCause (List ℕ)
codes_at types bytes = do
  front ← so_many ((length types + 1) / 2) causes.RecordCut bytes
  provided (are_codes types (codes_in front.0)) causes.BadNibble (codes_in front.0, front.1)

-- the numbers of arguments of these types, behind their codes
abbrev pub coded_numbers_at : List ArgType → List ℕ → Parse BodyCause (List Number)
coded_numbers_at types bytes = codes_at types bytes >>= (λ codes. numbers_at types codes.0 codes.1)

-- ---- the head

-- the codes of the id and of the step, which stand in one byte
abbrev pub head_codes_at : List ℕ → Parse BodyCause HeadCodes
head_codes_at [] = Err causes.RecordCut
head_codes_at (byte ∷ bytes) =
    provided (is_code unsigned (byte % 16) && is_code unsigned (byte / 16)) causes.BadNibble
    (record { id = byte % 16; step = byte / 16 }, bytes)

-- the id of one of so many messages
abbrev pub id_at : ℕ → ℕ → List ℕ → Parse BodyCause ℕ
id_at messages code bytes = do
  id ← unsigned_at code bytes
  provided (nat_lt id.0 messages) causes.UnknownId id

-- the stamp that the step leads to from the one before; it isn't below the least
abbrev pub stamp_at : ℕ → ℕ → ℕ → List ℕ → Parse BodyCause ℕ
stamp_at before least code bytes = do
  step ← unsigned_at code bytes
  stamp ← provided (nat_lt (before + step.0) (2 ^ 64)) causes.StampRange (before + step.0, step.1)
  provided (nat_le least stamp.0) causes.StampFalls stamp

-- the id of one of so many messages, and the stamp
abbrev pub head_at : ℕ → ℕ → ℕ → List ℕ → Parse BodyCause RecordHeader
head_at messages before least bytes = do
  codes ← head_codes_at bytes
  id ← id_at messages codes.0.id codes.1
  stamp ← stamp_at before least codes.0.step id.1
  Ok (record { id = id.0; stamp = stamp.0 }, stamp.1)

-- ---- texts

-- a text of so many bytes
abbrev pub text_at : ℕ → List ℕ → Parse BodyCause (List ℕ)
text_at len bytes = do
  text ← so_many len causes.RecordCut bytes
  provided (list_all (λ byte. not (nat_eq byte 0)) text.0) causes.NulInText text

-- the argument whose number this is; an integer has no text
abbrev pub value_at : ArgType → Number → List ℕ → Parse BodyCause Value
value_at types.Text (numbers.Unsigned n) bytes = text_at n bytes >>= (λ text. Ok (values.Text text.0, text.1))
value_at type (numbers.Unsigned n) bytes = Ok (values.Unsigned n, bytes)
value_at type (numbers.Signed z) bytes = Ok (values.Signed z, bytes)

-- the arguments of these types whose numbers these are: their texts, one behind another
abbrev pub values_at : List ArgType → List Number → List ℕ → Parse BodyCause (List Value)
values_at types numbers bytes = each_of causes.RecordCut value_at types numbers bytes

-- the arguments of these types: the codes of their numbers, the numbers, and the texts
abbrev pub arguments_at : List ArgType → List ℕ → Parse BodyCause (List Value)
arguments_at types bytes = coded_numbers_at types bytes >>= (λ given. values_at types given.0 given.1)

-- ---- records

-- how many words of a frame the argument takes
abbrev pub number_words : ArgType → Number → ℕ
number_words types.Text (numbers.Unsigned n) = words_of_text n
number_words _ _ = 1

abbrev pub words_taken : List ArgType → List Number → ℕ
words_taken (type ∷ types) (number ∷ numbers) = number_words type number + words_taken types numbers
words_taken _ _ = 0

-- what the message of an id takes
abbrev pub types_of : Option Message → List ArgType
types_of (Some message) = Types message.format.pieces
types_of None = []

-- what a record has in front of its texts: the id of a message, the stamp, and the numbers of arguments that the message
-- takes and that a frame has room for
abbrev pub start_at : List Message → ℕ → ℕ → List ℕ → Parse BodyCause (RecordHeader × List Number)
start_at messages before least bytes = do
  head ← head_at (length messages) before least bytes
  given ← coded_numbers_at (types_of (slice_get messages head.0.id)) head.1
  provided (nat_le (2 + words_taken (types_of (slice_get messages head.0.id)) given.0) MAX_FRAME_WORDS) causes.TooLong
      ((head.0, given.0), given.1)

-- what the record of a call begins with
abbrev pub header_of : Call → RecordHeader
header_of call = record { id = call.id; stamp = call.stamp }

-- the call of a record that begins so and has these arguments
abbrev pub call_of : RecordHeader → List Value → Call
call_of head args = record { stamp = head.stamp; id = head.id; args = args }

-- a record; its step counts from the stamp before, and its stamp isn't below the least
abbrev pub record_at : List Message → ℕ → ℕ → List ℕ → Parse BodyCause Call
record_at messages before least bytes = do
  start ← start_at messages before least bytes
  args ← values_at (types_of (slice_get messages start.0.0.id)) start.0.1 start.1
  Ok (call_of start.0.0 args.0, args.1)
