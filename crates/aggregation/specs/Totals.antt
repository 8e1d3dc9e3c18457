-- The totals of an argument over the records of a log.
use Rattle.std.specs.Prelude.{◌≡◌, ℕ, ◌+◌, ◌*◌, ◌^◌, ◌≤◌, Bool, true, false, ◌==◌, if◌then◌else◌, ℤ, pos, neg_ℤ, ◌+ℤ◌, ◌≤ℤ◌, List, [], ◌∷◌, ◌++◌, length, fold, Option, Some, None, slice_get, option_and_then}
use Rattle.std.specs.Int.{int_min, int_max}
use Rattle.std.specs.List.{filter_map}
use Rattle.std.specs.Option.{option_map_or}
use Rattle.printf_grammar.specs.declared.arg_type.ArgType.{ArgType}
use Rattle.printf_grammar.specs.declared.arg_type.ArgType.TheVariants as types
use Rattle.printf_grammar.specs.declared.argument.Value.{Value}
use Rattle.printf_grammar.specs.declared.argument.Value.TheVariants as values
use Rattle.printf_grammar.specs.Types.{Types}
use Rattle.log_dictionary.specs.declared.message.Message.{Message}
use Rattle.arg_records.specs.declared.call.Call.{Call}
use Rattle.checkpoint_io.specs.declared.header.Header.{Header}
use Rattle.checkpoint_io.specs.Blocks.{Block, messages_of, all_records}
use Rattle.checkpoint_io.specs.Fronts.{Front, HasNoHeader}
use Rattle.aggregation.specs.declared.totals.Totals.{Totals}

-- ---- numbers

-- the least and the greatest of numbers, where there are any
abbrev pub range_of : List ℤ → Option (ℤ × ℤ)
range_of [] = None
range_of (first ∷ others) = Some (fold int_min first others, fold int_max first others)

abbrev pub sum_of : List ℤ → ℤ
sum_of numbers = fold (λ sum number. sum +ℤ number) (pos 0) numbers

-- how many numbers there are, the least and the greatest of them, and their sum
abbrev pub totals_of : List ℤ → Totals
totals_of numbers = record { count = length numbers; range = range_of numbers; sum = sum_of numbers }

-- the number is one of 64 bits, signed or not
pub record IsNumber (number : ℤ) : Type 0 where
  pub low : neg_ℤ (pos (2 ^ 64)) ≤ℤ number
  pub high : number ≤ℤ pos (2 ^ 64)

-- the sum is one that so many of these can have
pub record IsWithin (count : ℕ) (sum : ℤ) : Type 0 where
  pub low : neg_ℤ (pos (count * 2 ^ 64)) ≤ℤ sum
  pub high : sum ≤ℤ pos (count * 2 ^ 64)

-- These numbers, at most so many, came behind those of the old totals, whatever they are.
pub record Adds (old new : Totals) (numbers : List ℤ) (most : ℕ) : Type 0 where
  pub totals : (before : List ℤ) → old ≡ totals_of before → new ≡ totals_of (before ++ numbers)
  pub count : new.count ≤ old.count + most
  pub within : IsWithin new.count new.sum

-- ---- the numbers of records

-- the number that an argument is, as it was given; a text is none
abbrev pub numeric_value : Value → Option ℤ
numeric_value (values.Signed number) = Some number
numeric_value (values.Unsigned number) = Some (pos number)
numeric_value (values.Text bytes) = None

-- the number at a place of the arguments, counted from 0, of a record of the message with this id; any other record
-- gives none
abbrev pub number_in : ℕ → ℕ → Call → Option ℤ
number_in id nth call = if call.id == id then option_and_then numeric_value (slice_get call.args nth) else None

-- those of all records of the message
abbrev pub numbers_in : ℕ → ℕ → List Call → List ℤ
numbers_in id nth records = filter_map (number_in id nth) records

-- the totals of argument `nth` of all records of the message with this id
abbrev pub argument_totals : List Block → ℕ → ℕ → Totals
argument_totals blocks id nth = totals_of (numbers_in id nth (all_records blocks))

-- ---- arguments that are there

-- arguments of this type are numbers
abbrev pub is_numeric : ArgType → Bool
is_numeric types.Text = false
is_numeric _ = true

-- the type of an argument of the message with this id, each `*` of the format being an argument too
abbrev pub argument_type : List Message → ℕ → ℕ → Option ArgType
argument_type messages id nth =
    option_and_then (λ message. slice_get (Types message.format.pieces) nth) (slice_get messages id)

-- a message with this id is defined, and its argument there is a number
abbrev pub has_number : List Message → ℕ → ℕ → Bool
has_number messages id nth = option_map_or is_numeric (argument_type messages id nth) false

-- the totals, where these messages have such an argument
abbrev pub totals_where : List Message → ℕ → ℕ → Totals → Option Totals
totals_where messages id nth totals = if has_number messages id nth then Some totals else None

-- the totals of an argument that blocks define; if they don't, there are none
abbrev pub totals_in : List Block → ℕ → ℕ → Option Totals
totals_in blocks id nth = totals_where (messages_of blocks) id nth (argument_totals blocks id nth)

-- ---- the totals of a file

-- these are the blocks of the file's front; without a header there are none
pub data HasBlocks (bytes : List ℕ) (blocks : List Block) : Type 0 where
  of_front : (header : Header) (count : ℕ) → Front bytes header blocks count → HasBlocks bytes blocks
  of_nothing : HasNoHeader bytes → blocks ≡ [] → HasBlocks bytes blocks

-- the totals of an argument over the records of the file's front, where that defines such an argument
pub record TotalsOf (bytes : List ℕ) (id nth : ℕ) (totals : Option Totals) : Type 0 where
  pub blocks : List Block
  pub of_file : HasBlocks bytes blocks
  pub are : totals ≡ totals_in blocks id nth
