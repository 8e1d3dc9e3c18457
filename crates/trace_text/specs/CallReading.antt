-- What a line of a call says in a run, or why it is refused.
use Rattle.std.specs.Prelude.{ℕ, zero, suc, ◌++◌, ◌^◌, ℤ, pos, negsuc, int_le, Bool, ◌&&◌, nat_le, nat_lt, List, [], ◌∷◌, length, codes, Option, None, Some, Result, Ok, Err, slice_get, sum_by, if◌then◌else◌}
use Rattle.std.specs.Option.{option_map, ok_or}
use Rattle.printf_grammar.specs.declared.arg_type.ArgType.{ArgType}
use Rattle.printf_grammar.specs.declared.arg_type.ArgType.TheVariants as types
use Rattle.printf_grammar.specs.declared.argument.Value.{Value}
use Rattle.printf_grammar.specs.declared.argument.Value.TheVariants as values
use Rattle.printf_grammar.specs.declared.limits.TheConstants.{MAX_TEXT}
use Rattle.printf_grammar.specs.Types.{Types}
use Rattle.log_dictionary.specs.Clocks.{first_tick}
use Rattle.log_dictionary.specs.Fields.{first_field}
pub use Rattle.log_dictionary.specs.Fields.{ends_field}
use Rattle.log_dictionary.specs.Numbers.{integer_of}
use Rattle.log_dictionary.specs.Texts.{text_at, has_nul}
use Rattle.arg_records.specs.declared.call.Call.{Call}
use Rattle.arg_records.specs.declared.frame.TheConstants.{MAX_FRAME_WORDS}
use Rattle.arg_records.specs.Frames.{FrameLen}
pub use Rattle.arg_records.specs.Calls.{last_stamp}
use Rattle.trace_text.specs.declared.cause.TraceCause.{TraceCause}
use Rattle.trace_text.specs.declared.cause.TraceCause.TheVariants.{TooMany, CallForm, Writer, BeforeClock, StampFalls, Id, ArgCount, ArgKind, ArgRange, NulInText, TooLong}
use Rattle.trace_text.specs.declared.trace.TheConstants.{MAX_CALLS}
use Rattle.trace_text.specs.Recordings.{Recording}
use Rattle.trace_text.specs.Lines.{WriterCall}
use Rattle.trace_text.specs.LineFields.{begins_with, head_at}

-- what follows from a part that is right
infixl 10 ◌>>=◌
abbrev pub ◌>>=◌ : {A B : Type 0} → Result A TraceCause → (A → Result B TraceCause) → Result B TraceCause
(Ok x) >>= next = next x
(Err cause) >>= next = Err cause

-- the cause, where the test holds
abbrev pub refused_if : Bool → TraceCause → Result (Unit {0}) TraceCause
refused_if test cause = if test then Err cause else Ok tt

-- ---- an argument

-- what stands behind a space: a number of any size, or a text
pub data Item : Type 0 where
  number : ℤ → Item
  text : List ℕ → Item

-- a number up to the next space, and what follows it
abbrev pub number_item : List ℕ → Option (Item × List ℕ)
number_item bytes = option_map (λ z. (number z, (first_field bytes).1)) (integer_of (first_field bytes).0)

-- the text that was opened, which ends the field, or a number where none was
abbrev pub item_behind : List ℕ → Option (List ℕ × List ℕ) → Option (Item × List ℕ)
item_behind bytes None = number_item bytes
item_behind bytes (Some opened) = if ends_field opened.1 then Some (text opened.0, opened.1) else None

-- the number or the text that is the next field, and what follows the field
abbrev pub item_at : List ℕ → Option (Item × List ℕ)
item_at bytes = item_behind bytes (text_at bytes)

-- a number from `least` to `most`, as a signed value
abbrev pub signed_within : ℤ → ℤ → ℤ → Result Value TraceCause
signed_within least most z = if int_le least z && int_le z most then Ok (values.Signed z) else Err ArgRange

-- a number below the limit, as an unsigned value
abbrev pub unsigned_below : ℕ → ℤ → Result Value TraceCause
unsigned_below limit (pos n) = if nat_lt n limit then Ok (values.Unsigned n) else Err ArgRange
unsigned_below limit (negsuc n) = Err ArgRange

-- a text without a byte 0 and of at most 4,000 bytes
abbrev pub checked_text : List ℕ → Result Value TraceCause
checked_text bytes =
    if has_nul bytes then Err NulInText
    else (if nat_lt MAX_TEXT (length bytes) then Err TooLong else Ok (values.Text bytes))

-- the value of the type that the item is
abbrev pub argument_of : ArgType → Item → Result Value TraceCause
argument_of types.Int (number z) = signed_within (negsuc 2147483647) (pos 2147483647) z
argument_of types.UInt (number z) = unsigned_below (2 ^ 32) z
argument_of types.Long (number z) = signed_within (negsuc 9223372036854775807) (pos 9223372036854775807) z
argument_of types.ULong (number z) = unsigned_below (2 ^ 64) z
argument_of types.Width (number z) = signed_within (negsuc 4094) (pos 4095) z
argument_of types.Precision (number z) = signed_within (negsuc 2147483647) (pos 4095) z
argument_of types.Text (text bytes) = checked_text bytes
argument_of _ _ = Err ArgKind

-- The arguments of these types, each behind a space. A field ends before a space or at the end, so that the byte in
-- front of the next one is a space.
abbrev pub arguments_at : List ArgType → List ℕ → Result (List Value) TraceCause
arguments_at [] [] = Ok []
arguments_at [] (byte ∷ bytes) = Err ArgCount
arguments_at (type ∷ types) [] = Err ArgCount
arguments_at (type ∷ types) (space ∷ bytes) = do
  item ← ok_or (item_at bytes) ArgKind
  value ← argument_of type item.0
  values ← arguments_at types item.1
  Ok (value ∷ values)

-- ---- a call

-- The call of the line, which goes on with the run, or the first cause why it is refused.
abbrev pub call_at : Recording → List ℕ → Result WriterCall TraceCause
call_at run line = do
  few ← refused_if (begins_with (codes "call ") line && nat_le MAX_CALLS (sum_by length run.writers)) TooMany
  head ← ok_or (head_at line) CallForm
  calls ← ok_or (slice_get run.writers head.writer) Writer
  ticked ← refused_if (nat_lt head.stamp (first_tick run.clocks)) BeforeClock
  risen ← refused_if (nat_lt head.stamp (last_stamp (first_tick run.clocks) calls)) StampFalls
  message ← ok_or (slice_get run.dictionary head.id) Id
  args ← arguments_at (Types message.format.pieces) head.fields
  short ← refused_if (nat_lt MAX_FRAME_WORDS (FrameLen args)) TooLong
  Ok (record { writer = head.writer; call = record { stamp = head.stamp; id = head.id; args = args } })

-- the lists of calls, with one more at the end of a writer's
abbrev pub with_call_of : List (List Call) → ℕ → Call → List (List Call)
with_call_of [] writer call = []
with_call_of (calls ∷ writers) zero call = (calls ++ call ∷ []) ∷ writers
with_call_of (calls ∷ writers) (suc writer) call = calls ∷ with_call_of writers writer call

-- the run with one more call
abbrev pub with_call : Recording → WriterCall → Recording
with_call run made = record run { writers = with_call_of run.writers made.writer made.call }
