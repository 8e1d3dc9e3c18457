-- The lines of the text of a trace.
use Rattle.std.specs.Prelude.{◌≡◌, ℕ, ◌+◌, ◌<◌, ◌^◌, List, [], ◌∷◌, ◌++◌, codes, decimal}
use Rattle.std.specs.Fmt.{signed_decimal}
use Rattle.printf_grammar.specs.declared.argument.Value.{Value}
use Rattle.printf_grammar.specs.declared.argument.Value.TheVariants as values
use Rattle.log_dictionary.specs.declared.clock.Clock.{Clock}
use Rattle.log_dictionary.specs.declared.message.Message.{Message}
use Rattle.log_dictionary.specs.Texts.{SpellsText}
use Rattle.log_dictionary.specs.Messages.{SpellsMessage}
use Rattle.arg_records.specs.declared.call.Call.{Call}

-- the first line, which says the version, and the last
abbrev pub first_line : ℕ → List ℕ
first_line version = codes "nanolog-trace " ++ decimal version

abbrev pub last_line : List ℕ
last_line = codes "end"

-- the line of a clock: its tick, the nanoseconds since 1970 at that tick, and its rate
abbrev pub clock_line : Clock → List ℕ
clock_line clock = codes "clock " ++ decimal clock.tick ++ 32 ∷ decimal clock.nanos ++ 32 ∷ decimal clock.rate

-- the line of the number of writers
abbrev pub writers_line : ℕ → List ℕ
writers_line count = codes "writers " ++ decimal count

-- an argument: a number, or a text in quotation marks
abbrev pub SpellsArgument : List ℕ → Value → Type 0
SpellsArgument field (values.Signed z) = field ≡ signed_decimal z
SpellsArgument field (values.Unsigned n) = field ≡ decimal n
SpellsArgument field (values.Text bytes) =
    (spelled : List ℕ) × (field ≡ 34 ∷ spelled ++ 34 ∷ []) × SpellsText spelled bytes

-- the arguments, each after a space
abbrev pub SpellsArgumentFields : List ℕ → List Value → Type 0
SpellsArgumentFields fields [] = fields ≡ []
SpellsArgumentFields fields (value ∷ args) =
    (field : List ℕ) × (others : List ℕ) × (fields ≡ 32 ∷ field ++ others)
    × SpellsArgument field value × SpellsArgumentFields others args

-- a call of a writer
pub record WriterCall : Type 0 where
  pub writer : ℕ
  pub call : Call

-- the line is `call`, the writer, the stamp, the id and the arguments
pub record SpellsCall (line : List ℕ) (made : WriterCall) : Type 0 where
  pub fields : List ℕ
  pub spelled : line ≡ codes "call " ++ decimal made.writer ++ 32 ∷ decimal made.call.stamp
      ++ 32 ∷ decimal made.call.id ++ fields
  pub arguments : SpellsArgumentFields fields made.call.args
  pub stamp_fits : made.call.stamp < 2 ^ 64

-- the lines spell the messages, with ids that count from this number
abbrev pub SpellsMessages : ℕ → List (List ℕ) → List Message → Type 0
SpellsMessages id [] [] = Unit {0}
SpellsMessages id (line ∷ lines) (message ∷ messages) =
    SpellsMessage line id message × SpellsMessages (id + 1) lines messages
SpellsMessages id [] (message ∷ messages) = ⊥
SpellsMessages id (line ∷ lines) [] = ⊥

-- the lines spell the calls, in order
abbrev pub SpellsCalls : List (List ℕ) → List WriterCall → Type 0
SpellsCalls [] [] = Unit {0}
SpellsCalls (line ∷ lines) (made ∷ calls) = SpellsCall line made × SpellsCalls lines calls
SpellsCalls [] (made ∷ calls) = ⊥
SpellsCalls (line ∷ lines) [] = ⊥

-- the lines as a text, each ended by a line feed
abbrev pub text_of_lines : List (List ℕ) → List ℕ
text_of_lines [] = []
text_of_lines (line ∷ lines) = line ++ 10 ∷ text_of_lines lines
