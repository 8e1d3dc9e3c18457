-- The text of a dictionary, which is the front of a trace of version 1: which texts spell which messages, and where one
-- is refused.
use Rattle.std.specs.Prelude.{◌≡◌, ◌≢◌, ◌⊎◌, ℕ, ◌+◌, ◌<◌, ◌≤◌, false, List, ◌∷◌, ◌++◌, length, codes}
use Rattle.log_dictionary.specs.declared.message.Message.{Message}
use Rattle.log_dictionary.specs.declared.dictionary.TheConstants.{MAX_MESSAGES}
use Rattle.log_dictionary.specs.Fields.{IsFirstSplit}
use Rattle.log_dictionary.specs.Messages.{AreDistinct}
use Rattle.trace_text.specs.declared.cause.TraceCause.{TraceCause}
use Rattle.trace_text.specs.declared.cause.TraceCause.TheVariants as causes
use Rattle.trace_text.specs.declared.trace.TheConstants.{MAX_TRACE}
use Rattle.trace_text.specs.Lines.{SpellsMessages, text_of_lines}
use Rattle.trace_text.specs.LineFields.{begins_with}
use Rattle.trace_text.specs.Reading.{BreaksMessages, IsOneLine}

-- the first line of the text of a dictionary, which is that of a trace of version 1
abbrev pub dictionary_line : List ℕ
dictionary_line = codes "nanolog-trace 1"

-- the bytes are that line and a line for each message, with the ids from 0
pub record SpellsDictionary (bytes : List ℕ) (messages : List Message) : Type 0 where
  pub message_lines : List (List ℕ)
  pub whole : bytes ≡ text_of_lines (dictionary_line ∷ message_lines)
  pub messages_spelled : SpellsMessages 0 message_lines messages
  pub distinct : AreDistinct messages
  pub few_messages : length messages ≤ MAX_MESSAGES

-- the text is that of a dictionary with these messages
abbrev pub DictionaryText : List ℕ → List Message → Type 0
DictionaryText bytes messages = (length bytes ≤ MAX_TRACE) × SpellsDictionary bytes messages

-- ---- where a text is refused

-- the line is that of no message that may follow these
abbrev pub BreaksDictionary : List Message → List ℕ → TraceCause → Type 0
BreaksDictionary before line cause =
    BreaksMessages before line cause ⊎ ((begins_with (codes "message ") line ≡ false) × (cause ≡ causes.Message))

-- behind these messages something stands, which begins with such a line, or in which no line ends
abbrev pub IsRefusedBehind : List Message → List ℕ → TraceCause → Type 0
IsRefusedBehind before rest cause =
    ((line : List ℕ) × (behind : List ℕ) × IsFirstSplit 10 rest line behind × BreaksDictionary before line cause)
    ⊎ ((1 ≤ length rest) × IsOneLine rest × (cause ≡ causes.Message))

-- the bytes don't begin with that line and its line feed
abbrev pub LacksFirstLine : List ℕ → Type 0
LacksFirstLine bytes = (rest : List ℕ) → bytes ≢ dictionary_line ++ 10 ∷ rest

-- a front of the bytes is right, and the line behind it is refused
pub record BreaksBehind (bytes : List ℕ) (line : ℕ) (cause : TraceCause) : Type 0 where
  pub front : List ℕ
  pub rest : List ℕ
  pub messages : List Message
  pub parted : bytes ≡ front ++ rest
  pub spelled : SpellsDictionary front messages
  pub refused : IsRefusedBehind messages rest cause
  pub line_is : line ≡ 2 + length messages

-- the text is refused at this line, from this cause: it is too long, or a line of it is refused
abbrev pub DictionaryBreak : List ℕ → ℕ → TraceCause → Type 0
DictionaryBreak bytes line cause =
    ((MAX_TRACE < length bytes) × (line ≡ 0) × (cause ≡ causes.TooLarge))
    ⊎ ((length bytes ≤ MAX_TRACE) × (
    (LacksFirstLine bytes × (line ≡ 1) × (cause ≡ causes.Header))
    ⊎ BreaksBehind bytes line cause))
