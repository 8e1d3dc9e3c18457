-- What `header` makes and prints.
use Rattle.std.specs.Prelude.{◌≡◌, ℕ, List, ◌++◌, length, codes, Some}
use Rattle.std.specs.Fmt.{decimal}
use Rattle.log_dictionary.specs.declared.message.Message.{Message}
use Rattle.trace_text.specs.Dictionaries.{DictionaryText, DictionaryBreak}
use Rattle.code_inject.specs.Headers.{header_text}
use Rattle.command_base.specs.Endings.{Done}
use Rattle.command_base.specs.Tasks.{Product, IsFrontMade, WhileReading, Task}
use Rattle.command_base.specs.Readings.{Form, never, file_task}
use Rattle.trace_commands.specs.Traces.{IsRefusedText, DictionaryRead}

-- what is printed of so many things
abbrev pub count_text : List ℕ → ℕ → List ℕ
count_text counted count = counted ++ codes " " ++ decimal count ++ codes "\n"

-- what is made of these messages: the header
abbrev pub made_header : List Message → Product
made_header messages =
    record { made = Some (header_text messages); text = count_text (codes "messages") (length messages) }

-- what a dictionary gives: the header of its messages; or it is refused
abbrev pub GivesHeader : List ℕ → Form
GivesHeader dictionary old product Done =
    (messages : List Message) × DictionaryRead old dictionary messages × (product ≡ made_header messages)
GivesHeader dictionary old product ending = IsRefusedText DictionaryBreak dictionary old product ending

-- the bytes are the text of a dictionary
abbrev pub IsDictionary : List ℕ → Type 0
IsDictionary bytes = (messages : List Message) × DictionaryText bytes messages

-- it reads the dictionary, and makes the header
abbrev pub header_task : List ℕ → List ℕ → Task
header_task dictionary output =
    file_task dictionary WhileReading (GivesHeader dictionary) never IsDictionary (Some output)
    (λ desk bytes. (product : Product) × GivesHeader dictionary desk product Done × IsFrontMade product.made bytes)
