-- What `preprocess` makes and prints.
use Rattle.std.specs.Prelude.{◌≡◌, ℕ, List, ◌++◌, length, codes, Some}
use Rattle.std.specs.Fmt.{decimal}
use Rattle.log_dictionary.specs.declared.message.Message.{Message}
use Rattle.log_dictionary.specs.Canonical.{dictionary_text}
use Rattle.preprocessor.specs.Findings.{SourceFile}
use Rattle.preprocessor.specs.Numbering.{Numbered}
use Rattle.command_base.specs.Tasks.{Product, Task}
use Rattle.source_commands.specs.Sources.{source_task}

-- what is printed where so many messages of so many statements were written
abbrev pub counts_text : ℕ → ℕ → List ℕ
counts_text messages statements =
    codes "messages " ++ decimal messages ++ codes " statements " ++ decimal statements ++ codes "\n"

-- what is made of these messages, of so many statements: the text of the dictionary
abbrev pub dictionary_of : List Message → ℕ → Product
dictionary_of messages statements =
    record { made = Some (dictionary_text messages); text = counts_text (length messages) statements }

-- what sources give: the dictionary of their messages
abbrev pub GiveDictionary : List SourceFile → Product → Type 0
GiveDictionary sources product =
    (messages : List Message) × (statements : ℕ) × Numbered sources messages statements
    × (product ≡ dictionary_of messages statements)

-- it reads the sources, and makes the dictionary
abbrev pub preprocess_task : List ℕ → List (List ℕ) → Task
preprocess_task dictionary sources = source_task sources (Some dictionary) GiveDictionary
