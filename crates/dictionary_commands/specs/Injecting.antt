-- What `inject` makes and prints.
use Rattle.std.specs.Prelude.{◌≡◌, ℕ, ◌<◌, ◌≤◌, List, length, codes, Option, Some, ⊤}
use Rattle.std.specs.List.{flat_map}
use Rattle.nl_io.specs.Desk.{Desk}
use Rattle.log_dictionary.specs.declared.message.Message.{Message}
use Rattle.source_scan.specs.declared.statement.TheConstants.{MAX_SOURCE}
use Rattle.preprocessor.specs.declared.refusal.SourceRefusal.{SourceRefusal}
use Rattle.preprocessor.specs.declared.refusal.RefusalCause.TheVariants.{TooLarge}
use Rattle.preprocessor.specs.Causes.{cause_number, cause_name, refusal_line}
use Rattle.trace_text.specs.Dictionaries.{DictionaryText, DictionaryBreak}
use Rattle.code_inject.specs.Injected.{InjectsSource, RefusesSource}
use Rattle.command_base.specs.Endings.{ToldCause, Ending, Done, RefusedSources, NoMemory}
use Rattle.command_base.specs.HeldFiles.{IsHeld, HoldsSuch, Holds}
use Rattle.command_base.specs.Tasks.{Product, nothing, Task}
use Rattle.command_base.specs.Readings.{Form, OnlyRefused, never, ReadsFile, pair_task}
use Rattle.trace_commands.specs.Traces.{IsRefusedText, DictionaryRead}
use Rattle.dictionary_commands.specs.Heading.{count_text}

-- ---- the source

-- the source is too large
abbrev pub large_cause : ToldCause
large_cause = record { number = cause_number TooLarge; name = cause_name TooLarge }

abbrev pub IsLarge : List ℕ → Desk → Product → List ℕ → Option ℕ → ToldCause → Type 0
IsLarge source old product name line cause =
    (name ≡ source) × (product ≡ nothing) × (line ≡ Some 0) × (cause ≡ large_cause)
    × HoldsSuch old source (λ bytes. MAX_SOURCE < length bytes)

-- Why the source's name gave no bytes that are scanned, where nothing comes of it.
abbrev pub GivesNoSource : List ℕ → Desk → Desk → Ending → Type 0
GivesNoSource source old new ending = ReadsFile source (OnlyRefused (IsLarge source)) never old new nothing ending

-- Why the bytes of a source aren't injected: these lines tell what is refused, or memory was wanting.
abbrev pub IsRefusedSource : List ℕ → List ℕ → List Message → Ending → Type 0
IsRefusedSource source bytes messages (RefusedSources lines) =
    (refusals : List SourceRefusal) × RefusesSource source bytes messages refusals
    × (lines ≡ flat_map refusal_line refusals)
IsRefusedSource source bytes messages NoMemory = ⊤
IsRefusedSource source bytes messages ending = ⊥

-- ---- the command

-- what is made of a source: the text with calls by number, of which there are so many
abbrev pub injected_of : List ℕ → ℕ → Product
injected_of text count = record { made = Some text; text = count_text (codes "injected") count }

-- the source's name held these bytes, of which there are not too many
pub record IsSource (desk : Desk) (source bytes : List ℕ) : Type 0 where
  pub held : IsHeld desk source bytes
  pub short : length bytes ≤ MAX_SOURCE

-- What a source gives with these messages: the text with calls by number; or it is too large, or lines tell what is
-- refused in it.
abbrev pub GivesInjected : List ℕ → List Message → Form
GivesInjected source messages old product Done =
    (bytes : List ℕ) × (text : List ℕ) × (count : ℕ) × IsSource old source bytes
    × InjectsSource source bytes messages text count × (product ≡ injected_of text count)
GivesInjected source messages old product (RefusedSources lines) =
    (bytes : List ℕ) × IsSource old source bytes × IsRefusedSource source bytes messages (RefusedSources lines)
    × (product ≡ nothing)
GivesInjected source messages old product ending = OnlyRefused (IsLarge source) old product ending

-- the bytes are a source whose statements are all good and have their messages among these
abbrev pub IsInjectable : List ℕ → List Message → List ℕ → Type 0
IsInjectable source messages bytes =
    (length bytes ≤ MAX_SOURCE) × ((text : List ℕ) × (count : ℕ) × InjectsSource source bytes messages text count)

-- it is told that the dictionary's name holds messages, and the source's name a source to which they apply
abbrev pub AreInjectable : List ℕ → List ℕ → Desk → Type 0
AreInjectable dictionary source desk =
    Holds desk dictionary
    (λ bytes. (messages : List Message) × DictionaryText bytes messages
    × Holds desk source (IsInjectable source messages))

-- it reads the dictionary and then the source, and makes the text with calls by number
abbrev pub inject_task : List ℕ → List ℕ → List ℕ → Task
inject_task dictionary source output =
    pair_task dictionary source (IsRefusedText DictionaryBreak dictionary)
    (λ desk messages. DictionaryRead desk dictionary messages)
    (GivesInjected source) (Some output) (AreInjectable dictionary source)
