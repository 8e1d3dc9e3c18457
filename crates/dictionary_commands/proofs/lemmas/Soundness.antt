-- The commands over dictionaries are sound.
use Rattle.std.proofs.Common.{◌≡◌, ℕ, ◌<◌, List, length, Option, Some, refl, sym, subst, arith}
use Rattle.nl_io.specs.Desk.{Desk}
use Rattle.log_dictionary.specs.declared.message.Message.{Message}
use Rattle.source_scan.specs.declared.statement.TheConstants.{MAX_SOURCE}
use Rattle.preprocessor.specs.declared.refusal.SourceRefusal.{SourceRefusal}
use Rattle.trace_text.specs.Dictionaries.{DictionaryText, DictionaryBreak}
use Rattle.trace_text.proofs.lemmas.OneDictionary.{dictionaries_apart}
use Rattle.code_inject.specs.Injected.{RefusesSource}
use Rattle.code_inject.proofs.lemmas.Unique.{apart}
use Rattle.command_base.specs.Endings.{ToldCause, Ending, IsDone, Done, Refused, RefusedSources}
use Rattle.command_base.specs.HeldFiles.{Holds}
use Rattle.command_base.proofs.lemmas.HeldLaws.{such_is, such_there, holds_there, held_such}
use Rattle.command_base.specs.Tasks.{Product, IsFrontMade, WhileReading}
use Rattle.command_base.specs.Readings.{never}
use Rattle.command_base.specs.Soundness.{IsSound}
use Rattle.command_base.proofs.lemmas.SoundTasks.{file_sound, pair_sound}
use Rattle.trace_commands.specs.Traces.{IsRefusedBy, IsRefusedText, DictionaryRead}
use Rattle.dictionary_commands.specs.Heading.{GivesHeader, IsDictionary, header_task}
use Rattle.dictionary_commands.specs.Injecting.{IsSource, GivesInjected, IsInjectable, AreInjectable, inject_task}

-- the text of a dictionary isn't refused
not_refused : (dictionary : List ℕ) (desk : Desk) (product : Product) (name : List ℕ) (line : Option ℕ) (cause : ToldCause) → Holds desk dictionary IsDictionary → ¬ (IsRefusedBy DictionaryBreak dictionary desk product name line cause)
not_refused dictionary desk product name line cause holds (named, none, (at, why, there, told, breaks)) =
    (dictionaries_apart holds.bytes).not_both holds.formed.0 at why holds.formed.1 (such_is desk dictionary IsDictionary (λ bytes. DictionaryBreak bytes at why) holds breaks)

-- ---- `header`

header_done : (dictionary : List ℕ) (desk : Desk) (product : Product) (ending : Ending) → Holds desk dictionary IsDictionary → GivesHeader dictionary desk product ending → IsDone ending
header_done dictionary desk product Done holds gives = refl
header_done dictionary desk product (Refused name line cause) holds gives = absurd (not_refused dictionary desk product name line cause holds gives)
header_done dictionary desk product ending holds gives = absurd gives

pub header_sound : (dictionary output : List ℕ) → IsSound (header_task dictionary output)
header_sound dictionary output =
    file_sound dictionary WhileReading (GivesHeader dictionary) never IsDictionary (Some output)
    (λ desk bytes. (product : Product) × GivesHeader dictionary desk product Done × IsFrontMade product.made bytes)
    (record { done = header_done dictionary; streams = λ desk text begun. absurd begun; there = λ desk bytes left. such_there desk dictionary (λ text. DictionaryText text left.1.0) left.1.1 })

-- ---- `inject`

module _ (dictionary source : List ℕ) (desk : Desk) (right : AreInjectable dictionary source desk) where
  abbrev pub dictionary_right : Holds desk dictionary IsDictionary
  dictionary_right = record { held = right.held; bytes = right.bytes; told = right.told; there = right.there; formed = (right.formed.0, right.formed.1) }

  accepted : (product : Product) (ending : Ending) → ¬ (IsRefusedText DictionaryBreak dictionary desk product ending)
  accepted product (Refused name line cause) refused = not_refused dictionary desk product name line cause dictionary_right refused
  accepted product ending refused = refused

  -- the messages that were read are those of the dictionary
  same_messages : (found : List Message) → DictionaryRead desk dictionary found → right.formed.0 ≡ found
  same_messages found read =
      (dictionaries_apart right.bytes).one_value right.formed.0 found right.formed.1
      (such_is desk dictionary IsDictionary (λ bytes. DictionaryText bytes found) dictionary_right read)

  -- the bytes that were read are those of the source
  same_source : (bytes : List ℕ) → IsSource desk source bytes → right.formed.2.bytes ≡ bytes
  same_source bytes is =
      such_is desk source (IsInjectable source right.formed.0) (λ found. found ≡ bytes) right.formed.2
      (held_such desk source bytes (λ found. found ≡ bytes) is.held refl)

  none_refused : (bytes : List ℕ) (found : List Message) (refusals : List SourceRefusal) → DictionaryRead desk dictionary found → IsSource desk source bytes → ¬ (RefusesSource source bytes found refusals)
  none_refused bytes found refusals read is refuses =
      let injects = right.formed.2.formed.1 in
      apart source right.formed.2.bytes right.formed.0 injects.0 injects.1 refusals right.formed.1.1.distinct injects.2
      (subst (λ (m : List Message). RefusesSource source right.formed.2.bytes m refusals) (sym (same_messages found read))
      (subst (λ (b : List ℕ). RefusesSource source b found refusals) (sym (same_source bytes is)) refuses))

  inject_done : (found : List Message) (product : Product) (ending : Ending) → DictionaryRead desk dictionary found → GivesInjected source found desk product ending → IsDone ending
  inject_done found product Done read gives = refl
  inject_done found product (RefusedSources lines) read (bytes, is, (refusals, refuses, told), none) = absurd (none_refused bytes found refusals read is refuses)
  inject_done found product (Refused name line cause) read (named, none, there, told, long) =
      let source_right = right.formed.2 in
      absurd (omega (arith, source_right.formed.0, such_is desk source (IsInjectable source right.formed.0) (λ bytes. MAX_SOURCE < length bytes) source_right long))
  inject_done found product ending read gives = absurd gives

pub inject_sound : (dictionary source output : List ℕ) → IsSound (inject_task dictionary source output)
inject_sound dictionary source output =
    pair_sound dictionary source (IsRefusedText DictionaryBreak dictionary) (λ desk messages. DictionaryRead desk dictionary messages) (GivesInjected source) (Some output) (AreInjectable dictionary source)
    (record {
      there = λ desk messages read. such_there desk dictionary (λ bytes. DictionaryText bytes messages) read;
      first_there = λ desk right. holds_there desk dictionary IsDictionary (dictionary_right dictionary source desk right);
      second_there = λ desk right. holds_there desk source (IsInjectable source right.formed.0) right.formed.2;
      accepted = λ desk product ending right refused. accepted dictionary source desk right product ending refused;
      done = λ desk messages product ending right read gives. inject_done dictionary source desk right messages product ending read gives;
    })
