-- How `header` ends.
use Rattle.std.proofs.Common.{◌≡◌, ◌≢◌, ℕ, List, refl}
use Rattle.std.specs.Prelude.{◌⊎◌}
use Rattle.nl_io.specs.Count.{Rose}
use Rattle.nl_io.specs.Content.{Told}
use Rattle.nl_io.specs.Desk.{Desk, OnlyName, found_in}
use Rattle.log_dictionary.specs.declared.message.Message.{Message}
use Rattle.trace_text.specs.Dictionaries.{DictionaryText, DictionaryBreak}
use Rattle.code_inject.specs.Headers.{header_text}
use Rattle.command_base.specs.Effects.{CommandEffect}
use Rattle.command_base.proofs.lemmas.EffectLaws.{nothing_came, none_given, saved, unsaved}
use Rattle.command_base.specs.Endings.{Ending, WriteFault, NoMemory}
use Rattle.command_base.specs.HeldFiles.{IsHeld, HoldsFront}
use Rattle.command_base.proofs.lemmas.HeldLaws.{such_there}
use Rattle.command_base.specs.Printing.{Prints}
use Rattle.command_base.specs.Scenes.{Scene, scene}
use Rattle.trace_commands.specs.Traces.{IsRefusedBy, GivesNoText, DictionaryRead}
use Rattle.dictionary_commands.specs.Heading.{made_header, GivesHeader, header_task}
use Rattle.dictionary_commands.proofs.lemmas.Soundness.{header_sound}

module _ (dictionary output : List ℕ) (old : Scene) (desk : Desk) where
  -- the dictionary gave no messages
  pub no_header : (ending : Ending) → GivesNoText DictionaryBreak dictionary old.desk desk ending → CommandEffect (header_task dictionary output) old (scene desk old.put old.faults) ending
  no_header ending gives =
      nothing_came (header_task dictionary output) old desk ending (header_sound dictionary output)
      (none_given dictionary (IsRefusedBy DictionaryBreak dictionary) (GivesHeader dictionary) old.desk desk ending (λ name line cause refused. refused) gives)

  -- the header was written, and the number printed
  pub header_written : (messages : List Message) (ending : Ending) (put : Told) (faults : ℕ) → DictionaryRead old.desk dictionary messages → IsHeld desk output (header_text messages) → OnlyName output old.desk desk → desk.write_faults ≡ old.desk.write_faults
      → Prints (made_header messages).text old.put put old.faults faults ending → ending ≢ NoMemory → CommandEffect (header_task dictionary output) old (scene desk put faults) ending
  header_written messages ending put faults read held only counted prints memory =
      saved (header_task dictionary output) old desk (made_header messages) output (header_text messages) ending put faults refl refl
      (refl, such_there old.desk dictionary (λ bytes. DictionaryText bytes messages) read, (messages, read, refl)) held only counted prints memory

  -- the header couldn't be written whole
  pub header_lost : (messages : List Message) → DictionaryRead old.desk dictionary messages → (found_in desk output ≡ found_in old.desk output) ⊎ HoldsFront desk output (header_text messages) → OnlyName output old.desk desk
      → Rose old.desk.write_faults desk.write_faults → CommandEffect (header_task dictionary output) old (scene desk old.put old.faults) (WriteFault output)
  header_lost messages read holds only failed =
      unsaved (header_task dictionary output) old desk output (header_text messages) refl (λ n few. (made_header messages, (messages, read, refl), (n, few, refl))) holds only failed
