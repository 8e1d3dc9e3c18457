-- How `inject` ends.
use Rattle.std.proofs.Common.{◌≡◌, ◌≢◌, ℕ, List, refl, inl, inr}
use Rattle.std.specs.Prelude.{◌⊎◌}
use Rattle.nl_io.specs.Count.{Rose}
use Rattle.nl_io.specs.Content.{Told}
use Rattle.nl_io.specs.Desk.{Desk, OnlyName, found_in}
use Rattle.log_dictionary.specs.declared.message.Message.{Message}
use Rattle.command_base.specs.Effects.{CommandEffect}
use Rattle.command_base.proofs.lemmas.EffectLaws.{nothing_came, none_given, saved, unsaved}
use Rattle.command_base.specs.Endings.{Ending, Done, RefusedSources, WriteFault, NoMemory}
use Rattle.command_base.specs.HeldFiles.{IsHeld, HoldsFront}
use Rattle.command_base.proofs.lemmas.HeldLaws.{held_there}
use Rattle.command_base.specs.Printing.{Prints}
use Rattle.command_base.specs.Readings.{never, ReadsFile}
use Rattle.command_base.specs.Scenes.{Scene, scene}
use Rattle.command_base.specs.Tasks.{nothing}
use Rattle.trace_text.specs.Dictionaries.{DictionaryBreak}
use Rattle.code_inject.specs.Injected.{InjectsSource}
use Rattle.trace_commands.specs.Traces.{GivesNoText, DictionaryRead}
use Rattle.dictionary_commands.specs.Injecting.{IsLarge, GivesNoSource, IsRefusedSource, IsSource, injected_of, GivesInjected, inject_task}
use Rattle.dictionary_commands.proofs.lemmas.Soundness.{inject_sound}

-- bytes that aren't injected give nothing
refused_reads : (source : List ℕ) (messages : List Message) (bytes : List ℕ) (old new : Desk) (ending : Ending) → new ≡ old → IsSource old source bytes → IsRefusedSource source bytes messages ending
    → ReadsFile source (GivesInjected source messages) never old new nothing ending
refused_reads source messages bytes old new (RefusedSources lines) same is refused = (same, held_there old source bytes is.held, (bytes, is, refused, refl))
refused_reads source messages bytes old new NoMemory same is refused = ((same, held_there old source bytes is.held), refl)
refused_reads source messages bytes old new ending same is refused = absurd refused

module _ (dictionary source output : List ℕ) (old : Scene) (desk : Desk) (ending : Ending) where
  -- the dictionary gave no messages
  pub no_messages : GivesNoText DictionaryBreak dictionary old.desk desk ending → CommandEffect (inject_task dictionary source output) old (scene desk old.put old.faults) ending
  no_messages gives = nothing_came (inject_task dictionary source output) old desk ending (inject_sound dictionary source output) (inl gives)

  -- the source gave no bytes
  pub no_source : (messages : List Message) → DictionaryRead old.desk dictionary messages → GivesNoSource source old.desk desk ending → CommandEffect (inject_task dictionary source output) old (scene desk old.put old.faults) ending
  no_source messages read gives =
      nothing_came (inject_task dictionary source output) old desk ending (inject_sound dictionary source output)
      (inr (messages, read, none_given source (IsLarge source) (GivesInjected source messages) old.desk desk ending (λ name line cause large. large) gives))

  -- its bytes aren't injected
  pub not_injected : (messages : List Message) (bytes : List ℕ) → DictionaryRead old.desk dictionary messages → desk ≡ old.desk → IsSource old.desk source bytes → IsRefusedSource source bytes messages ending
      → CommandEffect (inject_task dictionary source output) old (scene desk old.put old.faults) ending
  not_injected messages bytes read same is refused =
      nothing_came (inject_task dictionary source output) old desk ending (inject_sound dictionary source output)
      (inr (messages, read, refused_reads source messages bytes old.desk desk ending same is refused))

module _ (dictionary source output : List ℕ) (old : Scene) (desk : Desk) (messages : List Message) (bytes text : List ℕ) (count : ℕ) (read : DictionaryRead old.desk dictionary messages) (is : IsSource old.desk source bytes) (injects : InjectsSource source bytes messages text count) where
  gives : GivesInjected source messages old.desk (injected_of text count) Done
  gives = (bytes, text, count, is, injects, refl)

  -- the text was written, and the number printed
  pub text_written : (ending : Ending) (put : Told) (faults : ℕ) → IsHeld desk output text → OnlyName output old.desk desk → desk.write_faults ≡ old.desk.write_faults
      → Prints (injected_of text count).text old.put put old.faults faults ending → ending ≢ NoMemory → CommandEffect (inject_task dictionary source output) old (scene desk put faults) ending
  text_written ending put faults held only counted prints memory =
      saved (inject_task dictionary source output) old desk (injected_of text count) output text ending put faults refl refl
      (inr (messages, read, (refl, held_there old.desk source bytes is.held, gives))) held only counted prints memory

  -- the text couldn't be written whole
  pub text_lost : (found_in desk output ≡ found_in old.desk output) ⊎ HoldsFront desk output text → OnlyName output old.desk desk → Rose old.desk.write_faults desk.write_faults
      → CommandEffect (inject_task dictionary source output) old (scene desk old.put old.faults) (WriteFault output)
  text_lost holds only failed =
      unsaved (inject_task dictionary source output) old desk output text refl (λ n few. (messages, read, (injected_of text count, gives, (n, few, refl)))) holds only failed
