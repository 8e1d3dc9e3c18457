-- How `preprocess` ends.
use Rattle.std.proofs.Common.{◌≡◌, ◌≢◌, ℕ, List, [], ◌∷◌, ◌++◌, length, take, Some, refl, sym, subst, ◌∙◌, inl, inr, codes, append_assoc, append-nil, arith}
use Rattle.std.specs.Prelude.{◌⊎◌, ◌≤◌, Result}
use Rattle.std.specs.Fmt.{decimal}
use Rattle.std.specs.List.{concat}
use Rattle.std.specs.Result.{IsErrAnd}
use Rattle.nl_io.specs.Count.{Rose}
use Rattle.nl_io.specs.Content.{Told}
use Rattle.nl_io.specs.Desk.{Desk, OnlyName, found_in}
use Rattle.log_dictionary.specs.declared.message.Message.{Message}
use Rattle.log_dictionary.specs.Canonical.{dictionary_text}
use Rattle.preprocessor.specs.Numbering.{Numbered}
use Rattle.command_base.specs.declared.refusal.Refusal.{Refusal}
use Rattle.command_base.specs.Endings.{Ending, Done, StillOpen, Usage, Absent, ReadFault, Refused, RefusedSources, Damaged, WriteFault, NoMemory, ending_of, refusal_ending}
use Rattle.command_base.proofs.lemmas.EffectLaws.{ended_as, nothing_came, saved, unsaved}
use Rattle.command_base.specs.Effects.{CommandEffect}
use Rattle.command_base.specs.HeldFiles.{IsHeld, HoldsFront}
use Rattle.command_base.specs.Printing.{Prints}
use Rattle.command_base.specs.Scenes.{Scene, scene}
use Rattle.command_base.specs.Tasks.{nothing}
use Rattle.source_commands.specs.Sources.{AreTaken, GiveNothing, ReadsSources}
use Rattle.source_commands.proofs.lemmas.SourceLaws.{source_sound}
use Rattle.source_commands.specs.Preprocessing.{counts_text, dictionary_of, GiveDictionary, preprocess_task}

-- what gives nothing is no dictionary
no_dictionary : (names : List (List ℕ)) (old new : Desk) (ending : Ending) → GiveNothing names old new ending → ReadsSources names GiveDictionary old new nothing ending
no_dictionary names old new Done gives = absurd gives
no_dictionary names old new (StillOpen said numbers) gives = (gives, refl)
no_dictionary names old new (Usage lines) gives = (gives, refl)
no_dictionary names old new (Absent name) gives = (gives, refl)
no_dictionary names old new (ReadFault name) gives = (gives, refl)
no_dictionary names old new (Refused name line cause) gives = (gives, refl)
no_dictionary names old new (RefusedSources lines) gives = (gives, refl)
no_dictionary names old new (Damaged said offset cause) gives = (gives, refl)
no_dictionary names old new (WriteFault name) gives = (gives, refl)
no_dictionary names old new NoMemory gives = (gives, refl)

-- the sources gave nothing
pub gave_nothing : (dictionary : List ℕ) (names : List (List ℕ)) (old : Scene) (desk : Desk) (ending : Ending) → GiveNothing names old.desk desk ending → CommandEffect (preprocess_task dictionary names) old (scene desk old.put old.faults) ending
gave_nothing dictionary names old desk ending gives =
    nothing_came (preprocess_task dictionary names) old desk ending (source_sound names (Some dictionary) GiveDictionary) (no_dictionary names old.desk desk ending gives)

-- a call answered so
pub answered_nothing : {T : Type 0} (dictionary : List ℕ) (names : List (List ℕ)) (old : Scene) (desk : Desk) (r : Result T Refusal) (refusal : Refusal) → IsErrAnd r (λ e. e ≡ refusal) → GiveNothing names old.desk desk (refusal_ending refusal)
    → CommandEffect (preprocess_task dictionary names) old (scene desk old.put old.faults) (ending_of r)
answered_nothing dictionary names old desk r refusal is gives =
    subst (CommandEffect (preprocess_task dictionary names) old (scene desk old.put old.faults)) (sym (ended_as r refusal is)) (gave_nothing dictionary names old desk (refusal_ending refusal) gives)

-- the dictionary was written, and the numbers printed
pub dictionary_written : (dictionary : List ℕ) (names : List (List ℕ)) (old : Scene) (desk : Desk) (messages : List Message) (statements : ℕ) (ending : Ending) (put : Told) (faults : ℕ)
    → (taken : AreTaken old.desk names) × Numbered taken.sources messages statements → IsHeld desk dictionary (dictionary_text messages) → OnlyName dictionary old.desk desk → desk.write_faults ≡ old.desk.write_faults
    → Prints (counts_text (length messages) statements) old.put put old.faults faults ending → ending ≢ NoMemory → CommandEffect (preprocess_task dictionary names) old (scene desk put faults) ending
dictionary_written dictionary names old desk messages statements ending put faults taken held only counted prints memory =
    saved (preprocess_task dictionary names) old desk (dictionary_of messages statements) dictionary (dictionary_text messages) ending put faults refl refl
    (refl, (taken.0, (messages, statements, taken.1, refl))) held only counted prints memory

-- the dictionary couldn't be written whole
pub dictionary_lost : (dictionary : List ℕ) (names : List (List ℕ)) (old : Scene) (desk : Desk) (messages : List Message) (statements : ℕ) → (taken : AreTaken old.desk names) × Numbered taken.sources messages statements
    → (found_in desk dictionary ≡ found_in old.desk dictionary) ⊎ HoldsFront desk dictionary (dictionary_text messages) → OnlyName dictionary old.desk desk → Rose old.desk.write_faults desk.write_faults
    → CommandEffect (preprocess_task dictionary names) old (scene desk old.put old.faults) (WriteFault dictionary)
dictionary_lost dictionary names old desk messages statements taken holds only failed =
    unsaved (preprocess_task dictionary names) old desk dictionary (dictionary_text messages) refl
    (λ n few. (taken.0, dictionary_of messages statements, (messages, statements, taken.1, refl), (n, few, refl))) holds only failed

-- ---- the line on the numbers

pieces_joined : (a messages b statements e : List ℕ) → concat (a ∷ messages ∷ b ∷ statements ∷ e ∷ []) ≡ a ++ messages ++ b ++ statements ++ e
pieces_joined a messages b statements e = simp (append_assoc, append-nil)

-- it is printed in pieces
pub numbers_pieces : (messages statements : ℕ) (messages_text statements_text : List ℕ) → messages_text ≡ decimal messages → statements_text ≡ decimal statements
    → concat (codes "messages " ∷ messages_text ∷ codes " statements " ∷ statements_text ∷ codes "\n" ∷ []) ≡ counts_text messages statements
numbers_pieces messages statements messages_text statements_text messages_are statements_are =
    pieces_joined (codes "messages ") messages_text (codes " statements ") statements_text (codes "\n")
    ∙ (λ i. codes "messages " ++ messages_are i ++ codes " statements " ++ statements_are i ++ codes "\n")
