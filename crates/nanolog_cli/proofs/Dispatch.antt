-- What a command did is what the words ask for.
use Rattle.std.proofs.Common.{◌≡◌, ℕ, List, Option, Some, None, refl, sym, ap, subst, ◌∙◌, inl, inr}
use Rattle.std.specs.Prelude.{◌⊎◌, option_map}
use Rattle.std.specs.Borrow.{Bor}
use Rattle.session_options.specs.declared.options.Options.{Options}
use Rattle.trace_session.specs.declared.drops.Dropped.{Dropped}
use Rattle.trace_text.specs.Recordings.{Recording}
use Rattle.cli_words.specs.declared.command.Command.{Command as Asked}
use Rattle.cli_words.specs.declared.command.Command.TheVariants as asked
use Rattle.cli_words.specs.Commands.{Command, Replay}
use Rattle.cli_words.specs.CommandViews.{command_is}
use Rattle.cli_words.specs.Usage.{usage_text}
use Rattle.command_base.specs.Endings.{Ending, Usage, NoMemory, status_of}
use Rattle.command_base.specs.declared.status.Status.{Status}
use Rattle.command_base.specs.declared.status.Status.TheVariants as statuses
use Rattle.command_base.specs.Scenes.{Scene}
use Rattle.session_commands.specs.Headline.{Headline}
use Rattle.session_commands.proofs.lemmas.Headlines.{headline_follows}
use Rattle.nanolog_cli.specs.Outcomes.{quick_part, AnswersRead, Answers}

-- the words are no command, and nothing was done
pub none_asked : (scene : Scene) (ending : Ending) → (ending ≡ Usage usage_text) ⊎ (ending ≡ NoMemory)
    → Answers None scene scene ending
none_asked scene ending (inl said) = inr (said, refl)
none_asked scene ending (inr wants) = inl (wants, refl)

-- the command is this one, and the answer is that of what was done
pub done_as : (is_so : Option Command → Option Command) (command known : Asked) (old new : Scene) (answer ending : Ending)
    → command ≡ known → answer ≡ ending → Answers (is_so (Some (command_is known))) old new ending
    → Answers (is_so (Some (command_is command))) old new answer
done_as is_so command known old new answer ending is told ends =
    subst (λ (c : Asked). Answers (is_so (Some (command_is c))) old new answer) (sym is)
    (subst (Answers (is_so (Some (command_is known))) old new) (sym told) ends)

-- what a command that doesn't wait for others does is all of what it asks for
pub quick_is_all : (command : Asked) (old new : Scene) (ending : Ending)
    → ((trace log : Bor (List ℕ)) (options : Options) → command ≡ asked.Replay trace log options → ⊥)
    → ((seed calls writers : ℕ) → command ≡ asked.Selftest seed calls writers → ⊥)
    → Answers (quick_part (Some (command_is command))) old new ending
    → Answers (Some (command_is command)) old new ending
quick_is_all (asked.Preprocess dictionary sources) old new ending other test answers = answers
quick_is_all (asked.Direct trace) old new ending other test answers = answers
quick_is_all (asked.Replay trace log options) old new ending other test answers = absurd (other trace log options refl)
quick_is_all (asked.Decompress log) old new ending other test answers = answers
quick_is_all (asked.Aggregate log id nth) old new ending other test answers = answers
quick_is_all (asked.Generate seed calls writers) old new ending other test answers = answers
quick_is_all (asked.Selftest seed calls writers) old new ending other test answers = absurd (test seed calls writers refl)
quick_is_all (asked.Schedule file) old new ending other test answers = answers
quick_is_all (asked.Migrate log output) old new ending other test answers = answers
quick_is_all (asked.Inject dictionary source output) old new ending other test answers = answers
quick_is_all (asked.Header dictionary output) old new ending other test answers = answers

-- the words were read, and what was done is what they ask for, or this part of it
pub words_read : (part : Option Command → Option Command) (found seen : Option Asked) (words : Option Command)
    (old new : Scene) (ending : Ending) → found ≡ seen → option_map command_is found ≡ words
    → Answers (part (option_map command_is seen)) old new ending → Answers (part words) old new ending
words_read part found seen words old new ending same spelled answers =
    subst (λ (command : Option Command). Answers (part command) old new ending)
    (sym (ap (option_map command_is) same) ∙ spelled) answers

-- a replay that was done has the headline
pub answers_headline : (words : Option Command) (old new : Scene) (ending : Ending) (status : Status)
    → Answers words old new ending → status ≡ status_of ending
    → (trace log : List ℕ) (options : Options) → words ≡ Some (Replay trace log options) → status ≡ statuses.Done
    → (run : Recording) × (drops : List Dropped) × (bytes : List ℕ) × Headline trace log options old new run drops bytes
answers_headline words old new ending status (inl (wanting, same)) told trace log options spelled done =
    let no : status_of ending ≡ statuses.Done = sym told ∙ done in absurd cc
answers_headline words old new ending status (inr answers) told trace log options spelled done =
    headline_follows trace log options old new ending
    (subst (λ (w : Option Command). AnswersRead w old new ending) spelled answers) (sym told ∙ done)
