-- A replay that was done has the headline.
use Rattle.std.proofs.Common.{◌≡◌, ℕ, List, Option, Some, ap, subst, ◌∙◌}
use Rattle.nl_io.specs.Content.{with_end}
use Rattle.nl_io.specs.Desk.{Desk}
use Rattle.trace_text.specs.Recordings.{Recording}
use Rattle.trace_session.specs.declared.drops.Dropped.{Dropped}
use Rattle.session_options.specs.declared.options.Options.{Options}
use Rattle.command_base.specs.Endings.{Ending, Done, StillOpen, status_of}
use Rattle.command_base.specs.declared.status.Status.TheVariants as statuses
use Rattle.command_base.specs.Effects.{IsMade, Completes, CommandEffect}
use Rattle.command_base.specs.Scenes.{Scene}
use Rattle.session_commands.specs.Headline.{Headline}
use Rattle.session_commands.specs.Replays.{replay_task}

-- the log's name holds what the session gave, and all else is as it was
pub only_log : (trace log : List ℕ) (options : Options) (old new : Scene)
    (whole : Completes (replay_task trace log options) old new Done)
    → IsMade (Some whole.reading.2.bytes) (Some log) old.desk new.desk
only_log trace log options old new whole =
    let given = whole.reading.2 in
    subst (λ (d : Desk). IsMade (Some given.bytes) (Some log) d new.desk) whole.reading.0
    (subst (λ (made : Option (List ℕ)). IsMade made (Some log) whole.read new.desk) given.made whole.made)

-- what a session gave was written and told
headline_given : (trace log : List ℕ) (options : Options) (old new : Scene)
    → Completes (replay_task trace log options) old new Done
    → (run : Recording) × (drops : List Dropped) × (bytes : List ℕ) × Headline trace log options old new run drops bytes
headline_given trace log options old new whole =
    let given = whole.reading.2 in
    let made = only_log trace log options old new whole in (
      given.run,
      given.drops,
      given.bytes,
      record {
        trace_read = given.trace_read;
        output_told = record {
          waits = given.session.waits;
          grew = whole.printed ∙ ap (λ (text : List ℕ). with_end text old.put) given.session.told;
        };
        log_lawful = record { held = made.0; whole = given.session.whole };
        text_same = given.session.text_same;
        drops_lawful = given.session.drops_lawful;
        others_untouched = made.1.held;
      },
    )

-- Where the status is Done, that is so.
pub headline_follows : (trace log : List ℕ) (options : Options) (old new : Scene) (ending : Ending)
    → CommandEffect (replay_task trace log options) old new ending → status_of ending ≡ statuses.Done
    → (run : Recording) × (drops : List Dropped) × (bytes : List ℕ) × Headline trace log options old new run drops bytes
headline_follows trace log options old new Done effect done =
    headline_given trace log options old new effect
headline_follows trace log options old new (StillOpen name numbers) effect done = absurd effect.reading.2
headline_follows trace log options old new ending effect done = absurd cc
