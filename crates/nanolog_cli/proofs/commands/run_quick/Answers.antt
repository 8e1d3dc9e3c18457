use Rattle.std.proofs.Common.{refl, subst, inl, inr}
use Rattle.cli_words.specs.declared.command.Command.{Command as Asked}
use Rattle.cli_words.specs.CommandViews.{command_is}
use Rattle.cli_words.specs.Rows.{IsLawful}
use Rattle.command_base.specs.Scenes.{scene}
use Rattle.nanolog_cli.specs.Outcomes.{quick_part}
use Rattle.nanolog_cli.proofs.Dispatch.{none_asked, done_as}
use Rattle.nanolog_cli.proofs.commands.run_quick.Goals as goal

pub returns-in-Preprocess-clause-ends : goal.returns-in-Preprocess-clause-ends
returns-in-Preprocess-clause-ends g c =
    done_as quick_part _ _ _ _ _ _ c.in-Preprocess.is c.without_note.ensures
    (inr (rw c.deref.ensures.value at c.preprocess.ensures.ends))

pub returns-in-Direct-clause-ends : goal.returns-in-Direct-clause-ends
returns-in-Direct-clause-ends g c =
    done_as quick_part _ _ _ _ _ _ c.in-Direct.is c.without_note-in-Direct.ensures (inr c.direct.ensures.ends)

pub returns-in-Replay-clause-ends : goal.returns-in-Replay-clause-ends
returns-in-Replay-clause-ends g c =
    let none = none_asked (scene (g.F.Files.desk c.args.files.now) (g.O.Sink.put c.args.out.now) (g.O.Sink.faults c.args.out.now)) _ c.no_command.ensures in
    elim c.in-Replay.is [
      | inl (trace, log, options, is) ↦ done_as quick_part _ _ _ _ _ _ is refl none
      | inr (seed, calls, writers, is) ↦ done_as quick_part _ _ _ _ _ _ is refl none
    ]

pub returns-in-Decompress-clause-ends : goal.returns-in-Decompress-clause-ends
returns-in-Decompress-clause-ends g c =
    done_as quick_part _ _ _ _ _ _ c.in-Decompress.is refl (inr c.decompress.ensures.ends)

pub returns-in-Aggregate-clause-ends : goal.returns-in-Aggregate-clause-ends
returns-in-Aggregate-clause-ends g c =
    done_as quick_part _ _ _ _ _ _ c.in-Aggregate.is c.without_note-in-Aggregate.ensures (inr c.aggregate.ensures.ends)

pub generate-requires : goal.generate-requires
generate-requires g c =
    let (seed, calls, some, few) = subst (λ (command : Asked). IsLawful (command_is command)) c.in-Generate.is c.requires.lawful in
    record { few_calls = calls; some_writer = some; few_writers = few }

pub returns-in-Generate-clause-ends : goal.returns-in-Generate-clause-ends
returns-in-Generate-clause-ends g c =
    done_as quick_part _ _ _ _ _ _ c.in-Generate.is c.without_note-in-Generate.ensures
    (inr (c.generate.ensures.ends (g.F.Files.desk c.args.files.now)))

pub returns-in-Schedule-clause-ends : goal.returns-in-Schedule-clause-ends
returns-in-Schedule-clause-ends g c =
    done_as quick_part _ _ _ _ _ _ c.in-Schedule.is c.without_note-in-Schedule.ensures (inr c.schedule.ensures.ends)

pub returns-in-Migrate-clause-ends : goal.returns-in-Migrate-clause-ends
returns-in-Migrate-clause-ends g c =
    done_as quick_part _ _ _ _ _ _ c.in-Migrate.is c.without_note-in-Migrate.ensures (inr c.migrate.ensures.ends)

pub returns-in-Inject-clause-ends : goal.returns-in-Inject-clause-ends
returns-in-Inject-clause-ends g c =
    done_as quick_part _ _ _ _ _ _ c.in-Inject.is c.without_note-in-Inject.ensures (inr c.inject.ensures.ends)

pub returns-in-Header-clause-ends : goal.returns-in-Header-clause-ends
returns-in-Header-clause-ends g c =
    done_as quick_part _ _ _ _ _ _ c.in-Header.is c.without_note-in-Header.ensures (inr c.header.ensures.ends)
