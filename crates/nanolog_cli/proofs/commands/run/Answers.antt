use Rattle.std.proofs.Common.{Option, subst, inr}
use Rattle.cli_words.specs.declared.command.Command.{Command as Asked}
use Rattle.cli_words.specs.Commands.{Command}
use Rattle.cli_words.specs.Rows.{IsLawful}
use Rattle.cli_words.specs.CommandViews.{command_is}
use Rattle.nanolog_cli.proofs.Dispatch.{done_as, quick_is_all}
use Rattle.nanolog_cli.proofs.commands.run.Goals as goal

abbrev whole : Option Command → Option Command
whole asked = asked

pub replay-requires-clause-bounds : goal.replay-requires-clause-bounds
replay-requires-clause-bounds g c = λ κs within.
    let lawful = subst (λ (command : Asked). IsLawful (command_is command)) c.in-Replay.is c.requires.lawful in
    lawful.3

pub returns-in-Replay-clause-ends : goal.returns-in-Replay-clause-ends
returns-in-Replay-clause-ends g c =
    done_as whole _ _ _ _ _ _ c.in-Replay.is c.without_note.ensures (inr c.replay.ensures.ends)

pub selftest-requires-clause-few_calls : goal.selftest-requires-clause-few_calls
selftest-requires-clause-few_calls g c = λ κs within.
    let (seed, calls, some, few) = subst (λ (command : Asked). IsLawful (command_is command)) c.in-Selftest.is c.requires.lawful in
    calls

pub selftest-requires-clause-some_writer : goal.selftest-requires-clause-some_writer
selftest-requires-clause-some_writer g c = λ κs within.
    let (seed, calls, some, few) = subst (λ (command : Asked). IsLawful (command_is command)) c.in-Selftest.is c.requires.lawful in
    some

pub selftest-requires-clause-few_writers : goal.selftest-requires-clause-few_writers
selftest-requires-clause-few_writers g c = λ κs within.
    let (seed, calls, some, few) = subst (λ (command : Asked). IsLawful (command_is command)) c.in-Selftest.is c.requires.lawful in
    few

pub returns-in-Selftest-clause-ends : goal.returns-in-Selftest-clause-ends
returns-in-Selftest-clause-ends g c =
    done_as whole _ _ _ _ _ _ c.in-Selftest.is c.without_note-in-Selftest.ensures
    (inr (c.selftest.ensures.ends (g.F.Files.desk c.args.files.now)))

pub returns-in_default-clause-ends : goal.returns-in_default-clause-ends
returns-in_default-clause-ends g c =
    quick_is_all _ _ _ _ c.in_default.not-Replay c.in_default.not-Selftest c.run_quick.ensures.ends
