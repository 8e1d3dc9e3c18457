use Rattle.command_base.proofs.lemmas.TaskLaws.{reads_counted, writes_counted}
use Rattle.nanolog_cli.specs.Outcomes.{task_of}
use Rattle.nanolog_laws.proofs.Commands.{task_sound}
use Rattle.nanolog_laws.proofs.Unfinished.{failing, write_rose}
use Rattle.nanolog_laws.proofs.laws.failures_are_told.Goals as goal

pub returns-clause-reading : goal.returns-clause-reading
returns-clause-reading c = λ command old new ending. reads_counted (task_of command) old new ending (task_sound command)

pub returns-clause-writing : goal.returns-clause-writing
returns-clause-writing c = λ command old new ending. writes_counted (task_of command) old new ending (task_sound command)

pub returns-clause-unread : goal.returns-clause-unread
returns-clause-unread c = failing

pub returns-clause-unwritten : goal.returns-clause-unwritten
returns-clause-unwritten c = write_rose
