use Rattle.command_base.proofs.lemmas.TaskLaws.{taken, absent}
use Rattle.nanolog_cli.specs.Outcomes.{task_of}
use Rattle.nanolog_laws.proofs.Commands.{task_sound}
use Rattle.nanolog_laws.proofs.Right.{done_right}
use Rattle.nanolog_laws.proofs.laws.commands_are_done_where_they_can_be.Goals as goal

pub returns-clause-taken : goal.returns-clause-taken
returns-clause-taken c = λ command old new ending. taken (task_of command) old new ending (task_sound command)

pub returns-clause-right : goal.returns-clause-right
returns-clause-right c = done_right

pub returns-clause-absent : goal.returns-clause-absent
returns-clause-absent c = λ command old new ending. absent (task_of command) old new ending (task_sound command)
