use Rattle.command_base.proofs.lemmas.TaskLaws.{others_held, left_stays, made_stays}
use Rattle.nanolog_cli.specs.Outcomes.{task_of}
use Rattle.nanolog_laws.proofs.Commands.{task_sound}
use Rattle.nanolog_laws.proofs.laws.other_files_stay.Goals as goal

pub returns-clause-held : goal.returns-clause-held
returns-clause-held c = λ command old new ending. others_held (task_of command) old new ending (task_sound command)

pub returns-clause-left : goal.returns-clause-left
returns-clause-left c = λ command old new ending. left_stays (task_of command) old new ending (task_sound command)

pub returns-clause-made : goal.returns-clause-made
returns-clause-made c = λ command old new ending. made_stays (task_of command) old new ending (task_sound command)
