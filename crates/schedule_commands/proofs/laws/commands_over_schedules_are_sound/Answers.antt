use Rattle.schedule_commands.proofs.lemmas.Soundness.{schedule_sound}
use Rattle.schedule_commands.proofs.laws.commands_over_schedules_are_sound.Goals as goal

pub returns : goal.returns
returns c = record { schedule = schedule_sound }
