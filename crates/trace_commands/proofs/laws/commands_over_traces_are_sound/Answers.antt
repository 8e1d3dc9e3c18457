use Rattle.trace_commands.proofs.lemmas.Soundness.{direct_sound, generate_sound}
use Rattle.trace_commands.proofs.laws.commands_over_traces_are_sound.Goals as goal

pub returns : goal.returns
returns c = record { direct = direct_sound; generate = generate_sound }
