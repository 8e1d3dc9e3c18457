use Rattle.log_commands.proofs.lemmas.Soundness.{decompress_sound, aggregate_sound, migrate_sound}
use Rattle.log_commands.proofs.laws.commands_over_logs_are_sound.Goals as goal

pub returns : goal.returns
returns c = record { decompress = decompress_sound; aggregate = aggregate_sound; migrate = migrate_sound }
