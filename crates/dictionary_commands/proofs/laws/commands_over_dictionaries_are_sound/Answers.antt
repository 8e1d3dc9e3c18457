use Rattle.dictionary_commands.proofs.lemmas.Soundness.{header_sound, inject_sound}
use Rattle.dictionary_commands.proofs.laws.commands_over_dictionaries_are_sound.Goals as goal

pub returns : goal.returns
returns c = record { header = header_sound; inject = inject_sound }
