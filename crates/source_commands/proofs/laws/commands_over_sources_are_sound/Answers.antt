use Rattle.std.proofs.Common.{Some}
use Rattle.source_commands.specs.Preprocessing.{GiveDictionary}
use Rattle.source_commands.proofs.lemmas.SourceLaws.{source_sound}
use Rattle.source_commands.proofs.laws.commands_over_sources_are_sound.Goals as goal

pub returns : goal.returns
returns c = λ dictionary sources. source_sound sources (Some dictionary) GiveDictionary
