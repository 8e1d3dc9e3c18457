use Rattle.std.proofs.Common.{◌≡◌, map, take}
use Rattle.clap.specs.Words.{app_of}
use Rattle.cli_words.specs.Apps.{app}
use Rattle.cli_words.proofs.reading.reader.Given as goal

abbrev pub invariant-loop-option : goal.invariant-loop-option
invariant-loop-option l = app_of l.command ≡ app (map (λ option. option.name.now) (take l.option-index l.option-items))
