use Rattle.std.proofs.Common.{None, refl, inl}
use Rattle.cli_words.specs.Commands.{command_of, texts_of}
use Rattle.command_base.specs.Endings.{NoMemory as WantsMemory}
use Rattle.nanolog_main.proofs.ended.run_words.Goals as goal

pub returns-in_default : goal.returns-in_default
returns-in_default g c = record { ends = (None, WantsMemory, c.want_memory.ensures.status, inl (refl, refl), c.want_memory.ensures.told) }

pub returns : goal.returns
returns g c =
    let ends = c.nanolog.ensures.ends in
    record { ends = (command_of (texts_of c.deref.result.now), ends.0, ends.1, ends.2, ends.3) }
