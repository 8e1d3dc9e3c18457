-- What is asked of a task is so of each command's.
use Rattle.cli_words.specs.Commands.{Command, Preprocess, Direct, Replay, Decompress, Aggregate, Generate, Selftest, Schedule, Migrate, Inject, Header}
use Rattle.command_base.specs.Soundness.{IsSound}
use Rattle.source_commands.specs.Preprocessing.{GiveDictionary}
use Rattle.source_commands.proofs.lemmas.SourceLaws.{source_sound}
use Rattle.trace_commands.proofs.lemmas.Soundness.{direct_sound, generate_sound}
use Rattle.dictionary_commands.proofs.lemmas.Soundness.{header_sound, inject_sound}
use Rattle.log_commands.proofs.lemmas.Soundness.{decompress_sound, aggregate_sound, migrate_sound}
use Rattle.schedule_commands.proofs.lemmas.Soundness.{schedule_sound}
use Rattle.session_commands.proofs.lemmas.Soundness.{replay_sound, selftest_sound}
use Rattle.std.proofs.Common.{Some}
use Rattle.nanolog_cli.specs.Outcomes.{task_of}

pub task_sound : (command : Command) → IsSound (task_of command)
task_sound (Preprocess dictionary sources) = source_sound sources (Some dictionary) GiveDictionary
task_sound (Direct trace) = direct_sound trace
task_sound (Replay trace log options) = replay_sound trace log options
task_sound (Decompress log) = decompress_sound log
task_sound (Aggregate log id nth) = aggregate_sound log id nth
task_sound (Generate seed calls writers) = generate_sound seed calls writers
task_sound (Selftest seed calls writers) = selftest_sound seed calls writers
task_sound (Schedule file) = schedule_sound file
task_sound (Migrate old new) = migrate_sound old new
task_sound (Inject dictionary source output) = inject_sound dictionary source output
task_sound (Header dictionary output) = header_sound dictionary output
