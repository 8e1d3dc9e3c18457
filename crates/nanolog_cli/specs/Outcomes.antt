-- What the answer of the program says.
use Rattle.std.specs.Prelude.{◌≡◌, ◌⊎◌, ℕ, List, Option, Some, None}
use Rattle.nl_io.specs.Desk.{Desk}
use Rattle.cli_words.specs.Commands.{Command, Preprocess, Direct, Replay, Decompress, Aggregate, Generate, Selftest, Schedule, Migrate, Inject, Header}
use Rattle.cli_words.specs.Usage.{usage_text}
use Rattle.command_base.specs.Endings.{Ending, Usage, NoMemory}
use Rattle.command_base.specs.Scenes.{Scene}
use Rattle.command_base.specs.Tasks.{Task}
use Rattle.command_base.specs.Effects.{CommandEffect}
use Rattle.source_commands.specs.Preprocessing.{preprocess_task}
use Rattle.trace_commands.specs.Tasks.{direct_task, generate_task}
use Rattle.dictionary_commands.specs.Injecting.{inject_task}
use Rattle.dictionary_commands.specs.Heading.{header_task}
use Rattle.log_commands.specs.Decompressing.{decompress_task}
use Rattle.log_commands.specs.Aggregating.{aggregate_task}
use Rattle.log_commands.specs.Migrating.{migrate_task}
use Rattle.schedule_commands.specs.Tasks.{schedule_task}
use Rattle.session_commands.specs.Replays.{replay_task}
use Rattle.session_commands.specs.Selftests.{selftest_task}

-- what a command does
abbrev pub task_of : Command → Task
task_of (Preprocess dictionary sources) = preprocess_task dictionary sources
task_of (Direct trace) = direct_task trace
task_of (Replay trace log options) = replay_task trace log options
task_of (Decompress log) = decompress_task log
task_of (Aggregate log id nth) = aggregate_task log id nth
task_of (Generate seed calls writers) = generate_task seed calls writers
task_of (Selftest seed calls writers) = selftest_task seed calls writers
task_of (Schedule file) = schedule_task file
task_of (Migrate old new) = migrate_task old new
task_of (Inject dictionary source output) = inject_task dictionary source output
task_of (Header dictionary output) = header_task dictionary output

-- What the answer of a command says.
abbrev pub Ends : Command → Scene → Scene → Ending → Type 0
Ends command old new ending = CommandEffect (task_of command) old new ending

-- the names of the files that a command reads, in the order in which it reads them
abbrev pub input_names : Command → List (List ℕ)
input_names command = (task_of command).inputs

-- the name of the file that it writes, if it writes one
abbrev pub output_name : Command → Option (List ℕ)
output_name command = (task_of command).output

-- it is told that what a command reads is there, and is right
abbrev pub IsRight : Command → Desk → Type 0
IsRight command desk = (task_of command).right desk

-- Where a read failed, this may be told in its place: with `preprocess` what is refused of the sources before, and with
-- `decompress` that a write failed, or that memory was wanting, behind the lines of what was read before.
abbrev pub HidesReadFault : Command → Desk → Desk → Ending → Type 0
HidesReadFault command old new ending = (task_of command).hides old new ending

-- the command of the words, unless that may wait for others
abbrev pub quick_part : Option Command → Option Command
quick_part (Some (Replay trace log options)) = None
quick_part (Some (Selftest seed calls writers)) = None
quick_part asked = asked

-- what the answer says of words that were read, which spell a command or none
abbrev pub AnswersRead : Option Command → Scene → Scene → Ending → Type 0
AnswersRead None old new ending = (ending ≡ Usage usage_text) × (new ≡ old)
AnswersRead (Some command) old new ending = Ends command old new ending

-- What the answer says of words: memory was wanting while they were read, and all is as it was; or it is that of the
-- words that were read.
abbrev pub Answers : Option Command → Scene → Scene → Ending → Type 0
Answers asked old new ending = ((ending ≡ NoMemory) × (new ≡ old)) ⊎ AnswersRead asked old new ending
