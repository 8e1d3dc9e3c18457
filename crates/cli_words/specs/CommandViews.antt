-- Commands, and what operands are given, as the program has them.
use Rattle.std.specs.Prelude.{map}
use Rattle.cli_words.specs.declared.command.Command.{Command as Asked}
use Rattle.cli_words.specs.declared.command.Command.TheVariants as asked
use Rattle.cli_words.specs.declared.operands.OperandValue.{OperandValue as Read}
use Rattle.cli_words.specs.declared.operands.OperandValue.TheVariants as read
use Rattle.cli_words.specs.Commands.{Command, Preprocess, Direct, Replay, Decompress, Aggregate, Generate, Selftest, Schedule, Migrate, Inject, Header}
use Rattle.cli_words.specs.Commands.{OperandValue, File, Sources, Number, Seed}

-- what is asked for
abbrev pub command_is : Asked → Command
command_is (asked.Preprocess dictionary sources) = Preprocess dictionary.now (map (λ name. name.now) sources.items)
command_is (asked.Direct trace) = Direct trace.now
command_is (asked.Replay trace log options) = Replay trace.now log.now options
command_is (asked.Decompress log) = Decompress log.now
command_is (asked.Aggregate log id nth) = Aggregate log.now id nth
command_is (asked.Generate seed calls writers) = Generate seed calls writers
command_is (asked.Selftest seed calls writers) = Selftest seed calls writers
command_is (asked.Schedule file) = Schedule file.now
command_is (asked.Migrate old new) = Migrate old.now new.now
command_is (asked.Inject dictionary source output) = Inject dictionary.now source.now output.now
command_is (asked.Header dictionary output) = Header dictionary.now output.now

-- what an operand is given
abbrev pub value_is : Read → OperandValue
value_is (read.File name) = File name.now
value_is (read.Sources names) = Sources (map (λ name. name.now) names.now)
value_is (read.Number number) = Number number
value_is (read.Seed seed) = Seed seed
