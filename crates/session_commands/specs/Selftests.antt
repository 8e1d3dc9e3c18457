-- What the command `selftest` tells.
use Rattle.std.specs.Prelude.{◌≡◌, ◌==◌, ℕ, Bool, false, List, ◌++◌, length, sum_by, count_by, slice_get, codes}
use Rattle.std.specs.Fmt.{decimal}
use Rattle.std.specs.Option.{option_map_or}
use Rattle.log_dictionary.specs.Severities.{severity_number}
use Rattle.log_dictionary.specs.declared.message.Message.{Message}
use Rattle.log_dictionary.specs.declared.severity.Severity.{Severity}
use Rattle.log_dictionary.specs.declared.severity.Severity.TheVariants.{Error, Warning, Notice, Debug}
use Rattle.arg_records.specs.declared.call.Call.{Call}
use Rattle.trace_text.specs.Recordings.{Recording, calls_of}
use Rattle.session_commands.specs.declared.selftesting.Summary.{Summary}
use Rattle.trace_generator.specs.Generated.{Generated}
use Rattle.command_base.specs.Tasks.{WhileReading, Task, text_alone}
use Rattle.command_base.specs.Readings.{free_task}
use Rattle.trace_commands.specs.Texts.{direct_text}

-- the call's message has this severity
abbrev pub has_severity : List Message → Severity → Call → Bool
has_severity dictionary severity call =
    option_map_or (λ message. severity_number message.severity == severity_number severity)
    (slice_get dictionary call.id) false

-- how many of the calls have it
abbrev pub severity_count : List Message → Severity → List Call → ℕ
severity_count dictionary severity calls = count_by (has_severity dictionary severity) calls

-- how many calls of a run have it, of all writers
abbrev pub calls_of_severity : Recording → Severity → ℕ
calls_of_severity run severity = sum_by (severity_count run.dictionary severity) run.writers

-- what is told of a session of a run
abbrev pub summary_of : Recording → Summary
summary_of run = record {
  calls = length (calls_of run);
  errors = calls_of_severity run Error;
  warnings = calls_of_severity run Warning;
  notices = calls_of_severity run Notice;
  debugs = calls_of_severity run Debug;
  text = length (direct_text run);
}

-- the line on it
abbrev pub summary_line : Summary → List ℕ
summary_line summary =
    codes "calls " ++ decimal summary.calls ++ codes " errors " ++ decimal summary.errors ++ codes " warnings "
    ++ decimal summary.warnings ++ codes " notices " ++ decimal summary.notices ++ codes " debugs "
    ++ decimal summary.debugs ++ codes " text " ++ decimal summary.text ++ codes "\n"

-- the line on a run: how many calls there are, how many of each severity, and how many bytes their lines have
abbrev pub selftest_line : Recording → List ℕ
selftest_line run = summary_line (summary_of run)

-- `selftest`: the line on a generated trace is printed
abbrev pub selftest_task : ℕ → ℕ → ℕ → Task
selftest_task seed calls writers =
    free_task WhileReading (λ product. product ≡ text_alone (selftest_line (Generated seed calls writers)))
