-- Which calls a level keeps.
use Rattle.std.specs.Prelude.{Bool, false, leb, List, map, filter, slice_get}
use Rattle.std.specs.Option.{option_map_or}
use Rattle.log_dictionary.specs.Severities.{severity_number}
use Rattle.log_dictionary.specs.declared.severity.Severity.{Severity}
use Rattle.log_dictionary.specs.declared.message.Message.{Message}
use Rattle.arg_records.specs.declared.call.Call.{Call}
use Rattle.trace_text.specs.Recordings.{Recording}

-- the message's number is at most the level's
abbrev pub is_within : Severity → Message → Bool
is_within level message = leb (severity_number message.severity) (severity_number level)

-- the level keeps the call
abbrev pub keeps : List Message → Severity → Call → Bool
keeps dictionary level call = option_map_or (is_within level) (slice_get dictionary call.id) false

-- the calls that the level keeps, per writer, in their order
abbrev pub Kept : Recording → Severity → List (List Call)
Kept run level = map (filter (keeps run.dictionary level)) run.writers
