-- What the command `aggregate` does.
use Rattle.std.specs.Prelude.{◌≡◌, ℕ, ℤ, List, [], ◌++◌, codes, Option, Some, None, Result, Ok, Err}
use Rattle.std.specs.Fmt.{decimal, signed_decimal}
use Rattle.aggregation.specs.declared.totals.Totals.{Totals}
use Rattle.aggregation.specs.declared.fault.AggregateFault.{AggregateFault}
use Rattle.aggregation.specs.declared.fault.AggregateFault.TheVariants as faults
use Rattle.aggregation.specs.Aggregating.{HaveAnswer}
use Rattle.command_base.specs.Endings.{ToldCause, Ending, Done, ReadFault, Refused, Damaged, NoMemory}
use Rattle.command_base.specs.HeldFiles.{HoldsSuch}
use Rattle.command_base.specs.Tasks.{WhileReading, Task, text_alone}
use Rattle.command_base.specs.Readings.{Form, never, printing_task}
use Rattle.log_commands.specs.Logs.{log_cause, HasNumber}

-- ---- what is printed

-- the least and the greatest of the numbers, where there are any, and their sum
abbrev pub range_text : Option (ℤ × ℤ) → ℤ → List ℕ
range_text None sum = []
range_text (Some (least, greatest)) sum =
    codes " least " ++ signed_decimal least ++ codes " greatest " ++ signed_decimal greatest ++ codes " sum "
    ++ signed_decimal sum

-- the line on totals: how many numbers there are, and, where there are any, what they come to
abbrev pub totals_line : Totals → List ℕ
totals_line totals = codes "count " ++ decimal totals.count ++ range_text totals.range totals.sum ++ codes "\n"

-- the line, where there are totals
abbrev pub totals_text : Option Totals → List ℕ
totals_text None = []
totals_text (Some totals) = totals_line totals

-- ---- the answer

-- the totals that it tells: of the whole log, or of what stands in front of a damage
abbrev pub totals_told : Result Totals AggregateFault → Option Totals
totals_told (Ok totals) = Some totals
totals_told (Err (faults.Damaged offset cause front)) = front
totals_told (Err fault) = None

-- the causes for which a log that is whole is refused
abbrev pub no_such_message : ToldCause
no_such_message = record { number = 1; name = codes "NoSuchMessage" }

abbrev pub no_such_argument : ToldCause
no_such_argument = record { number = 2; name = codes "NoSuchArgument" }

-- the answer as an end
abbrev pub totals_ending : List ℕ → Result Totals AggregateFault → Ending
totals_ending log (Ok totals) = Done
totals_ending log (Err faults.ReadFault) = ReadFault log
totals_ending log (Err (faults.Damaged offset cause front)) = Damaged log offset (log_cause cause)
totals_ending log (Err faults.NoSuchMessage) = Refused log None no_such_message
totals_ending log (Err faults.NoSuchArgument) = Refused log None no_such_argument
totals_ending log (Err faults.NoMemory) = NoMemory

-- what a log gives: the line on the totals of the argument, or why there are none of the whole log, behind the line on
-- those in front of a damage
abbrev pub GivesTotals : List ℕ → ℕ → ℕ → Form
GivesTotals log id nth old product ending =
    (answer : Result Totals AggregateFault) × (ending ≡ totals_ending log answer)
    × (product ≡ text_alone (totals_text (totals_told answer))) × HoldsSuch old log (HaveAnswer id nth answer)

-- `aggregate`: the line on the totals of an argument is printed
abbrev pub aggregate_task : List ℕ → ℕ → ℕ → Task
aggregate_task log id nth = printing_task log WhileReading (GivesTotals log id nth) never (HasNumber id nth)
