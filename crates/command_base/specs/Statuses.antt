-- The numbers of statuses.
use Rattle.std.specs.Prelude.{ℕ}
use Rattle.command_base.specs.declared.status.Status.{Status}
use Rattle.command_base.specs.declared.status.Status.TheVariants as statuses

-- the exit status that stands for how a command ended
abbrev pub status_number : Status → ℕ
status_number statuses.Done = 0
status_number statuses.Usage = 1
status_number statuses.Refused = 2
status_number statuses.Damaged = 3
status_number statuses.ReadFault = 4
status_number statuses.WriteFault = 5
status_number statuses.NoMemory = 6
status_number statuses.Absent = 7
