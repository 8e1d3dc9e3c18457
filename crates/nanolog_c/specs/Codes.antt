-- The numbers that the calls answer, and what they write beside them.
use Rattle.std.specs.Prelude.{ℕ, ℤ, pos, Bool, true, false, Option, Some, None, Result, Ok, Err}
use Rattle.log_ends.specs.declared.opening.OpenFault.{OpenFault}
use Rattle.log_ends.specs.declared.opening.OpenFault.TheVariants as opens
use Rattle.log_ends.specs.declared.session.WriterFault.{WriterFault}
use Rattle.log_ends.specs.declared.session.WriterFault.TheVariants as givings
use Rattle.log_ends.specs.declared.writer.LogFault.{LogFault}
use Rattle.log_ends.specs.declared.writer.LogFault.TheVariants as logs
use Rattle.roaming_consumer.specs.declared.clocks.ClockRefusal.{ClockRefusal}
use Rattle.roaming_consumer.specs.declared.clocks.ClockRefusal.TheVariants as refusals
use Rattle.log_ends.specs.declared.parting.PartRefusal.{PartRefusal}
use Rattle.log_ends.specs.declared.parting.PartRefusal.TheVariants as parts
use Rattle.log_ends.specs.declared.consumer.Pumped.{Pumped}
use Rattle.log_ends.specs.declared.consumer.Pumped.TheVariants as pumps
use Rattle.nanolog_c.specs.declared.answers.TheConstants.{DONE, FULL, TOO_LONG, MISFIT, EARLY, FINISHED, WORN_OUT, NO_WRITER, REACHED, ENDING, LAST_PART, NO_MEMORY, BAD_DICTIONARY, OUT_OF_RANGE, BAD_HANDLE, NO_TEXT, NOTHING, AT_END, PART_OVER, NO_ROOM, NO_CONSUMER}

-- ---- opening a session, and giving out a writer

abbrev pub open_code : Option (Result (Unit {0}) OpenFault) → ℤ
open_code (Some (Ok tt)) = DONE
open_code (Some (Err opens.OutOfRange)) = OUT_OF_RANGE
open_code (Some (Err (opens.BadDictionary line))) = BAD_DICTIONARY
open_code (Some (Err opens.NoMemory)) = NO_MEMORY
open_code None = BAD_HANDLE

-- the line of a dictionary that is refused, where one was before
abbrev pub line_after : Option (Result (Unit {0}) OpenFault) → ℕ → ℕ
line_after (Some (Err (opens.BadDictionary line))) before = line
line_after _ before = before

abbrev pub writer_code : Option (Result (Unit {0}) WriterFault) → ℤ
writer_code (Some (Ok tt)) = DONE
writer_code (Some (Err givings.NoWriter)) = NO_WRITER
writer_code (Some (Err givings.NoMemory)) = NO_MEMORY
writer_code None = BAD_HANDLE

-- the limit of a text, where there are a session and that text
abbrev pub limit_code : Option (Option ℕ) → ℤ
limit_code (Some (Some limit)) = pos limit
limit_code (Some None) = NO_TEXT
limit_code None = BAD_HANDLE

-- ---- the calls of a writer

abbrev pub log_code : Option (Result (Unit {0}) LogFault) → ℤ
log_code (Some (Ok tt)) = DONE
log_code (Some (Err (logs.Full full))) = FULL
log_code (Some (Err logs.TooLong)) = TOO_LONG
log_code (Some (Err logs.Misfit)) = MISFIT
log_code (Some (Err logs.Early)) = EARLY
log_code (Some (Err logs.Finished)) = FINISHED
log_code (Some (Err logs.WornOut)) = WORN_OUT
log_code None = BAD_HANDLE

-- what was wanted of a ring that lacked room, and what was free
abbrev pub need_after : Option (Result (Unit {0}) LogFault) → ℕ → ℕ
need_after (Some (Err (logs.Full full))) before = full.need
need_after _ before = before

abbrev pub room_after : Option (Result (Unit {0}) LogFault) → ℕ → ℕ
room_after (Some (Err (logs.Full full))) before = full.room
room_after _ before = before

abbrev pub finish_code : Option Bool → ℤ
finish_code (Some true) = DONE
finish_code (Some false) = FINISHED
finish_code None = BAD_HANDLE

-- ---- ending a session, pumping, clocks, and parts

abbrev pub end_code : Bool → ℤ
end_code true = DONE
end_code false = BAD_HANDLE

abbrev pub pump_code : Option Pumped → ℤ
pump_code (Some (pumps.Gave count)) = pos count
pump_code (Some pumps.NoRoom) = NO_ROOM
pump_code (Some pumps.Nothing) = NOTHING
pump_code (Some pumps.PartOver) = PART_OVER
pump_code (Some pumps.AtEnd) = AT_END
pump_code None = NO_CONSUMER

abbrev pub clock_code : Option (Result (Unit {0}) ClockRefusal) → ℤ
clock_code (Some (Ok tt)) = DONE
clock_code (Some (Err refusals.Misfit)) = OUT_OF_RANGE
clock_code (Some (Err refusals.Reached)) = REACHED
clock_code None = BAD_HANDLE

abbrev pub part_code : Option (Result (Unit {0}) PartRefusal) → ℤ
part_code (Some (Ok tt)) = DONE
part_code (Some (Err parts.AtEnd)) = LAST_PART
part_code (Some (Err parts.Ending)) = ENDING
part_code None = BAD_HANDLE
