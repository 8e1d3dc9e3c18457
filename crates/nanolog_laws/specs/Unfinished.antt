-- Ends of commands at which not all was done.
use Rattle.std.specs.Prelude.{◌≡◌, ◌⊎◌, ℕ, List, Option, Some, ⊤}
use Rattle.nl_io.specs.Content.{PutsFront}
use Rattle.nl_io.specs.Desk.{Desk, found_in}
use Rattle.session_options.specs.declared.options.Options.{Options}
use Rattle.trace_text.specs.Recordings.{Recording}
use Rattle.cli_words.specs.Commands.{Command, Decompress, Aggregate, Schedule}
use Rattle.command_base.specs.Endings.{Ending, Done, StillOpen, ReadFault, Refused, Damaged, WriteFault, NoMemory}
use Rattle.command_base.specs.HeldFiles.{IsHeld}
use Rattle.command_base.specs.Scenes.{Scene}
use Rattle.command_base.specs.Tasks.{Product}
use Rattle.session_commands.specs.Headline.{TraceRead}
use Rattle.session_commands.specs.Replays.{IsLogFront}
use Rattle.nanolog_cli.specs.Outcomes.{task_of}

-- the words or the inputs are why not all was done
abbrev pub IsRefusedEnding : Ending → Type 0
IsRefusedEnding Done = ⊥
IsRefusedEnding (StillOpen name numbers) = ⊥
IsRefusedEnding (WriteFault name) = ⊥
IsRefusedEnding NoMemory = ⊥
IsRefusedEnding ending = ⊤

-- a write failed, or memory was wanting
abbrev pub IsCutShort : Ending → Type 0
IsCutShort (WriteFault name) = ⊤
IsCutShort NoMemory = ⊤
IsCutShort ending = ⊥

-- A text is printed all the same: the lines of a log up to where it is damaged or couldn't be read, the line on the
-- totals of what stands in front of a damage, and the lines of the steps before a line of a schedule that is refused.
abbrev pub ComesWithText : Option Command → Ending → Type 0
ComesWithText (Some (Decompress log)) (Damaged name offset cause) = ⊤
ComesWithText (Some (Decompress log)) (ReadFault name) = ⊤
ComesWithText (Some (Aggregate log id nth)) (Damaged name offset cause) = ⊤
ComesWithText (Some (Schedule file)) (Refused name line cause) = ⊤
ComesWithText asked ending = ⊥

-- A front was printed of a text that the inputs give where no write fails and memory suffices.
pub record PrintsFront (command : Command) (old new : Scene) : Type 0 where
  pub product : Product
  pub read : Desk
  pub verdict : Ending
  pub reading : (task_of command).reads old.desk read product verdict
  pub printed : PutsFront product.text old.put new.put

-- The name of a replay's log holds what it held, or it holds no bytes, or the front of a log that a session of the
-- trace's run might give.
abbrev pub HoldsCutLog : List ℕ → List ℕ → Options → Desk → Desk → Type 0
HoldsCutLog trace log options old new =
    (found_in new log ≡ found_in old log)
    ⊎ ((run : Recording) × (bytes : List ℕ) × TraceRead old trace run × IsHeld new log bytes
    × IsLogFront run options bytes)
