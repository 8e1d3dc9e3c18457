-- Why lines of schedules are refused.
use Rattle.std.specs.Prelude.{ℕ, List, codes, Option, Some, None}
use Rattle.ring_machine.specs.declared.steps.Barred.{Barred}
use Rattle.ring_machine.specs.declared.steps.Barred.TheVariants as bars
use Rattle.schedule_text.specs.declared.cause.ScheduleCause.{ScheduleCause}
use Rattle.schedule_text.specs.declared.cause.ScheduleCause.TheVariants as causes

-- a cause's number
abbrev pub cause_number : ScheduleCause → ℕ
cause_number causes.Header = 1
cause_number causes.Step = 2
cause_number causes.Ring = 3
cause_number causes.Closed = 4
cause_number causes.MidFrame = 5
cause_number causes.BadWord = 6
cause_number causes.AtEdge = 7
cause_number causes.NoRoom = 8
cause_number causes.Empty = 9
cause_number causes.Nothing = 10
cause_number causes.TooMany = 11

-- the bytes of a cause's name
abbrev pub cause_name : ScheduleCause → List ℕ
cause_name causes.Header = codes "Header"
cause_name causes.Step = codes "Step"
cause_name causes.Ring = codes "Ring"
cause_name causes.Closed = codes "Closed"
cause_name causes.MidFrame = codes "MidFrame"
cause_name causes.BadWord = codes "BadWord"
cause_name causes.AtEdge = codes "AtEdge"
cause_name causes.NoRoom = codes "NoRoom"
cause_name causes.Empty = codes "Empty"
cause_name causes.Nothing = codes "Nothing"
cause_name causes.TooMany = codes "TooMany"

-- what bars a step, as a cause. Want of memory bars none
abbrev pub bar_cause : Barred → ScheduleCause
bar_cause bars.Ring = causes.Ring
bar_cause bars.Closed = causes.Closed
bar_cause bars.MidFrame = causes.MidFrame
bar_cause bars.BadWord = causes.BadWord
bar_cause bars.AtEdge = causes.AtEdge
bar_cause bars.NoRoom = causes.NoRoom
bar_cause bars.Empty = causes.Empty
bar_cause bars.Nothing = causes.Nothing
bar_cause bars.NoMemory = causes.Nothing

-- what bars a step, as a cause, if it isn't want of memory
abbrev pub told_bar : Barred → Option ScheduleCause
told_bar bars.Ring = Some causes.Ring
told_bar bars.Closed = Some causes.Closed
told_bar bars.MidFrame = Some causes.MidFrame
told_bar bars.BadWord = Some causes.BadWord
told_bar bars.AtEdge = Some causes.AtEdge
told_bar bars.NoRoom = Some causes.NoRoom
told_bar bars.Empty = Some causes.Empty
told_bar bars.Nothing = Some causes.Nothing
told_bar bars.NoMemory = None
