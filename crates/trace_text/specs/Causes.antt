-- The numbers and the names of causes.
use Rattle.std.specs.Prelude.{ℕ, List, codes}
use Rattle.trace_text.specs.declared.cause.TraceCause.{TraceCause}
use Rattle.trace_text.specs.declared.cause.TraceCause.TheVariants as causes

-- a cause's number
abbrev pub cause_number : TraceCause → ℕ
cause_number causes.TooLarge = 18
cause_number causes.NoEnd = 14
cause_number causes.Header = 1
cause_number causes.TooMany = 15
cause_number causes.Message = 2
cause_number causes.TooManyClocks = 20
cause_number causes.Clock = 3
cause_number causes.ClockOrder = 21
cause_number causes.Writers = 4
cause_number causes.CallForm = 17
cause_number causes.Writer = 5
cause_number causes.BeforeClock = 7
cause_number causes.StampFalls = 6
cause_number causes.Id = 8
cause_number causes.ArgCount = 9
cause_number causes.ArgKind = 10
cause_number causes.ArgRange = 11
cause_number causes.NulInText = 12
cause_number causes.TooLong = 13
cause_number causes.AfterEnd = 16

-- the bytes of a cause's name
abbrev pub cause_name : TraceCause → List ℕ
cause_name causes.TooLarge = codes "TooLarge"
cause_name causes.NoEnd = codes "NoEnd"
cause_name causes.Header = codes "Header"
cause_name causes.TooMany = codes "TooMany"
cause_name causes.Message = codes "Message"
cause_name causes.TooManyClocks = codes "TooManyClocks"
cause_name causes.Clock = codes "Clock"
cause_name causes.ClockOrder = codes "ClockOrder"
cause_name causes.Writers = codes "Writers"
cause_name causes.CallForm = codes "CallForm"
cause_name causes.Writer = codes "Writer"
cause_name causes.BeforeClock = codes "BeforeClock"
cause_name causes.StampFalls = codes "StampFalls"
cause_name causes.Id = codes "Id"
cause_name causes.ArgCount = codes "ArgCount"
cause_name causes.ArgKind = codes "ArgKind"
cause_name causes.ArgRange = codes "ArgRange"
cause_name causes.NulInText = codes "NulInText"
cause_name causes.TooLong = codes "TooLong"
cause_name causes.AfterEnd = codes "AfterEnd"
