-- The causes for which a file is no log: their numbers and names.
use Rattle.std.specs.Prelude.{ℕ, List, codes}
use Rattle.buffer_extent.specs.Causes.{cause_number as body_number, cause_name as body_name}
use Rattle.checkpoint_io.specs.declared.cause.Cause.{Cause}
use Rattle.checkpoint_io.specs.declared.cause.Cause.TheVariants as causes

abbrev pub cause_number : Cause → ℕ
cause_number causes.BadMagic = 1
cause_number causes.BadVersion = 2
cause_number causes.BadHeader = 3
cause_number causes.Cut = 4
cause_number causes.BadBlock = 5
cause_number causes.FragmentOrder = 6
cause_number causes.BadEntry = 7
cause_number causes.UnknownWriter = 8
cause_number causes.AfterClose = 9
cause_number causes.BadLength = 10
cause_number (causes.Body cause) = body_number cause
cause_number causes.TooLarge = 20
cause_number causes.ClockOrder = 21
cause_number causes.ClockLate = 22
cause_number causes.BadRate = 23
cause_number causes.ClockCount = 24

abbrev pub cause_name : Cause → List ℕ
cause_name causes.BadMagic = codes "BadMagic"
cause_name causes.BadVersion = codes "BadVersion"
cause_name causes.BadHeader = codes "BadHeader"
cause_name causes.Cut = codes "Cut"
cause_name causes.BadBlock = codes "BadBlock"
cause_name causes.FragmentOrder = codes "FragmentOrder"
cause_name causes.BadEntry = codes "BadEntry"
cause_name causes.UnknownWriter = codes "UnknownWriter"
cause_name causes.AfterClose = codes "AfterClose"
cause_name causes.BadLength = codes "BadLength"
cause_name (causes.Body cause) = body_name cause
cause_name causes.TooLarge = codes "TooLarge"
cause_name causes.ClockOrder = codes "ClockOrder"
cause_name causes.ClockLate = codes "ClockLate"
cause_name causes.BadRate = codes "BadRate"
cause_name causes.ClockCount = codes "ClockCount"
