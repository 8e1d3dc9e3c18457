-- The causes for which a body is no records: their numbers and names.
use Rattle.std.specs.Prelude.{ℕ, List, codes}
use Rattle.buffer_extent.specs.declared.fault.BodyCause.{BodyCause}
use Rattle.buffer_extent.specs.declared.fault.BodyCause.TheVariants as causes

abbrev pub cause_number : BodyCause → ℕ
cause_number causes.RecordCut = 11
cause_number causes.UnknownId = 12
cause_number causes.BadNibble = 13
cause_number causes.NotShortest = 14
cause_number causes.StampRange = 15
cause_number causes.StampFalls = 16
cause_number causes.ArgRange = 17
cause_number causes.NulInText = 18
cause_number causes.TooLong = 19

abbrev pub cause_name : BodyCause → List ℕ
cause_name causes.RecordCut = codes "RecordCut"
cause_name causes.UnknownId = codes "UnknownId"
cause_name causes.BadNibble = codes "BadNibble"
cause_name causes.NotShortest = codes "NotShortest"
cause_name causes.StampRange = codes "StampRange"
cause_name causes.StampFalls = codes "StampFalls"
cause_name causes.ArgRange = codes "ArgRange"
cause_name causes.NulInText = codes "NulInText"
cause_name causes.TooLong = codes "TooLong"
