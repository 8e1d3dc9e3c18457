use Rattle.std.proofs.Common.{lit<, refl}
use Rattle.buffer_extent.specs.declared.fault.BodyCause.TheVariants as causes
use Rattle.buffer_extent.proofs.laws.causes_have_numbers_and_names.Goals as goal

pub returns : goal.returns
returns c causes.RecordCut = (0, lit< tt, refl)
returns c causes.UnknownId = (1, lit< tt, refl)
returns c causes.BadNibble = (2, lit< tt, refl)
returns c causes.NotShortest = (3, lit< tt, refl)
returns c causes.StampRange = (4, lit< tt, refl)
returns c causes.StampFalls = (5, lit< tt, refl)
returns c causes.ArgRange = (6, lit< tt, refl)
returns c causes.NulInText = (7, lit< tt, refl)
returns c causes.TooLong = (8, lit< tt, refl)
