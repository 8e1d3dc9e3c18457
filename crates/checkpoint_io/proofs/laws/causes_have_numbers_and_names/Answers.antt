use Rattle.std.proofs.Common.{lit<, refl}
use Rattle.buffer_extent.specs.declared.fault.BodyCause.TheVariants as body_causes
use Rattle.checkpoint_io.specs.declared.cause.Cause.TheVariants as causes
use Rattle.checkpoint_io.proofs.laws.causes_have_numbers_and_names.Goals as goal

pub returns : goal.returns
returns c causes.BadMagic = (0, lit< tt, refl)
returns c causes.BadVersion = (1, lit< tt, refl)
returns c causes.BadHeader = (2, lit< tt, refl)
returns c causes.Cut = (3, lit< tt, refl)
returns c causes.BadBlock = (4, lit< tt, refl)
returns c causes.FragmentOrder = (5, lit< tt, refl)
returns c causes.BadEntry = (6, lit< tt, refl)
returns c causes.UnknownWriter = (7, lit< tt, refl)
returns c causes.AfterClose = (8, lit< tt, refl)
returns c causes.BadLength = (9, lit< tt, refl)
returns c (causes.Body body_causes.RecordCut) = (10, lit< tt, refl)
returns c (causes.Body body_causes.UnknownId) = (11, lit< tt, refl)
returns c (causes.Body body_causes.BadNibble) = (12, lit< tt, refl)
returns c (causes.Body body_causes.NotShortest) = (13, lit< tt, refl)
returns c (causes.Body body_causes.StampRange) = (14, lit< tt, refl)
returns c (causes.Body body_causes.StampFalls) = (15, lit< tt, refl)
returns c (causes.Body body_causes.ArgRange) = (16, lit< tt, refl)
returns c (causes.Body body_causes.NulInText) = (17, lit< tt, refl)
returns c (causes.Body body_causes.TooLong) = (18, lit< tt, refl)
returns c causes.TooLarge = (19, lit< tt, refl)
returns c causes.ClockOrder = (20, lit< tt, refl)
returns c causes.ClockLate = (21, lit< tt, refl)
returns c causes.BadRate = (22, lit< tt, refl)
returns c causes.ClockCount = (23, lit< tt, refl)
