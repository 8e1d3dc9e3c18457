use Rattle.std.proofs.Common.{lit<, refl}
use Rattle.trace_text.specs.declared.cause.TraceCause.TheVariants as causes
use Rattle.trace_text.proofs.laws.causes_have_numbers_and_names.Goals as goal

pub returns : goal.returns
returns c causes.Header = (0, lit< tt, refl)
returns c causes.Message = (1, lit< tt, refl)
returns c causes.Clock = (2, lit< tt, refl)
returns c causes.TooManyClocks = (3, lit< tt, refl)
returns c causes.ClockOrder = (4, lit< tt, refl)
returns c causes.Writers = (5, lit< tt, refl)
returns c causes.Writer = (6, lit< tt, refl)
returns c causes.StampFalls = (7, lit< tt, refl)
returns c causes.BeforeClock = (8, lit< tt, refl)
returns c causes.Id = (9, lit< tt, refl)
returns c causes.ArgCount = (10, lit< tt, refl)
returns c causes.ArgKind = (11, lit< tt, refl)
returns c causes.ArgRange = (12, lit< tt, refl)
returns c causes.NulInText = (13, lit< tt, refl)
returns c causes.TooLong = (14, lit< tt, refl)
returns c causes.NoEnd = (15, lit< tt, refl)
returns c causes.TooMany = (16, lit< tt, refl)
returns c causes.AfterEnd = (17, lit< tt, refl)
returns c causes.CallForm = (18, lit< tt, refl)
returns c causes.TooLarge = (19, lit< tt, refl)
