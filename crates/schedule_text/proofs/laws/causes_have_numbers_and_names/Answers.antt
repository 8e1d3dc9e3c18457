use Rattle.std.proofs.Common.{lit<, refl}
use Rattle.schedule_text.specs.declared.cause.ScheduleCause.TheVariants as causes
use Rattle.schedule_text.proofs.laws.causes_have_numbers_and_names.Goals as goal

pub returns : goal.returns
returns c causes.Header = (0, lit< tt, refl)
returns c causes.Step = (1, lit< tt, refl)
returns c causes.Ring = (2, lit< tt, refl)
returns c causes.Closed = (3, lit< tt, refl)
returns c causes.MidFrame = (4, lit< tt, refl)
returns c causes.BadWord = (5, lit< tt, refl)
returns c causes.AtEdge = (6, lit< tt, refl)
returns c causes.NoRoom = (7, lit< tt, refl)
returns c causes.Empty = (8, lit< tt, refl)
returns c causes.Nothing = (9, lit< tt, refl)
returns c causes.TooMany = (10, lit< tt, refl)
