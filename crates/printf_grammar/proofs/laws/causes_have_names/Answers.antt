use Rattle.std.proofs.Common.{lit<, refl}
use Rattle.printf_grammar.specs.declared.fault.FormatCause.TheVariants as causes
use Rattle.printf_grammar.proofs.laws.causes_have_names.Goals as goal

pub returns : goal.returns
returns c causes.Float = (0, lit< tt, refl)
returns c causes.Wide = (1, lit< tt, refl)
returns c causes.Store = (2, lit< tt, refl)
returns c causes.BadPercent = (3, lit< tt, refl)
returns c causes.BadLength = (4, lit< tt, refl)
returns c causes.Unknown = (5, lit< tt, refl)
returns c causes.TooWide = (6, lit< tt, refl)
returns c causes.Ends = (7, lit< tt, refl)
returns c causes.Nul = (8, lit< tt, refl)
returns c causes.TooManyArgs = (9, lit< tt, refl)
returns c causes.Long = (10, lit< tt, refl)
