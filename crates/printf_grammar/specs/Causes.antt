-- The names of the causes for which bytes are no format.
use Rattle.std.specs.Prelude.{ℕ, List, codes}
use Rattle.printf_grammar.specs.declared.fault.FormatCause.{FormatCause}
use Rattle.printf_grammar.specs.declared.fault.FormatCause.TheVariants as causes

abbrev pub cause_name : FormatCause → List ℕ
cause_name causes.Float = codes "Float"
cause_name causes.Wide = codes "Wide"
cause_name causes.Store = codes "Store"
cause_name causes.BadPercent = codes "BadPercent"
cause_name causes.BadLength = codes "BadLength"
cause_name causes.Unknown = codes "Unknown"
cause_name causes.TooWide = codes "TooWide"
cause_name causes.Ends = codes "Ends"
cause_name causes.Nul = codes "Nul"
cause_name causes.TooManyArgs = codes "TooManyArgs"
cause_name causes.Long = codes "Long"
