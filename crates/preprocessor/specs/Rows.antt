-- Worked refusals.
use Rattle.std.specs.Prelude.{ℕ, codes}
use Rattle.source_scan.specs.declared.found.StatementCause.{StatementCause}
use Rattle.preprocessor.specs.declared.refusal.SourceRefusal.{SourceRefusal}
use Rattle.preprocessor.specs.declared.refusal.RefusalCause.TheVariants as causes

-- a bad statement in this line of `h.h`
abbrev pub refused_in : ℕ → StatementCause → SourceRefusal
refused_in line cause = record { file = codes "h.h"; line = line; cause = causes.Statement cause }
