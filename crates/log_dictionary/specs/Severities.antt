-- The names and the numbers of severities.
use Rattle.std.specs.Prelude.{ℕ, List, codes}
use Rattle.log_dictionary.specs.declared.severity.Severity.{Severity}
use Rattle.log_dictionary.specs.declared.severity.Severity.TheVariants.{Error, Warning, Notice, Debug}

-- the bytes of a severity's name
abbrev pub severity_name : Severity → List ℕ
severity_name Error = codes "ERROR"
severity_name Warning = codes "WARNING"
severity_name Notice = codes "NOTICE"
severity_name Debug = codes "DEBUG"

-- a severity's number: the graver, the smaller
abbrev pub severity_number : Severity → ℕ
severity_number Error = 1
severity_number Warning = 2
severity_number Notice = 3
severity_number Debug = 4
