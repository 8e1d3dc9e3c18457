use Rattle.source_scan.proofs.WorkedCauses.{unclosed, file_name, severity, not_literal, format, too_few}
use Rattle.source_scan.proofs.laws.worked_causes.Goals as goal

pub returns-clause-unclosed : goal.returns-clause-unclosed
returns-clause-unclosed c = unclosed

pub returns-clause-file_name : goal.returns-clause-file_name
returns-clause-file_name c = file_name

pub returns-clause-severity : goal.returns-clause-severity
returns-clause-severity c = severity

pub returns-clause-not_literal : goal.returns-clause-not_literal
returns-clause-not_literal c = not_literal

pub returns-clause-format : goal.returns-clause-format
returns-clause-format c = format

pub returns-clause-too_few : goal.returns-clause-too_few
returns-clause-too_few c = too_few
