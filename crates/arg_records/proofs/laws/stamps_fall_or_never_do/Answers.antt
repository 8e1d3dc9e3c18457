use Rattle.arg_records.proofs.CallLaws.{falls}
use Rattle.arg_records.proofs.laws.stamps_fall_or_never_do.Goals as goal

pub returns-clause-falling : goal.returns-clause-falling
returns-clause-falling c = falls
