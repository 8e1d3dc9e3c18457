use Rattle.arg_records.proofs.CallLaws.{texts_are_call, unfit}
use Rattle.arg_records.proofs.laws.calls_fit_their_messages.Goals as goal

pub returns-clause-within : goal.returns-clause-within
returns-clause-within c = texts_are_call

pub returns-clause-unfit : goal.returns-clause-unfit
returns-clause-unfit c = unfit
