use Rattle.ring_core.proofs.lemmas.DictionaryCalls.{IsCall-from_IsPlanned, IsPlanned-from_IsCall}
use Rattle.ring_core.proofs.laws.planned_calls_are_calls_of_the_messages.Goals as goal

pub returns-clause-only : goal.returns-clause-only
returns-clause-only c = IsCall-from_IsPlanned

pub returns-clause-all : goal.returns-clause-all
returns-clause-all c = IsPlanned-from_IsCall
