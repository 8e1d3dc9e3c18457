use Rattle.direct_printf.proofs.lemmas.Sorting.{call_order}
use Rattle.decompressor.proofs.Settled.{settled_upto}
use Rattle.decompressor.proofs.laws.settled_calls_stand_first.Goals as goal

pub returns : goal.returns
returns c header blocks call first settled earlier = settled_upto header blocks call first (call_order.one_way first call earlier) settled
