use Rattle.std.proofs.Common.{arith}
use Rattle.trace_session.proofs.laws.a_dropped_call_would_overfill_its_ring.Goals as goal

pub returns : goal.returns
returns c = λ run level words drops lawful k e within.
    let lacked = (lawful.lawful k e within).lacked in
    omega (arith, lacked.wanting, lacked.room, lacked.taken)
