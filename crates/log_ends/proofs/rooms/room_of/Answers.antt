use Rattle.std.proofs.Common.{arith}
use Rattle.log_ends.specs.Rooms.{definitions_len}
use Rattle.log_ends.proofs.Bounds.{one_more_definition}
use Rattle.log_ends.proofs.rooms.room_of.Goals as goal

pub loop-id-init : goal.loop-id-init
unfolding definitions_len
loop-id-init c = record { summed = omega arith; bounded = omega arith }

pub loop-id-preserved : goal.loop-id-preserved
loop-id-preserved c =
    let more = one_more_definition c.args.dictionary.now c.loop-id.id c.message.result.now c.message.ensures in record {
      summed = omega (arith, more, c.entry_len.ensures.len, c.loop-id.invariant.summed);
      bounded = omega (arith, c.entry_len.ensures.bound, c.loop-id.invariant.bounded);
    }
