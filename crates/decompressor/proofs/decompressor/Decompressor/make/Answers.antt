use Rattle.std.proofs.Common.{[]}
use Rattle.decompressor.proofs.decompressor.Decompressor.make.Goals as goal

pub invariant_of-result : goal.invariant_of-result
invariant_of-result g c =
    let (taken, printed, none, left) = c.in_ok-printer.ensures.ok in
    λ open_yet. (taken, [], printed)
