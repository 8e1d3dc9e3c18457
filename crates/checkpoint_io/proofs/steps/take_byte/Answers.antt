use Rattle.std.proofs.Common.{rules, ◌≤◌, length, take, sym, ◌∙◌, ap}
use Rattle.std.specs.Prelude.{slice_index_or}
use Rattle.checkpoint_io.proofs.StepLaws.{byte_first, byte_stands}
use Rattle.checkpoint_io.proofs.steps.take_byte.Goals as goal

pub returns-clause-read : goal.returns-clause-read
returns-clause-read g c =
    let some : 1 ≤ length c.bytes.result.now = search rules in
    let first = byte_first c.bytes.result.now some c.bytes.ensures.small in
    byte_stands (slice_index_or c.bytes.result.now 0 0) c.args.pending.now c.fill.new.self c.skip.new.self _ _ c.in_ok-fill.ensures.same c.fill.ensures.offset (ap (take 1) (sym c.bytes.ensures.same) ∙ first.0) first.1 c.skip.ensures.bytes c.skip.ensures.offset
