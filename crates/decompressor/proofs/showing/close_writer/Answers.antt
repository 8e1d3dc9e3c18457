use Rattle.std.proofs.Common.{◌≡◌, ◌≢◌, [], ◌∙◌, rules}
use Rattle.decompressor.proofs.Queued.{holds_none, none_held}
use Rattle.decompressor.proofs.Heads.{close_none, close_some}
use Rattle.decompressor.proofs.showing.close_writer.Goals as goal

pub returns-then-is_empty : goal.returns-then-is_empty
returns-then-is_empty c closed messages tick records holds is =
    let none : c.args.queue.now.bodies ≡ [] = search rules in
    c.close.ensures ∙ close_none c.args.merger.now c.args.writer closed records is (holds_none messages tick c.args.queue.now records holds none)

pub returns-else-is_empty : goal.returns-else-is_empty
returns-else-is_empty c closed messages tick records holds is =
    let some : c.args.queue.now.bodies ≢ [] = search rules in
    close_some c.args.merger.now c.args.writer closed records is (λ none. some (none_held messages tick c.args.queue.now records holds none))
