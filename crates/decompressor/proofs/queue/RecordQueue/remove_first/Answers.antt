use Rattle.std.proofs.Common.{◌-◌, length, drop, ap, ◌∙◌, arith}
use Rattle.decompressor.specs.Waiting.{QueueState}
use Rattle.decompressor.proofs.Queued.{front_of, first_same, next_of_body, next_body}
use Rattle.decompressor.proofs.queue.RecordQueue.remove_first.Goals as goal

pub returns-then-left-gt0 : goal.returns-then-left-gt0
returns-then-left-gt0 c first others holds left =
    let shown = front_of c.self.inside.bodies c.in-Some.body.now c.in-Some.ensures.some in
    let same = (first_same c.self.inside.bodies c.in-Some.body.now holds.body shown.0 holds.bodies shown.1 (ap (λ (q : QueueState). q.bodies) c.self.view_is ∙ holds.bodies_are)).0 in
    next_of_body c.args.dictionary.now c.args.base holds c.read_head-then-left-gt0.new.self _ _ c.read_head-then-left-gt0.ensures.bodies (omega (arith, c.if-left-gt0.true, left)) (ap (λ (q : QueueState). q.head.stamp) c.read_head.view_is) (λ i. length (same i) - left i) c.read_head-then-left-gt0.ensures.read

pub returns-else-left-gt0 : goal.returns-else-left-gt0
returns-else-left-gt0 c first others holds left =
    let less = c.remove_first.ensures ∙ ap (λ (q : QueueState). drop 1 q.bodies) c.self.view_is in
    next_body c.args.dictionary.now c.args.base holds c.read_head-else-left-gt0.new.self (c.read_head-else-left-gt0.ensures.bodies ∙ less) (omega (arith, c.if-left-gt0.false, left))
    (λ body bodies next own last there. c.read_head-else-left-gt0.ensures.read body bodies next own last (less ∙ there))
