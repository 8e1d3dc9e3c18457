use Rattle.std.proofs.Common.{◌≡◌, ℕ, ◌≤◌, ◌-◌, List, ◌∷◌, length, drop, sym, ap, subst, ◌∙◌}
use Rattle.buffer_extent.specs.Reading.{header_of, head_at}
use Rattle.buffer_extent.specs.Bodies.{IsBody, GoesOn}
use Rattle.decompressor.specs.Waiting.{QueueState}
use Rattle.decompressor.proofs.Queued.{front_of, first_same, head_read, head_not_refused, rest_whole}
use Rattle.decompressor.proofs.queue.RecordQueue.read_head.Goals as goal

pub slice_bounds-unpack_head-count : goal.slice_bounds-unpack_head-count
slice_bounds-unpack_head-count c =
    let front = front_of c.self.inside.bodies c.in-Some.body.now c.in-Some.ensures.some in
    c.requires c.in-Some.body.now front.0 (sym (ap (λ (q : QueueState). q.bodies) c.self.view_is) ∙ front.1)

pub slice_bounds-unpack_head-start : goal.slice_bounds-unpack_head-start
slice_bounds-unpack_head-start c =
    let front = front_of c.self.inside.bodies c.in-Some.body.now c.in-Some.ensures.some in
    c.requires c.in-Some.body.now front.0 (sym (ap (λ (q : QueueState). q.bodies) c.self.view_is) ∙ front.1)

pub returns-in_default-unpack_head-clause-read : goal.returns-in_default-unpack_head-clause-read
returns-in_default-unpack_head-clause-read c body bodies first own last there is =
    let front = front_of c.self.inside.bodies c.in-Some.body.now c.in-Some.ensures.some in
    let same = (first_same c.args.self.now.bodies c.in-Some.body.now body front.0 bodies (sym (ap (λ (q : QueueState). q.bodies) c.self.view_is) ∙ front.1) there).0 in
    absurd (head_not_refused c.args.dictionary.now c.args.before last c.args.place c.in-Some.body.now first own _ c.in-Some.ensures.small
    (subst (λ (b : List ℕ). IsBody c.args.dictionary.now c.args.before last (first ∷ own) (drop c.args.place b)) (sym same) is)
    (ap (head_at (length c.args.dictionary.now) c.args.before 0) (sym (rest_whole c.args.place c.in-Some.body.now)) ∙ c.in_default-unpack_head.ensures))

pub returns-clause-read : goal.returns-clause-read
returns-clause-read c body bodies first own last there is =
    let front = front_of c.self.inside.bodies c.in-Some.body.now c.in-Some.ensures.some in
    let shown = sym (ap (λ (q : QueueState). q.bodies) c.self.view_is) ∙ front.1 in
    let same = (first_same c.args.self.now.bodies c.in-Some.body.now body front.0 bodies shown there).0 in
    let place = length c.in-Some.body.now - length c.in-Ok.rest.now in
    subst (λ (b : List ℕ). IsBody c.args.dictionary.now c.args.before last (first ∷ own) (drop c.args.place b) → (c.in-Ok.head ≡ header_of first) × (place ≤ length b) × GoesOn c.args.dictionary.now first own (drop place b)) same
    (λ body_is. head_read c.args.dictionary.now c.args.before last c.args.place c.in-Some.body.now c.in-Ok.rest.now first own c.in-Ok.head c.in-Some.ensures.small (c.requires c.in-Some.body.now front.0 shown) body_is
    (ap (head_at (length c.args.dictionary.now) c.args.before 0) (sym (rest_whole c.args.place c.in-Some.body.now)) ∙ c.in-Ok.ensures)) is
