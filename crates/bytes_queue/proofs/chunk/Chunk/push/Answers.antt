use Rattle.std.proofs.Common.{◌≡◌, ◌++◌, ◌∷◌, [], length, arith, length-append}
use Rattle.bytes_queue.proofs.Strings.{left_more, right_more}
use Rattle.bytes_queue.proofs.chunk.Chunk.push.Goals as goal

pub invariant_of-self-2 : goal.invariant_of-self-2
invariant_of-self-2 c =
    let self = c.self.inside in
    let more : c.push_reserved.new.self.items ≡ self.lens.items ++ length c.args.bytes.now ∷ [] = cc (c.push_reserved.ensures.items, c.in_ok-reserve.ensures.items) in
    rw (more, c.in_ok-extend_from_slice.ensures.items) (
      omega (arith, c.self.invariant.0, length-append self.lens.items (length c.args.bytes.now ∷ [])),
      right_more self.next self.start self.lens.items self.bytes.items c.args.bytes.now c.self.invariant.0 c.self.invariant.1,
    )

pub returns-clause-ok : goal.returns-clause-ok
returns-clause-ok c =
    let self = c.self.inside in
    let more : c.push_reserved.new.self.items ≡ self.lens.items ++ length c.args.bytes.now ∷ [] = cc (c.push_reserved.ensures.items, c.in_ok-reserve.ensures.items) in
    rw (more, c.in_ok-extend_from_slice.ensures.items, ← c.self.view_is)
    (left_more self.next self.start self.lens.items self.bytes.items c.args.bytes.now c.self.invariant.0 c.self.invariant.1)
