use Rattle.std.proofs.Common.{◌≡◌, ◌≢◌, ◌++◌, [], refl, rules}
use Rattle.decompressor.proofs.Queued.{holds_none, none_held}
use Rattle.decompressor.proofs.Heads.{add_wants, add_some}
use Rattle.decompressor.proofs.showing.add_records.Goals as goal

pub show_first-requires : goal.show_first-requires
show_first-requires c =
    let none : c.args.queue.now.bodies ≡ [] = search rules in
    let (records, holds, is) = c.requires in
    add_wants c.args.merger.now c.args.writer records is (holds_none _ _ c.args.queue.now records holds none)

pub returns-then-was_empty : goal.returns-then-was_empty
returns-then-was_empty c records more last holds is body =
    let held = (rw (c.dictionary.ensures, c.header.ensures, c.body.ensures.same) at c.in_ok-push.ensures.ok) records more last holds body in
    (held, c.show_first.ensures _ _ (records ++ more) held)

pub returns-else-was_empty : goal.returns-else-was_empty
returns-else-was_empty c records more last holds is body =
    let some : c.args.queue.now.bodies ≢ [] = search rules in
    let held = (rw (c.dictionary.ensures, c.header.ensures, c.body.ensures.same) at c.in_ok-push.ensures.ok) records more last holds body in
    (held, add_some c.args.merger.now c.args.writer records more (records ++ more) is (λ none. some (none_held _ _ c.args.queue.now records holds none)) refl)
