use Rattle.std.proofs.Common.{◌≡◌, ℕ, List, [], ◌∷◌, None, refl, sym, ◌∙◌}
use Rattle.buffer_extent.specs.declared.take.RecordHeader.{RecordHeader}
use Rattle.decompressor.specs.Waiting.{first_of}
use Rattle.decompressor.proofs.Queued.{holds_none}
use Rattle.decompressor.proofs.Heads.{shown_some, shown_closed, shown_open}
use Rattle.decompressor.proofs.showing.show_first.Goals as goal

pub returns-in-Some : goal.returns-in-Some
returns-in-Some c messages tick records holds =
    c.push.ensures
    ∙ shown_some c.args.merger.now c.args.writer c.args.closed records messages tick c.args.queue.now c.in-Some.stamp c.requires holds (sym c.first_stamp.ensures ∙ c.in-Some.is)

no_bodies : (bodies : List (List ℕ)) (head : RecordHeader) → first_of bodies head ≡ None → bodies ≡ []
no_bodies [] head is = refl
no_bodies (body ∷ bodies) head is = absurd cc

pub returns-then-closed : goal.returns-then-closed
returns-then-closed c messages tick records holds =
    let none = holds_none messages tick c.args.queue.now records holds (no_bodies c.args.queue.now.bodies c.args.queue.now.head (sym c.first_stamp.ensures ∙ c.in-None.is)) in
    c.close.ensures ∙ shown_closed c.args.merger.now c.args.writer c.args.closed records c.if-closed.true c.requires none

pub returns-else-closed : goal.returns-else-closed
returns-else-closed c messages tick records holds =
    let none = holds_none messages tick c.args.queue.now records holds (no_bodies c.args.queue.now.bodies c.args.queue.now.head (sym c.first_stamp.ensures ∙ c.in-None.is)) in
    shown_open c.args.merger.now c.args.writer c.args.closed records c.if-closed.false c.requires none
