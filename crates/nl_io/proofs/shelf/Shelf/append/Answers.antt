use Rattle.std.proofs.Common.{rules}
use Rattle.nl_io.proofs.Shelves.{texts-appended, texts-kept, held_at-missing}
use Rattle.nl_io.proofs.shelf.Shelf.append.Goals as goal

pub returns-in-Some-clause-ok : goal.returns-in-Some-clause-ok
returns-in-Some-clause-ok c =
    texts-appended (λ content. content.items) c.extend_from_slice.result c.args.name.now c.args.bytes.now c.args.self.now.held (c.get_mut.follows.lender c.extend_from_slice.new.self) c.in-Some.content.now c.extend_from_slice.new.self
    c.in-Some.ensures.value ((c.get_mut.follows.holds c.extend_from_slice.new.self).3 (search rules)) c.extend_from_slice.ensures.items

pub returns-in-Some-clause-err : goal.returns-in-Some-clause-err
returns-in-Some-clause-err c =
    texts-kept (λ content. content.items) c.extend_from_slice.result c.args.name.now c.args.bytes.now c.args.self.now.held (c.get_mut.follows.lender c.extend_from_slice.new.self) c.in-Some.content.now c.extend_from_slice.new.self
    c.in-Some.ensures.value ((c.get_mut.follows.holds c.extend_from_slice.new.self).3 (search rules)) c.extend_from_slice.ensures.items

pub returns-in-None-clause-ok : goal.returns-in-None-clause-ok
returns-in-None-clause-ok c =
    let nothing = held_at-missing (λ content. content.items) c.args.name.now c.args.self.now.held c.in-None.ensures.value in
    rw nothing (rw c.get_mut.follows.holds-at-none at c.put.ensures.ok)
