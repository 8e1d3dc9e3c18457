use Rattle.std.proofs.Common.{ap, ◌∙◌, string_bytes}
use Rattle.std.specs.FinMap as map
use Rattle.nl_io.specs.Shelves.{held_on}
use Rattle.nl_io.proofs.Shelves.{texts-put}
use Rattle.nl_io.proofs.shelf.Shelf.put.Goals as goal

pub returns-clause-ok : goal.returns-clause-ok
returns-clause-ok c =
    texts-put (λ content. content.items) (string_bytes c.in_ok-key.key) c.args.self.now.held c.insert.new.self c.in_ok-bytes.bytes c.in_ok-insert.ensures.updates
    ∙ ap (λ name. map.insert (held_on c.args.self.now) name c.in_ok-bytes.bytes.items) c.in_ok-key.ensures.ok
    ∙ ap (λ bytes. map.insert (held_on c.args.self.now) c.args.name.now bytes) c.in_ok-bytes.ensures.items
