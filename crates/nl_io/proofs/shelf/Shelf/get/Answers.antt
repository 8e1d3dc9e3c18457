use Rattle.std.proofs.Common.{Some, ap, sym, ◌∙◌}
use Rattle.std.specs.Prelude.{option_map}
use Rattle.nl_io.proofs.Shelves.{get-texts}
use Rattle.nl_io.proofs.shelf.Shelf.get.Goals as goal

pub returns-in-Some : goal.returns-in-Some
returns-in-Some c = ap Some c.as_slice.ensures.value ∙ ap (option_map (λ content. content.items)) c.in-Some.ensures.value
    ∙ sym (get-texts (λ content. content.items) c.args.self.now.held c.args.name.now)

pub returns-in-None : goal.returns-in-None
returns-in-None c = ap (option_map (λ content. content.items)) c.in-None.ensures.value
    ∙ sym (get-texts (λ content. content.items) c.args.self.now.held c.args.name.now)
