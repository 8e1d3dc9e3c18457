-- What the names of a shelf hold.
use Rattle.std.specs.String.{string_bytes}
use Rattle.nl_io.specs.declared.shelf.Shelf.{Shelf}
use Rattle.nl_io.specs.Desk.{Held}
use Rattle.nl_io.specs.Tables.{as_map}

abbrev pub held_on : Shelf → Held
held_on shelf = as_map string_bytes (λ content. content.items) shelf.held.entries
