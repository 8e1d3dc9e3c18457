use Rattle.std.proofs.Common.{ℕ, List, Some, IfOk, ◌≡◌, ◌∙◌, subst, string_bytes}
use Rattle.std.specs.FinMap as map
use Rattle.nl_io.specs.Readings.{left_of, left_in}
use Rattle.nl_io.proofs.Tables.{by_id-put, by_id-free}
use Rattle.nl_io.proofs.readings.open_copy.Goals as goal

pub returns-clause-unread : goal.returns-clause-unread
returns-clause-unread c = by_id-free (λ reading. Some (left_of reading)) c.insert_unused.result c.args.table.now c.insert_unused.ensures.here

pub returns-clause-unmade : goal.returns-clause-unmade
returns-clause-unmade c = by_id-free (λ name. Some (string_bytes name)) c.insert_unused.result c.args.made.now c.insert_unused.ensures.there

pub returns-clause-opened : goal.returns-clause-opened
returns-clause-opened c =
    subst (λ (bytes : List ℕ). IfOk c.insert_unused.result (λ id. left_in c.insert_unused.new.table ≡ map.insert (left_in c.args.table.now) id (Some bytes))) (c.new.ensures ∙ c.in_ok-bytes.ensures.items)
    (by_id-put (λ reading. Some (left_of reading)) c.insert_unused.result c.args.table.now c.insert_unused.new.table c.new.result c.insert_unused.ensures.inserted)
