use Rattle.std.proofs.Common.{ℕ, List, Some, IfOk, ◌≡◌, subst, string_bytes}
use Rattle.std.specs.FinMap as map
use Rattle.nl_io.specs.Readings.{left_of}
use Rattle.nl_io.specs.Titles.{titles_in}
use Rattle.nl_io.proofs.Tables.{by_id-put, by_id-free}
use Rattle.nl_io.proofs.titles.keep_title.Goals as goal

pub returns-clause-unmade : goal.returns-clause-unmade
returns-clause-unmade c = by_id-free (λ name. Some (string_bytes name)) c.insert_unused.result c.args.made.now c.insert_unused.ensures.here

pub returns-clause-unread : goal.returns-clause-unread
returns-clause-unread c = by_id-free (λ reading. Some (left_of reading)) c.insert_unused.result c.args.reading.now c.insert_unused.ensures.there

pub returns-clause-kept : goal.returns-clause-kept
returns-clause-kept c =
    subst (λ (name : List ℕ). IfOk c.insert_unused.result (λ id. titles_in c.insert_unused.new.table ≡ map.insert (titles_in c.args.made.now) id (Some name))) c.in_ok-title.ensures.ok
    (by_id-put (λ name. Some (string_bytes name)) c.insert_unused.result c.args.made.now c.insert_unused.new.table c.in_ok-title.title c.insert_unused.ensures.inserted)
