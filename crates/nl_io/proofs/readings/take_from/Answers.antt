use Rattle.std.proofs.Common.{ℕ, List, Some, ◌∙◌, ap, sym, subst, take, rules, min, length, ◌≡◌}
use Rattle.std.specs.Option.{option_copied_mut}
use Rattle.std.specs.FinMap as map
use Rattle.nl_io.specs.Content.{Told, without_front, IsFront, IsAtEnd}
use Rattle.nl_io.specs.Readings.{left_of, left_in}
use Rattle.nl_io.proofs.Tables.{by_id-has, by_id-content, by_id-insert, found_mut}
use Rattle.nl_io.proofs.readings.take_from.Goals as goal

pub unwrap-reading-requires : goal.unwrap-reading-requires
unwrap-reading-requires c = found_mut c.get_mut.result _ c.get_mut.ensures.value (by_id-has (λ reading. Some (left_of reading)) c.args.table.now c.args.id c.requires.reading)

pub returns-clause-front : goal.returns-clause-front
returns-clause-front c = λ content is.
    let found = sym c.get_mut.ensures.value ∙ ap option_copied_mut c.unwrap-reading.ensures in
    let told = by_id-content (λ reading. Some (left_of reading)) c.args.table.now c.args.id c.unwrap-reading.result.now content found is in
    subst (IsFront c.take.result (take c.take.result c.take.new.into)) (sym told) (c.take.ensures.there, c.take.ensures.front)

pub returns-clause-moved : goal.returns-clause-moved
returns-clause-moved c = λ content is.
    let found = sym c.get_mut.ensures.value ∙ ap option_copied_mut c.unwrap-reading.ensures in
    let told = by_id-content (λ reading. Some (left_of reading)) c.args.table.now c.args.id c.unwrap-reading.result.now content found is in
    by_id-insert (λ reading. Some (left_of reading)) c.args.table.now (c.get_mut.follows.lender c.take.new.self) c.args.id c.take.new.self ((c.get_mut.follows.holds c.take.new.self).3 (search rules))
    ∙ ap (λ (left : List ℕ). map.insert (left_in c.args.table.now) c.args.id (Some left)) c.take.ensures.moved
    ∙ ap (λ (left : Told). map.insert (left_in c.args.table.now) c.args.id (without_front c.take.result left)) (sym told)

pub returns-clause-end : goal.returns-clause-end
returns-clause-end c = λ content is none room.
    let found = sym c.get_mut.ensures.value ∙ ap option_copied_mut c.unwrap-reading.ensures in
    let told = by_id-content (λ reading. Some (left_of reading)) c.args.table.now c.args.id c.unwrap-reading.result.now content found is in
    subst IsAtEnd (sym told) (c.take.ensures.end c.requires.moves none room)

pub returns-clause-amount : goal.returns-clause-amount
returns-clause-amount c = λ left is.
    let found = sym c.get_mut.ensures.value ∙ ap option_copied_mut c.unwrap-reading.ensures in
    let told = by_id-content (λ reading. Some (left_of reading)) c.args.table.now c.args.id c.unwrap-reading.result.now (Some left) found is in
    let same : left ≡ left_of c.unwrap-reading.result.now = cc in
    c.take.ensures.amount ∙ ap (λ (bytes : List ℕ). min (min c.args.most (length bytes)) (length c.args.into.now)) (sym same)
