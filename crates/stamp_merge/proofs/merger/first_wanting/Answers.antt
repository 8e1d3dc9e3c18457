use Rattle.std.proofs.Common.{◌≡◌, true, length, sym, ◌∙◌, ap, arith}
use Rattle.std.proofs.lemmas.List.{get_or_default}
use Rattle.std.proofs.lemmas.List.Sums.{position_or_len_is}
use Rattle.stamp_merge.specs.Mergers.{no_list, wants, list_at}
use Rattle.stamp_merge.proofs.merger.first_wanting.Goals as goal

pub returns-then-wants : goal.returns-then-wants
returns-then-wants c =
    let lists = c.args.lists.now in
    let place = c.loop-place.place in
    let want : wants (list_at lists place) ≡ true = ap wants (get_or_default lists place no_list _ c.loop-place-test.true) ∙ sym c.wants.ensures ∙ c.if-wants.true in
    sym (position_or_len_is wants lists place no_list (omega arith) c.loop-place.invariant (λ _. want))

pub returns : goal.returns
returns c =
    let lists = c.args.lists.now in
    sym (position_or_len_is wants lists (length lists) no_list (omega arith) (λ k below. c.loop-place.invariant k (omega arith)) (λ past. absurd (omega arith)))
