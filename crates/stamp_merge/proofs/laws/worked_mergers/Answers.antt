use Rattle.std.proofs.Common.{◌∷◌, [], refl}
use Rattle.std.specs.Prelude.{All}
use Rattle.std.proofs.lemmas.List.Elements.{All-from_recursion}
use Rattle.stamp_merge.specs.Ordering.{insert_by, in_order_by}
use Rattle.stamp_merge.specs.Mergers.{IsSpent, no_list}
use Rattle.stamp_merge.proofs.Winners.{none_wants}
use Rattle.stamp_merge.proofs.laws.worked_mergers.Goals as goal

all_spent : All IsSpent (no_list ∷ no_list ∷ no_list ∷ [])
all_spent = All-from_recursion IsSpent (no_list ∷ no_list ∷ no_list ∷ []) ((refl, refl), ((refl, refl), ((refl, refl), tt)))

pub returns : goal.returns
unfolding insert_by in_order_by
returns c =
    record {
      asked = search (none_wants, all_spent) depth 40;
      unasked = search (none_wants, all_spent) depth 40;
    }
