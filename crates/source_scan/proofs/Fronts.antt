-- Lists as code parts them: a first item, and what stands behind it.
use Rattle.std.proofs.Common.{◌≡◌, ◌-◌, ◌<◌, ◌≤◌, List, [], ◌∷◌, length, take, drop, get_or, ap, sym, arith}
use Rattle.std.proofs.lemmas.List.{take_rest, nil_from_length}

-- what stands behind the first item
abbrev pub behind : {X : Type 0} → List X → List X
behind items = take (length items - 1) (drop 1 items)

pub front_and_behind : {X : Type 0} (items : List X) (d : X) → 1 ≤ length items → items ≡ get_or items 0 d ∷ behind items
front_and_behind [] d some = absurd (omega arith)
front_and_behind {X} (item ∷ items) d some = ap (λ (rest : List X). item ∷ rest) (sym (take_rest (item ∷ items) 1))

pub nothing : {X : Type 0} (items : List X) → length items < 1 → items ≡ []
nothing items none = nil_from_length items (omega (arith, none))
