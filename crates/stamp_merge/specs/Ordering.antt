-- Elements put in order.
use Rattle.std.specs.Prelude.{Bool, if◌then◌else◌, List, [], ◌∷◌}

-- an element put at its place in a list that is in order: behind the elements that come before it
unfoldable pub insert_by : {X : Type 0} → (X → X → Bool) → X → List X → List X
insert_by before x [] = x ∷ []
insert_by before x (y ∷ ys) = if before y x then y ∷ insert_by before x ys else x ∷ y ∷ ys

-- the elements in order: each is inserted into one list at its place
unfoldable pub in_order_by : {X : Type 0} → (X → X → Bool) → List X → List X
in_order_by before [] = []
in_order_by before (x ∷ xs) = insert_by before x (in_order_by before xs)
