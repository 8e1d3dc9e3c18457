-- The line on a number, in pieces.
use Rattle.std.proofs.Common.{◌≡◌, ℕ, List, [], ◌∷◌, ◌++◌, ap, ◌∙◌, codes, append_assoc, append-nil}
use Rattle.std.specs.Fmt.{decimal}
use Rattle.std.specs.List.{concat}
use Rattle.dictionary_commands.specs.Heading.{count_text}

joined : (counted space digits feed : List ℕ) → concat (counted ∷ space ∷ digits ∷ feed ∷ []) ≡ counted ++ space ++ digits ++ feed
joined counted space digits feed = simp (append_assoc, append-nil)

pub count_pieces : (counted : List ℕ) (count : ℕ) (digits : List ℕ) → digits ≡ decimal count → concat (counted ∷ codes " " ∷ digits ∷ codes "\n" ∷ []) ≡ count_text counted count
count_pieces counted count digits are = joined counted (codes " ") digits (codes "\n") ∙ ap (λ (d : List ℕ). counted ++ codes " " ++ d ++ codes "\n") are
