-- The parts of a literal, taken one by one.
use Rattle.std.proofs.Common.{◌≡◌, ℕ, zero, suc, ◌<◌, ◌≤◌, List, [], ◌∷◌, ◌++◌, length, drop, get_or, Option, Some, None, refl, sym, ap, ◌∙◌, append_assoc}
use Rattle.std.specs.Option.{option_map}
use Rattle.source_scan.specs.declared.escape.Meaning.{Meaning}
use Rattle.source_scan.specs.Escapes.{meaning_bytes, part_of, joined_part, unescaped_behind, unescaped_literal}
use Rattle.std.proofs.lemmas.List.{append-nil}
use Rattle.source_tokens.proofs.lemmas.Passing.{back_of, first_and_back, nothing_there}

-- the bytes of an escape may be passed at once
pub behind-drop : (own : ℕ) (bytes : List ℕ) → unescaped_behind own bytes ≡ unescaped_literal (drop own bytes)
unfolding unescaped_behind
behind-drop zero bytes = refl
behind-drop (suc own) [] = refl
behind-drop (suc own) (byte ∷ bytes) = behind-drop own bytes

-- a part at the front
part-front : (first : ℕ) (behind : List ℕ) (meaning : Meaning) (len : ℕ) → part_of first behind ≡ Some (meaning, len)
    → unescaped_literal (first ∷ behind) ≡ option_map (λ (more : List ℕ). meaning_bytes meaning ++ more) (unescaped_literal (drop len behind))
unfolding unescaped_behind
part-front first behind meaning len part = ap (λ (one : Option (Meaning × ℕ)). joined_part one (λ own. unescaped_behind own behind)) part ∙ (ap (option_map (λ (more : List ℕ). meaning_bytes meaning ++ more)) (behind-drop len behind))

wrong-front : (first : ℕ) (behind : List ℕ) → part_of first behind ≡ None → unescaped_literal (first ∷ behind) ≡ None
unfolding unescaped_behind
wrong-front first behind part = ap (λ (one : Option (Meaning × ℕ)). joined_part one (λ own. unescaped_behind own behind)) part

pub option_map-append : (items front : List ℕ) (more : Option (List ℕ)) → option_map (λ (more : List ℕ). items ++ more) (option_map (λ (more : List ℕ). front ++ more) more) ≡ option_map (λ (more : List ℕ). (items ++ front) ++ more) more
option_map-append items front None = refl
option_map-append items front (Some more) = ap Some (sym (append_assoc items front more))

-- one part more was taken
pub part-more : (body items rest : List ℕ) (meaning : Meaning) (len : ℕ) → 1 ≤ length rest → unescaped_literal body ≡ option_map (λ (more : List ℕ). items ++ more) (unescaped_literal rest) → part_of (get_or rest 0 0) (back_of rest) ≡ Some (meaning, len)
    → unescaped_literal body ≡ option_map (λ (more : List ℕ). (items ++ meaning_bytes meaning) ++ more) (unescaped_literal (drop len (back_of rest)))
part-more body items rest meaning len some goes part =
    goes ∙ ap (λ (front : List ℕ). option_map (λ (more : List ℕ). items ++ more) (unescaped_literal front)) (first_and_back rest some)
    ∙ ap (option_map (λ (more : List ℕ). items ++ more)) (part-front (get_or rest 0 0) (back_of rest) meaning len part)
    ∙ option_map-append items (meaning_bytes meaning) (unescaped_literal (drop len (back_of rest)))

-- what follows is no part
pub part-wrong : (body items rest : List ℕ) → 1 ≤ length rest → unescaped_literal body ≡ option_map (λ (more : List ℕ). items ++ more) (unescaped_literal rest) → part_of (get_or rest 0 0) (back_of rest) ≡ None → unescaped_literal body ≡ None
part-wrong body items rest some goes part =
    goes ∙ ap (λ (front : List ℕ). option_map (λ (more : List ℕ). items ++ more) (unescaped_literal front)) (first_and_back rest some)
    ∙ ap (option_map (λ (more : List ℕ). items ++ more)) (wrong-front (get_or rest 0 0) (back_of rest) part)

-- nothing follows
pub parts-all : (body items rest : List ℕ) → length rest < 1 → unescaped_literal body ≡ option_map (λ (more : List ℕ). items ++ more) (unescaped_literal rest) → Some items ≡ unescaped_literal body
unfolding unescaped_behind
parts-all body items rest none goes =
    sym (goes ∙ ap (λ (front : List ℕ). option_map (λ (more : List ℕ). items ++ more) (unescaped_literal front)) (nothing_there rest none) ∙ ap Some (append-nil items))
