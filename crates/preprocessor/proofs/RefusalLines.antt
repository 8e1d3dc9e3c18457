-- The lines on what is refused.
use Rattle.std.proofs.Common.{◌≡◌, ℕ, ◌+◌, ◌<◌, ◌≤◌, List, [], ◌∷◌, ◌++◌, length, take, get_or, sym, ap, ◌∙◌}
use Rattle.std.specs.List.{flat_map}
use Rattle.std.proofs.lemmas.Grind.{flat_map-append}
use Rattle.std.proofs.lemmas.List.{take_all, take_more, append-nil}
use Rattle.preprocessor.specs.declared.refusal.SourceRefusal.{SourceRefusal}
use Rattle.preprocessor.specs.Causes.{refusal_line}

-- one line more
pub lines_more : (refusals : List SourceRefusal) (i : ℕ) (refusal : SourceRefusal) (before after : List ℕ) → i < length refusals → refusal ≡ get_or refusals i refusal
    → before ≡ flat_map refusal_line (take i refusals) → after ≡ before ++ refusal_line refusal → after ≡ flat_map refusal_line (take (i + 1) refusals)
lines_more refusals i refusal before after within is so_far more =
    more
    ∙ ap (λ (r : SourceRefusal). before ++ refusal_line r) is
    ∙ ap (λ (lines : List ℕ). lines ++ refusal_line (get_or refusals i refusal)) so_far
    ∙ ap (λ (lines : List ℕ). flat_map refusal_line (take i refusals) ++ lines) (sym (append-nil (refusal_line (get_or refusals i refusal))))
    ∙ sym (flat_map-append refusal_line (take i refusals) (get_or refusals i refusal ∷ []))
    ∙ ap (flat_map refusal_line) (sym (take_more refusals i refusal within))

-- all lines
pub lines_all : (refusals : List SourceRefusal) (i : ℕ) (lines : List ℕ) → length refusals ≤ i → lines ≡ flat_map refusal_line (take i refusals) → lines ≡ flat_map refusal_line refusals
lines_all refusals i lines past so_far = so_far ∙ ap (flat_map refusal_line) (take_all i refusals past)
