-- Sources that are rewritten head by head.
use Rattle.std.proofs.Common.{◌≡◌, ℕ, ◌+◌, ◌<◌, ◌≤◌, List, ◌++◌, length, drop, get_or, sym, subst, ap, ◌∙◌, append_assoc}
use Rattle.std.proofs.lemmas.List.{drop_more, drop_all}
use Rattle.code_inject.specs.declared.rewrite.Rewrite.{Rewrite}
use Rattle.code_inject.specs.Rewrites.{rewritten_head, rewritten_from, HeadsFrom}

-- the next head, and the others
pub next_head : (rewrites : List Rewrite) (i : ℕ) (d : Rewrite) (from to : ℕ) → i < length rewrites → HeadsFrom from (drop i rewrites) to
    → (from ≤ (get_or rewrites i d).start) × ((get_or rewrites i d).start < (get_or rewrites i d).head) × HeadsFrom (get_or rewrites i d).head (drop (i + 1) rewrites) to
next_head rewrites i d from to within heads = subst (λ (l : List Rewrite). HeadsFrom from l to) (drop_more rewrites i d within) heads

-- what was appended to what was appended
pub appended_again : (old now more new : List ℕ) → (front : List ℕ) × (now ≡ old ++ front) → new ≡ now ++ more → (front : List ℕ) × (new ≡ old ++ front)
appended_again old now more new (front, is) again = (front ++ more, again ∙ ap (λ (l : List ℕ). l ++ more) is ∙ append_assoc old front more)

-- what was appended and is to come, with the next head appended
pub head_appended : (source now new : List ℕ) (rewrites : List Rewrite) (i : ℕ) (d : Rewrite) (from : ℕ) (whole : List ℕ) → i < length rewrites → new ≡ now ++ rewritten_head source from (get_or rewrites i d)
    → now ++ rewritten_from source from (drop i rewrites) ≡ whole → new ++ rewritten_from source (get_or rewrites i d).head (drop (i + 1) rewrites) ≡ whole
unfolding rewritten_from
head_appended source now new rewrites i d from whole within is all =
    ap (λ (l : List ℕ). l ++ rewritten_from source (get_or rewrites i d).head (drop (i + 1) rewrites)) is
    ∙ append_assoc now _ _ ∙ ap (λ (l : List Rewrite). now ++ rewritten_from source from l) (sym (drop_more rewrites i d within)) ∙ all

-- behind the last head
pub rest_appended : (source now new : List ℕ) (rewrites : List Rewrite) (i from : ℕ) (whole : List ℕ) → length rewrites ≤ i → new ≡ now ++ drop from source → now ++ rewritten_from source from (drop i rewrites) ≡ whole → new ≡ whole
unfolding rewritten_from
rest_appended source now new rewrites i from whole past is all =
    is ∙ ap (λ (l : List Rewrite). now ++ rewritten_from source from l) (sym (drop_all i rewrites past)) ∙ all
