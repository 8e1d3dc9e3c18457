use Rattle.std.proofs.Common.{◌≡◌, ℕ, ◌+◌, List, ◌++◌, length, drop, sym, ap, ◌∙◌, append_assoc, drop-drop, arith}
use Rattle.std.proofs.lemmas.List.{drop-append-le, drop_all}
use Rattle.log_ends.proofs.laws.parts_follow_one_another.Goals as goal

-- what is left behind some items and those behind them
dropped_twice : {A : Type 0} (count : ℕ) (first rest all : List A) → drop count all ≡ first ++ rest → drop (count + length first) all ≡ rest
dropped_twice count first rest all is =
    sym (drop-drop (length first) count all) ∙ ap (drop (length first)) is ∙ drop-append-le (length first) first rest (omega arith)
    ∙ ap (λ front. front ++ rest) (drop_all (length first) first (omega arith))

pub returns-clause-joined : goal.returns-clause-joined
returns-clause-joined c = λ logged later first second earlier within (rest, parted) (more, longer) (last, behind).
    let whole : drop earlier later ≡ first ++ (rest ++ more) =
    ap (drop earlier) longer ∙ drop-append-le earlier logged more within ∙ ap (λ (front : List (List ℕ)). front ++ more) parted ∙ append_assoc first rest more in
    let left : rest ++ more ≡ second ++ last = sym (dropped_twice earlier first (rest ++ more) later whole) ∙ behind in
    (last, whole ∙ ap (λ (back : List (List ℕ)). first ++ back) left ∙ sym (append_assoc first second last))
