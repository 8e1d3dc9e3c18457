-- What is written into a buffer.
use Rattle.std.proofs.Common.{◌≡◌, ℕ, ◌+◌, ◌≤◌, List, ◌++◌, length, take, drop, ap, sym, ◌∙◌, arith}
use Rattle.std.proofs.lemmas.List.{drop_at, drop-append-le, drop-drop, length-take-le, take-append-drop}
use Rattle.std.specs.Fmt.{decimal}
use Rattle.direct_printf.specs.LineWriters.{ShowsSecond}
use borrow.Rule.Slice.PartMut.{put_mid}

-- from the place on where bytes were written stand they, and what stood behind them
pub drop-put_mid_at : (start count end : ℕ) (old part bytes : List ℕ) → start ≤ length old → part ≡ bytes → start + count ≡ end → drop start (put_mid start count old part) ≡ bytes ++ drop end old
drop-put_mid_at start count end old part bytes inside part_is end_is =
    drop_at (take start old) _ start (length-take-le start old inside) ∙ ap (λ p. p ++ drop count (drop start old)) part_is ∙ ap (λ l. bytes ++ l) (drop-drop count start old ∙ ap (λ n. drop n old) end_is)

-- a text whose front is as it was shows the same second
pub shows_still : (second start : ℕ) (old new : List ℕ) → take 20 new ≡ take 20 old → ShowsSecond second start old → ShowsSecond second start new
shows_still second start old new same shows = (shows.0, ap (drop start) same ∙ shows.1)

-- the second, and what stands behind it
pub shown_text : (second start : ℕ) (text rest : List ℕ) → 20 ≤ length text → ShowsSecond second start text → drop 20 text ≡ rest → drop start text ≡ decimal second ++ rest
shown_text second start text rest long shows behind =
    ap (drop start) (sym (take-append-drop 20 text)) ∙ drop-append-le start (take 20 text) (drop 20 text) (omega (arith, shows.0, length-take-le 20 text long)) ∙ ap (λ l. l ++ drop 20 text) shows.1 ∙ ap (λ l. decimal second ++ l) behind
