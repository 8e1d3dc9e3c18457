-- The clocks that a stamp has reached and that aren't written, and the bytes of clocks.
use Rattle.std.proofs.Common.{◌≡◌, ℕ, zero, suc, ◌+◌, ◌-◌, ◌<◌, ◌≤◌, Bool, true, false, not, cond, List, [], ◌∷◌, ◌++◌, length, get_or, take, drop, Some, refl, sym, ap, subst, ◌∙◌, append_assoc, append-nil, arith}
use Rattle.std.specs.Prelude.{All, Result, IsErr, nat_le, max, filter, slice_get}
use Rattle.std.specs.List.{flat_map}
use Rattle.std.specs.List.Sorted.{IsPartitionPoint}
use Rattle.std.proofs.lemmas.Bool.{le-leb, lt-leb}
use Rattle.std.proofs.lemmas.List.{take_more, take-append-drop, get_or-drop, drop_all, length-drop, take_all}
use Rattle.std.proofs.lemmas.List.Elements.{All-get_or}
use Rattle.std.proofs.lemmas.List.Filters.{length-filter_both}
use Rattle.std.proofs.lemmas.Option.{slice_get_within, get_or_from_slice_get}
use Rattle.std.proofs.lemmas.Grind.{flat_map-append}
use Rattle.nl_io.specs.Count.{Rose}
use Rattle.nl_io.specs.Content.{Told, with_end, PutsFront}
use Rattle.nl_io.proofs.lemmas.Contents.{with_end-both}
use Rattle.log_dictionary.specs.declared.clock.Clock.{Clock}
use Rattle.checkpoint_io.specs.Blocks.{clock_bytes}
use Rattle.roaming_consumer.specs.Growth.{due_clocks, clocks_bytes}
use Rattle.roaming_consumer.specs.Sinks.{Sends}
use Rattle.roaming_consumer.proofs.lemmas.Sending.{sends_then, sends_stop}

-- ---- which they are

-- the first ones of a list pass, and the others don't
filter_front : {X : Type 0} (p : X → Bool) (xs : List X) (n : ℕ) → ((k : ℕ) (d : X) → k < n → k < length xs → p (get_or xs k d) ≡ true) → ((k : ℕ) (d : X) → n ≤ k → k < length xs → p (get_or xs k d) ≡ false) → filter p xs ≡ take n xs
filter_front p [] zero front back = refl
filter_front p [] (suc n) front back = refl
filter_front p (x ∷ xs) zero front back =
    ap (λ (b : Bool). cond b (x ∷ filter p xs) (filter p xs)) (back 0 x (omega arith) (omega arith))
    ∙ filter_front p xs zero (λ k d below within. absurd (omega (arith, below))) (λ k d after within. back (suc k) d (omega arith) (omega (arith, within)))
filter_front p (x ∷ xs) (suc n) front back =
    ap (λ (b : Bool). cond b (x ∷ filter p xs) (filter p xs)) (front 0 x (omega arith) (omega arith))
    ∙ ap (λ (l : List _). x ∷ l) (filter_front p xs n (λ k d below within. front (suc k) d (omega (arith, below)) (omega (arith, within))) (λ k d after within. back (suc k) d (omega (arith, after)) (omega (arith, within))))

-- those from what is written up to the first that the stamp hasn't reached
pub due_is : (clocks : List Clock) (written stamp reached end : ℕ) → IsPartitionPoint (λ clock. clock.tick ≤ stamp) (λ clock. stamp < clock.tick) clocks reached → end ≡ max reached written → take (end - written) (drop written clocks) ≡ due_clocks clocks written stamp
due_is clocks written stamp reached end point is =
    sym (filter_front (λ clock. nat_le clock.tick stamp) (drop written clocks) (end - written)
    (λ k d below within. ap (λ (c : Clock). nat_le c.tick stamp) (get_or-drop written clocks k d) ∙ le-leb _ _ (point.0 (written + k) d (omega arith) (omega (arith, is, below))))
    (λ k d after within. ap (λ (c : Clock). nat_le c.tick stamp) (get_or-drop written clocks k d) ∙ lt-leb _ _ (point.1 (written + k) d (omega (arith, is, after)) (omega (arith, within, length-drop written clocks)))))

-- with them no more are written than there are
pub due_within : (clocks : List Clock) (written stamp : ℕ) → written ≤ length clocks → written + length (due_clocks clocks written stamp) ≤ length clocks
due_within clocks written stamp within =
    let p : Clock → Bool = λ clock. nat_le clock.tick stamp in
    omega (arith, within, length-drop written clocks, length-filter_both p (λ clock. not (p clock)) (λ clock. refl) (drop written clocks))

-- what holds of each holds of the first
pub first_has : (P : Clock → Type 0) (clocks : List Clock) (clock : Clock) → All P clocks → slice_get clocks 0 ≡ Some clock → P clock
first_has P clocks clock all there = subst P (get_or_from_slice_get clocks 0 clock clock there) (All-get_or P clocks 0 clock (slice_get_within clocks 0 clock there) all)

-- ---- their bytes

-- bytes that fill a buffer
pub filled : (bytes into put : List ℕ) (size : ℕ) → put ≡ bytes ++ drop size into → length into ≤ size → put ≡ bytes
filled bytes into put size is full = is ∙ ap (λ (l : List ℕ). bytes ++ l) (drop_all size into full) ∙ append-nil bytes

-- one clock more
clocks_more : (clocks : List Clock) (place : ℕ) (none : Clock) → place < length clocks → clocks_bytes (take (place + 1) clocks) ≡ clocks_bytes (take place clocks) ++ clock_bytes (get_or clocks place none)
clocks_more clocks place none within =
    ap (flat_map clock_bytes) (take_more clocks place none within)
    ∙ flat_map-append clock_bytes (take place clocks) (get_or clocks place none ∷ [])
    ∙ ap (λ (l : List ℕ). clocks_bytes (take place clocks) ++ l) (append-nil (clock_bytes (get_or clocks place none)))

-- it went out behind those before
pub clock_goes : (clocks : List Clock) (place : ℕ) (none : Clock) (put mid put_after : Told) → place < length clocks → mid ≡ with_end (clocks_bytes (take place clocks)) put → put_after ≡ with_end (clock_bytes (get_or clocks place none)) mid → put_after ≡ with_end (clocks_bytes (take (place + 1) clocks)) put
clock_goes clocks place none put mid put_after within was more =
    let bytes = clock_bytes (get_or clocks place none) in
    more ∙ ap (with_end bytes) was ∙ with_end-both (clocks_bytes (take place clocks)) bytes put ∙ ap (λ (l : List ℕ). with_end l put) (sym (clocks_more clocks place none within))

-- it didn't go out whole, nor those behind it
pub clock_stops : {T E : Type 0} (r : Result T E) (clocks : List Clock) (place : ℕ) (none : Clock) (put mid put_after : Told) (faults faults_mid faults_after : ℕ) → IsErr r → place < length clocks → mid ≡ with_end (clocks_bytes (take place clocks)) put → faults_mid ≡ faults → PutsFront (clock_bytes (get_or clocks place none)) mid put_after → Rose faults_mid faults_after → faults_mid ≤ faults_after
    → Sends r (clocks_bytes clocks) put put_after faults faults_after
clock_stops r clocks place none put mid put_after faults faults_mid faults_after failed within was counted puts rose more =
    let bytes = clock_bytes (get_or clocks place none) in
    let front = clocks_bytes (take place clocks) in
    let back = clocks_bytes (drop (place + 1) clocks) in
    let whole : front ++ (bytes ++ back) ≡ clocks_bytes clocks =
    sym (append_assoc front bytes back) ∙ ap (λ (l : List ℕ). l ++ back) (sym (clocks_more clocks place none within))
    ∙ sym (flat_map-append clock_bytes (take (place + 1) clocks) (drop (place + 1) clocks)) ∙ ap (flat_map clock_bytes) (take-append-drop (place + 1) clocks) in
    subst (λ (l : List ℕ). Sends r l put put_after faults faults_after) whole
    (sends_then r front (bytes ++ back) put mid put_after faults faults_mid faults_after was counted (sends_stop r bytes back mid put_after faults_mid faults_after failed puts rose more))

-- all went out
pub clocks_all : (clocks : List Clock) (place : ℕ) (put put_after : Told) → length clocks ≤ place → put_after ≡ with_end (clocks_bytes (take place clocks)) put → put_after ≡ with_end (clocks_bytes clocks) put
clocks_all clocks place put put_after done was = was ∙ ap (λ (l : List Clock). with_end (clocks_bytes l) put) (take_all place clocks done)
