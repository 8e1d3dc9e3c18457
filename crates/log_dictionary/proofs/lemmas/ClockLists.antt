-- Lists of clocks: which of them counts at a stamp, and what a clock that is added keeps.
use Rattle.std.proofs.Common.{◌≡◌, ℕ, ◌<◌, ◌≤◌, ◌+◌, ◌-◌, Bool, true, false, cond, List, [], ◌∷◌, ◌++◌, length, get_or, suc, zero, ⊎_elim, Option, None, Some, refl, ap, leb, arith}
use Rattle.std.proofs.lemmas.Bool.{le-leb, lt-leb, cases_lt}
use Rattle.std.proofs.lemmas.List.Sorted.{IsPartitionedBy-leb, IsNonDecreasingBy-from_all_adjacent}
use Rattle.std.specs.List.Sorted.{IsPartitionPoint, IsPartitionedBy}
use Rattle.std.proofs.lemmas.Grind.{common_steps}
use Rattle.std.proofs.lemmas.List.Elements.{All-push}
use Rattle.std.proofs.lemmas.List.Quantifiers.{all_pairs_push}
use Rattle.std.specs.Prelude.{filter, option_map, unwrap_or}
use Rattle.std.specs.List.{last_or}
use Rattle.log_dictionary.specs.declared.clock.Clock.{Clock}
use Rattle.log_dictionary.specs.declared.clocks.TheConstants.{MAX_CLOCKS}
use Rattle.log_dictionary.specs.Clocks.{AreClocks, first_tick, last_tick}
use Rattle.log_dictionary.specs.Times.{clock_at}

none_pass : {X : Type 0} (test : X → Bool) (xs : List X) (d : X) → ((k : ℕ) → k < length xs → test (get_or xs k d) ≡ false) → filter test xs ≡ []
none_pass test [] d fails = refl
none_pass test (x ∷ xs) d fails =
    rw (fails 0 (omega arith)) (none_pass test xs d (λ k within. fails (suc k) (omega (arith, within))))

-- where an item passes and no later one does, it is the last that passes
last_passing : {X : Type 0} (test : X → Bool) (o : Option X) (xs : List X) (place : ℕ) (d : X) → place < length xs → test (get_or xs place d) ≡ true → ((k : ℕ) → place < k → k < length xs → test (get_or xs k d) ≡ false) → last_or o (filter test xs) ≡ Some (get_or xs place d)
last_passing test o [] place d within passes later = absurd (omega (arith, within))
last_passing test o (x ∷ xs) zero d within passes later =
    let none = none_pass test xs d (λ k below. later (suc k) (omega arith) (omega (arith, below))) in
    rw passes (ap (last_or (Some x)) none)
last_passing test o (x ∷ xs) (suc place) d within passes later =
    let rest = λ (before : Option _). last_passing test before xs place d (omega (arith, within)) passes (λ k above below. later (suc k) (omega (arith, above)) (omega (arith, below))) in
    elim (test x) as (λ b. last_or o (cond b (x ∷ filter test xs) (filter test xs)) ≡ Some (get_or xs place d)) [ true ↦ rest (Some x) | false ↦ rest o ]

-- a clock counts at a stamp that isn't below its tick, and is below those of the later ones
pub counts_at : (clocks : List Clock) (stamp place : ℕ) (d : Clock) → place < length clocks → (get_or clocks place d).tick ≤ stamp → ((k : ℕ) → place < k → k < length clocks → stamp < (get_or clocks k d).tick) → clock_at clocks stamp ≡ Some (get_or clocks place d)
counts_at clocks stamp place d within since later =
    last_passing (λ (clock : Clock). leb clock.tick stamp) None clocks place d within (le-leb _ stamp since) (λ k above below. lt-leb _ stamp (later k above below))

last_or-place : {X : Type 0} (o : Option X) (xs : List X) (place : ℕ) (d : X) → length xs ≡ place + 1 → last_or o xs ≡ Some (get_or xs place d)
last_or-place o [] place d long = absurd (omega (arith, long))
last_or-place o (x ∷ []) zero d long = refl
last_or-place o (x ∷ []) (suc place) d long = absurd (omega (arith, long))
last_or-place o (x ∷ y ∷ ys) zero d long = absurd (omega (arith, long))
last_or-place o (x ∷ y ∷ ys) (suc place) d long = last_or-place (Some x) (y ∷ ys) place d (omega (arith, long))

pub last_tick-place : (clocks : List Clock) (place : ℕ) (d : Clock) → length clocks ≡ place + 1 → last_tick clocks ≡ (get_or clocks place d).tick
last_tick-place clocks place d long = ap (λ (o : Option Clock). unwrap_or (option_map (λ (clock : Clock). clock.tick) o) 0) (last_or-place None clocks place d long)

first_tick-place : (clocks : List Clock) (d : Clock) → 1 ≤ length clocks → first_tick clocks ≡ (get_or clocks 0 d).tick
first_tick-place [] d some = absurd (omega (arith, some))
first_tick-place (clock ∷ clocks) d some = refl

-- ---- a search for the clock that counts at a stamp

-- so many clocks have ticks that are at most the stamp, and those behind them have none
abbrev Counted : List Clock → ℕ → ℕ → Type 0
Counted clocks stamp counted = IsPartitionPoint (λ (clock : Clock). clock.tick ≤ stamp) (λ (clock : Clock). stamp < clock.tick) clocks counted

pub ticks_part : (clocks : List Clock) (stamp : ℕ) → AreClocks clocks → IsPartitionedBy (λ (clock : Clock). leb clock.tick stamp) clocks
ticks_part clocks stamp formed =
    IsPartitionedBy-leb (λ (clock : Clock). clock.tick) clocks stamp (IsNonDecreasingBy-from_all_adjacent (λ (clock : Clock). clock.tick) clocks (λ k d within. let rises = formed.rising k (k + 1) d (omega arith) within in omega (arith, rises)))

pub some_counted : (clocks : List Clock) (stamp counted : ℕ) → 1 ≤ length clocks → first_tick clocks ≤ stamp → Counted clocks stamp counted → 1 ≤ counted
some_counted clocks stamp zero some since point =
    let first : Clock = record { tick = 0; nanos = 0; rate = 0 } in
    absurd (omega (arith, point.1 0 first (omega arith) (omega (arith, some)), since, first_tick-place clocks first some))
some_counted clocks stamp (suc counted) some since point = omega arith

pub last_counted : (clocks : List Clock) (stamp counted : ℕ) (d : Clock) → 1 ≤ counted → Counted clocks stamp counted → (get_or clocks (counted - 1) d).tick ≤ stamp
last_counted clocks stamp counted d some point = point.0 (counted - 1) d (omega arith) (omega (arith, some))

pub counts_searched : (clocks : List Clock) (stamp counted : ℕ) (d : Clock) → 1 ≤ counted → counted ≤ length clocks → Counted clocks stamp counted → clock_at clocks stamp ≡ Some (get_or clocks (counted - 1) d)
counts_searched clocks stamp counted d some within point =
    counts_at clocks stamp (counted - 1) d (omega (arith, some, within)) (last_counted clocks stamp counted d some point)
    (λ k above below. point.1 k d (omega (arith, above)) below)

pub counts_last : (clocks : List Clock) (stamp : ℕ) (d : Clock) → 1 ≤ length clocks → (get_or clocks (length clocks - 1) d).tick ≤ stamp → clock_at clocks stamp ≡ Some (get_or clocks (length clocks - 1) d)
counts_last clocks stamp d some since =
    counts_at clocks stamp (length clocks - 1) d (omega (arith, some)) since (λ k above below. absurd (omega (arith, above, below)))

-- ---- a clock that is added

-- no clock's tick is above that of the last one
up_to_last : (clocks : List Clock) → AreClocks clocks → (k : ℕ) (d : Clock) → k < length clocks → (get_or clocks k d).tick ≤ last_tick clocks
up_to_last clocks formed k d within =
    let last = last_tick-place clocks (length clocks - 1) d (omega (arith, within)) in
    ⊎_elim
    (λ before. let rises = formed.rising k (length clocks - 1) d before (omega (arith, within)) in omega (arith, rises, last))
    (λ (here : length clocks - 1 ≤ k). let same : k ≡ length clocks - 1 = omega (arith, here, within) in rw (last, same) (omega arith))
    (cases_lt k (length clocks - 1))

pub AreClocks-push : (clocks : List Clock) (clock : Clock) → AreClocks clocks → length clocks < MAX_CLOCKS → last_tick clocks < clock.tick → 1 ≤ clock.rate → AreClocks (clocks ++ clock ∷ [])
AreClocks-push clocks clock formed few above rate = record {
  some = grind (arith, common_steps);
  few = grind (arith, common_steps);
  rising = all_pairs_push (λ (a b : Clock). a.tick < b.tick) clocks clock formed.rising (λ k d within. omega (arith, above, up_to_last clocks formed k d within));
  rates = All-push (λ (c : Clock). 1 ≤ c.rate) clocks clock formed.rates rate;
}
