-- The times of stamps, where a clock comes last.
use Rattle.std.proofs.Common.{◌≡◌, ℕ, ◌<◌, ◌≤◌, Bool, cond, List, [], ◌∷◌, ◌++◌, Option, None, Some, refl, ap, ◌∙◌, leb, append-nil}
use Rattle.std.proofs.lemmas.Bool.{le-leb, lt-leb}
use Rattle.std.proofs.lemmas.List.Elements.{filter-append}
use Rattle.std.specs.Prelude.{filter, option_map, unwrap_or}
use Rattle.std.specs.List.{last_or}
use Rattle.log_dictionary.specs.declared.clock.Clock.{Clock}
use Rattle.log_dictionary.specs.Times.{Time, clock_time}

last_or-push : {X : Type 0} (o : Option X) (xs : List X) (x : X) → last_or o (xs ++ x ∷ []) ≡ Some x
last_or-push o [] x = refl
last_or-push o (y ∷ ys) x = last_or-push (Some y) ys x

-- the clocks that count, where one more clock comes last
counted : (clocks : List Clock) (clock : Clock) (stamp : ℕ) (counts : Bool) → leb clock.tick stamp ≡ counts
    → filter (λ (c : Clock). leb c.tick stamp) (clocks ++ clock ∷ []) ≡ filter (λ (c : Clock). leb c.tick stamp) clocks ++ cond counts (clock ∷ []) []
counted clocks clock stamp counts is =
    let test : Clock → Bool = λ c. leb c.tick stamp in
    filter-append test clocks (clock ∷ []) ∙ ap (λ (b : Bool). filter test clocks ++ cond b (clock ∷ []) []) is

time_of : ℕ → Option Clock → ℕ
time_of stamp clock = unwrap_or (option_map (clock_time stamp) clock) 0

pub Time-before : (clocks : List Clock) (clock : Clock) (stamp : ℕ) → stamp < clock.tick → Time (clocks ++ clock ∷ []) stamp ≡ Time clocks stamp
unfolding time_of
Time-before clocks clock stamp below =
    ap (λ (found : List Clock). time_of stamp (last_or None found)) (counted clocks clock stamp _ (lt-leb clock.tick stamp below) ∙ append-nil (filter (λ (c : Clock). leb c.tick stamp) clocks))

pub Time-since : (clocks : List Clock) (clock : Clock) (stamp : ℕ) → clock.tick ≤ stamp → Time (clocks ++ clock ∷ []) stamp ≡ clock_time stamp clock
unfolding time_of
Time-since clocks clock stamp since =
    ap (λ (found : List Clock). time_of stamp (last_or None found)) (counted clocks clock stamp _ (le-leb clock.tick stamp since))
    ∙ ap (time_of stamp) (last_or-push None (filter (λ (c : Clock). leb c.tick stamp) clocks) clock)
