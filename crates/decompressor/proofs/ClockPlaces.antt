-- The clock at a place counts at a stamp.
use Rattle.std.proofs.Common.{◌≡◌, ℕ, ◌+◌, ◌<◌, ◌≤◌, List, length, get_or, Some, inl, inr, ap, sym, subst, ◌∙◌, arith}
use Rattle.std.specs.Prelude.{slice_get}
use Rattle.std.proofs.lemmas.Bool.{cases_lt}
use Rattle.std.proofs.lemmas.Option.{slice_get-get_or, get_or_from_slice_get, slice_get_within}
use Rattle.log_dictionary.specs.declared.clock.Clock.{Clock}
use Rattle.log_dictionary.specs.Clocks.{AreClocks}
use Rattle.log_dictionary.specs.Times.{clock_at}
use Rattle.log_dictionary.proofs.lemmas.ClockLists.{counts_at}

-- where the one behind it, if there is one, doesn't
pub counts_there : (clocks : List Clock) (place stamp : ℕ) (clock : Clock) → AreClocks clocks → slice_get clocks place ≡ Some clock → clock.tick ≤ stamp → ((next : Clock) → slice_get clocks (place + 1) ≡ Some next → stamp < next.tick) → clock_at clocks stamp ≡ Some clock
counts_there clocks place stamp clock formed there since next =
    let here : get_or clocks place clock ≡ clock = get_or_from_slice_get clocks place clock clock there in
    counts_at clocks stamp place clock (slice_get_within clocks place clock there) (subst (λ (k : Clock). k.tick ≤ stamp) (sym here) since) later ∙ ap Some here
  where
    later : (k : ℕ) → place < k → k < length clocks → stamp < (get_or clocks k clock).tick
    later k above within =
        let second : stamp < (get_or clocks (place + 1) clock).tick = next (get_or clocks (place + 1) clock) (slice_get-get_or clocks (place + 1) clock (omega (arith, above, within))) in
        elim (cases_lt (place + 1) k) [
          | inl further ↦ let rising = formed.rising (place + 1) k clock further within in omega (arith, second, rising)
          | inr same ↦ let is : place + 1 ≡ k = omega (arith, above, same) in subst (λ (n : ℕ). stamp < (get_or clocks n clock).tick) is second
        ]

pub ticks_there : (clocks : List Clock) (place : ℕ) (clock : Clock) → AreClocks clocks → slice_get clocks place ≡ Some clock → 1 ≤ clock.rate
ticks_there clocks place clock formed there =
    let here : get_or clocks place clock ≡ clock = get_or_from_slice_get clocks place clock clock there in
    subst (λ (k : Clock). 1 ≤ k.rate) here (formed.rates place clock (slice_get_within clocks place clock there))
