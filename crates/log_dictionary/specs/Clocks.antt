-- Lists of clocks, and what stops a clock from being added to one.
use Rattle.std.specs.Prelude.{◌≡◌, ◌<◌, ◌≤◌, ◌^◌, ℕ, List, [], ◌∷◌, length, All, AllPairs, None, option_map, unwrap_or}
use Rattle.std.specs.List.{last_or}
use Rattle.log_dictionary.specs.declared.clock.Clock.{Clock}
use Rattle.log_dictionary.specs.declared.clocks.TheConstants.{MAX_CLOCKS}
use Rattle.log_dictionary.specs.declared.clocks.ClockFault.{ClockFault}
use Rattle.log_dictionary.specs.declared.clocks.ClockFault.TheVariants.{TooMany, Order, Rate}

-- these are the clocks of a run: there are 1 to 256, their ticks rise strictly, and each rate is at least 1
pub record AreClocks (clocks : List Clock) : Type 0 where
  pub some : 1 ≤ length clocks
  pub few : length clocks ≤ MAX_CLOCKS
  pub rising : AllPairs (λ a b. a.tick < b.tick) clocks
  pub rates : All (λ clock. 1 ≤ clock.rate) clocks

-- the clock's numbers are below 2^64
pub record FitsClock (clock : Clock) : Type 0 where
  pub tick : clock.tick < 2 ^ 64
  pub nanos : clock.nanos < 2 ^ 64
  pub rate : clock.rate < 2 ^ 64

-- the tick of the first clock, and of the last one; 0 where there is none
abbrev pub first_tick : List Clock → ℕ
first_tick [] = 0
first_tick (clock ∷ _) = clock.tick

abbrev pub last_tick : List Clock → ℕ
last_tick clocks = unwrap_or (option_map (λ clock. clock.tick) (last_or None clocks)) 0

-- the clock may follow the clocks of a run: there is room for one more, its tick is above that of the last one, and it
-- ticks
pub record FollowsClocks (clocks : List Clock) (clock : Clock) : Type 0 where
  pub few : length clocks < MAX_CLOCKS
  pub above : last_tick clocks < clock.tick
  pub rate : 1 ≤ clock.rate

-- this is why a clock isn't added to the clocks of a run: there are 256, or its tick isn't above that of the last one,
-- or its rate is 0; the first of these counts
abbrev pub StopsClock : List Clock → Clock → ClockFault → Type 0
StopsClock clocks clock TooMany = length clocks ≡ MAX_CLOCKS
StopsClock clocks clock Order = (length clocks < MAX_CLOCKS) × (clock.tick ≤ last_tick clocks)
StopsClock clocks clock Rate =
    (length clocks < MAX_CLOCKS) × (last_tick clocks < clock.tick) × (clock.rate ≡ 0)
