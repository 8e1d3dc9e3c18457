-- The time of a stamp.
use Rattle.std.specs.Prelude.{ℕ, ◌+◌, ◌-◌, ◌*◌, ◌/◌, leb, List, filter, Option, None, option_map, unwrap_or}
use Rattle.std.specs.List.{last_or}
use Rattle.log_dictionary.specs.declared.clock.Clock.{Clock}

-- the nanoseconds since 1970 at a stamp by one clock, rounded down: those at the clock's tick, and those that the ticks
-- since then took
abbrev pub clock_time : ℕ → Clock → ℕ
clock_time stamp clock = clock.nanos + (stamp - clock.tick) * 1000000000 / clock.rate

-- the last clock whose tick is at most the stamp
abbrev pub clock_at : List Clock → ℕ → Option Clock
clock_at clocks stamp = last_or None (filter (λ clock. leb clock.tick stamp) clocks)

-- the nanoseconds since 1970 at a stamp, by the last clock whose tick is at most the stamp. Where there is none it is 0:
-- no call of a trace or a log has such a stamp
abbrev pub Time : List Clock → ℕ → ℕ
Time clocks stamp = unwrap_or (option_map (clock_time stamp) (clock_at clocks stamp)) 0
