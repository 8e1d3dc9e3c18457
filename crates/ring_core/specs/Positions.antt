-- Places and positions. A position counts the places that a writer has filled or skipped since the ring was made; the place
-- of a position is its remainder by the ring's size.
use Rattle.std.specs.Prelude.{ℕ, ◌+◌, ◌-◌, ◌%◌, List, [], ◌∷◌, nat_le, if◌then◌else◌}
use Rattle.arg_records.specs.declared.call.Call.{Call}
use Rattle.arg_records.specs.Frames.{FrameLen}

-- how many places a frame of so many words takes from this place on, in a ring of so many words. Where the frame would
-- cross the ring's end, the places up to there are skipped
abbrev pub need_from : ℕ → ℕ → ℕ → ℕ
need_from place frame words = if nat_le (place + frame) words then frame else frame + (words - place)

-- the same from a position on
abbrev pub Need : ℕ → ℕ → ℕ → ℕ
Need at frame words = need_from (at % words) frame words

-- the position behind these calls, the first of which begins at this one or behind places that are skipped
abbrev pub position_from : ℕ → List Call → ℕ → ℕ
position_from at [] words = at
position_from at (call ∷ calls) words = position_from (at + Need at (FrameLen call.args) words) calls words

-- the position behind these calls, the first of a writer, in a ring of so many words
abbrev pub Position : List Call → ℕ → ℕ
Position calls words = position_from 0 calls words
