-- The ends of a ring of words, as contracts see them.
use Rattle.std.specs.Prelude.{◌≡◌, ℕ, ◌+◌, ◌-◌, ◌≤◌, Bool, List, [], ◌∷◌, ◌++◌, length}
use Rattle.atomic_table.specs.Seated.{TableId}
use Rattle.nl_io.specs.Count.{counted}
use Rattle.ring_core.specs.Counts.{RisesBy}
use Rattle.session_options.specs.declared.limits.TheConstants.{MIN_RING, MAX_RING}
use Rattle.ring_core.specs.Plans.{Plan}
use Rattle.ring_core.specs.Positions.{Need}

-- a ring may have so many words
pub record IsTableSize (words : ℕ) : Type 0 where
  pub least : MIN_RING ≤ words
  pub most : words ≤ MAX_RING

-- The writer's end: the frames that were accepted, the position behind them, and how many places that lies ahead of the
-- released position as it was found last. `looks` counts how often it was looked for, and `steps` all steps of the end on a
-- word of the ring.
pub record WordWriterEnd : Type 0 where
  pub pair : List ℕ
  pub plan : Plan
  pub words : ℕ
  pub sent : List (List ℕ)
  pub closed : Bool
  pub at : ℕ
  pub ahead : ℕ
  pub looks : ℕ
  pub steps : ℕ

-- The roamer's end: the frames that were taken, the position behind them, the position that it released last, the published
-- position as it was found last, and whether the ring was closed then. `ended` tells whether the end has answered so.
pub record WordRoamerEnd : Type 0 where
  pub pair : List ℕ
  pub plan : Plan
  pub words : ℕ
  pub got : List (List ℕ)
  pub at : ℕ
  pub released : ℕ
  pub loaded : ℕ
  pub learnt : Bool
  pub ended : Bool
  pub loads : ℕ
  pub steps : ℕ

-- both ends, when they have come together
pub record BothWordEnds : Type 0 where
  pub pair : List ℕ
  pub sent : List (List ℕ)
  pub got : List (List ℕ)
  pub closed : Bool
  pub ended : Bool

-- the numbers of a table, which no other table has
abbrev pub numbers_of : TableId → List ℕ
numbers_of table =
    table.words ∷ table.slots ∷ table.views_name ∷ table.atom ∷ table.block ∷ table.offset ∷ table.slot_names

-- the released position, as the end found it last
abbrev pub seen_by : WordWriterEnd → ℕ
seen_by end = end.at - end.ahead

-- how many places were free when the end looked, in a call that began with the first of these ends and left the second
abbrev pub room_found : WordWriterEnd → WordWriterEnd → ℕ
room_found old new = old.words - (old.at - seen_by new)

-- The writer looked once, and found places for the frame, which was put and published.
pub record AcceptsFrame (old : WordWriterEnd) (frame : List ℕ) (new : WordWriterEnd) : Type 0 where
  pub same : new ≡ record old {
    sent = old.sent ++ frame ∷ [];
    at = old.at + Need old.at (length frame) old.words;
    ahead = new.ahead;
    looks = counted old.looks;
    steps = new.steps;
  }
  pub looks : old.looks ≤ new.looks
  pub steps : RisesBy (length frame + 3) old.steps new.steps

-- The writer looked once, and did nothing else.
pub record RefusesFrame (old new : WordWriterEnd) : Type 0 where
  pub same : new ≡ record old { ahead = new.ahead; looks = counted old.looks; steps = new.steps }
  pub looks : old.looks ≤ new.looks
  pub steps : RisesBy 1 old.steps new.steps

-- both ends, with what each of them had
abbrev pub both_ends : WordWriterEnd → WordRoamerEnd → BothWordEnds
both_ends writer roamer = record {
  pair = writer.pair;
  sent = writer.sent;
  got = roamer.got;
  closed = writer.closed;
  ended = roamer.ended;
}
