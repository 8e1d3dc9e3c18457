-- Words of a stream that are kept, as contracts see them, and how they are kept.
use Rattle.std.specs.Prelude.{ℕ, List}
use Rattle.ring_machine.specs.Streams.{Walk, walk}

-- the words of a stream in a ring of so many words
pub record Tracked : Type 0 where
  pub size : ℕ
  pub words : List ℕ

-- where they come to
abbrev pub walk_of : Tracked → Walk
walk_of t = walk t.size t.words

abbrev pub tracked : ℕ → List ℕ → Tracked
tracked size words = record { size = size; words = words }
