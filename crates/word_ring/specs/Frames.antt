-- A frame that an end stores or reads word by word.
use Rattle.std.specs.Prelude.{◌≡◌, ℕ, ◌+◌, ◌%◌, ◌≤◌, if◌then◌else◌, List, [], ◌∷◌, ◌++◌, length}
use Rattle.ring_core.specs.Plans.{Lawful}
use Rattle.ring_core.specs.Positions.{Need}
use Rattle.ring_machine.specs.Streams.{Walk, is_whole_frame}
use Rattle.word_ring.specs.declared.known.Known.{Known}
use Rattle.word_ring.specs.Plays.{written_by}
use Rattle.word_ring.specs.Rule.{plan_in}

-- the walk with this frame more
abbrev pub with_frame : Walk → List ℕ → Walk
with_frame w frame = record { at = w.at + length frame; frames = w.frames ++ frame ∷ []; part = [] }

-- the walk with these words more, the first of a frame that isn't whole
abbrev pub with_part : Walk → List ℕ → Walk
with_part w words = record { at = w.at + length words; frames = w.frames; part = words }

-- the walk with these words more, the first of a frame or all of it
abbrev pub with_words : Walk → List ℕ → Walk
with_words w [] = w
with_words w (head ∷ words) =
    if is_whole_frame (head ∷ words) then with_frame w (head ∷ words) else with_part w (head ∷ words)

-- the walk with this frame more, in a ring of so many words: behind a wrap mark where it would cross the ring's end
abbrev pub with_next : ℕ → Walk → List ℕ → Walk
with_next size w frame =
    record { at = w.at + Need w.at (length frame) size; frames = w.frames ++ frame ∷ []; part = [] }

-- the writer stored words, which made its stream this one, in so many steps
abbrev pub having_put_on : Known → List ℕ → ℕ → Known
having_put_on v stream steps = record v { writer = record v.writer { stream = stream; steps = steps } }

-- the writer stored these words more, in so many steps
abbrev pub having_stored : Known → List ℕ → ℕ → Known
having_stored v words steps = having_put_on v (v.writer.stream ++ words) steps

-- The writer may store this frame next: it doesn't cross the ring's end, has room, and is lawful behind the others.
pub record MayStore (v : Known) (frame : List ℕ) : Type 0 where
  pub whole : (written_by v).part ≡ []
  pub inside : (written_by v).at % v.size + length frame ≤ v.size
  pub room : (written_by v).at + length frame ≤ v.writer.seen + v.size
  pub lawful : Lawful (plan_in v) ((written_by v).frames ++ frame ∷ [])

-- The writer may store this frame next, behind a wrap mark where it needs one.
pub record MayPut (v : Known) (frame : List ℕ) : Type 0 where
  pub whole : (written_by v).part ≡ []
  pub room : (written_by v).at + Need (written_by v).at (length frame) v.size ≤ v.writer.seen + v.size
  pub lawful : Lawful (plan_in v) ((written_by v).frames ++ frame ∷ [])
