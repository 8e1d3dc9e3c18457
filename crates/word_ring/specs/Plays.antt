-- What each step of a ring does to what its seat knows, and what the seat learns.
use Rattle.std.specs.Prelude.{◌≡◌, ℕ, ◌+◌, ◌/◌, ◌%◌, ◌≤◌, ◌==◌, true, if◌then◌else◌, [], ◌∷◌, ◌++◌, Option, None}
use Rattle.atomic_table.specs.Table.{Me, Step}
use Rattle.nl_io.specs.Count.{counted}
use Rattle.ring_core.specs.Plans.{Lawful, BeginsWith}
use Rattle.ring_machine.specs.declared.steps.StepKind.{StepKind}
use Rattle.ring_machine.specs.declared.steps.StepKind.TheVariants as steps
use Rattle.ring_machine.specs.declared.steps.Barred.{Barred}
use Rattle.ring_machine.specs.Streams.{Walk, walk, is_wrap_mark, FitsWithin}
use Rattle.ring_machine.specs.Steps.{writer_bar, roamer_bar}
use Rattle.word_ring.specs.declared.known.Known.{Known}
use Rattle.word_ring.specs.Rule.{plan_in}

-- what a seat knows, and the slots that it holds: of a ring's table none
abbrev pub Sitting : Type 0
Sitting = Me (Unit {0}) Known

-- a step of a ring
abbrev pub RingStep : Type 0
RingStep = Step (Unit {0})

-- where the writer has come to
abbrev pub written_by : Known → Walk
written_by v = walk v.size v.writer.stream

-- where the roamer has come to
abbrev pub read_by : Known → Walk
read_by v = walk v.size v.roamer.stream

-- ---- the machine's steps

-- what bars a step of the machine to a writer that knows this, or nothing
abbrev pub writer_barred : Known → StepKind → Option Barred
writer_barred v step = writer_bar v.size v.writer step

-- what bars it to a roamer that knows this, or nothing
abbrev pub roamer_barred : Known → StepKind → Option Barred
roamer_barred v step = roamer_bar v.size v.roamer step

-- the machine's step that stores this word: a skip where it is a wrap mark
abbrev pub put_step : Known → ℕ → StepKind
put_step v word = if is_wrap_mark (written_by v).part word then steps.Skip else steps.Store word

-- ---- what is known after each step

-- the writer found this position released
abbrev pub having_looked : Known → ℕ → Known
having_looked v found = record v {
  writer = record v.writer { seen = found; looks = counted v.writer.looks; steps = counted v.writer.steps };
}

-- the writer stored this word
abbrev pub having_put : Known → ℕ → Known
having_put v word = record v {
  writer = record v.writer { stream = v.writer.stream ++ word ∷ []; steps = counted v.writer.steps };
}

-- the writer published all that it had stored
abbrev pub having_published : Known → Known
having_published v = record v {
  writer = record v.writer { published = (written_by v).at; steps = counted v.writer.steps };
}

-- the writer closed the ring
abbrev pub having_closed : Known → Known
having_closed v = record v { writer = record v.writer { closed = true; steps = counted v.writer.steps } }

-- the roamer found this producer word
abbrev pub having_loaded : Known → ℕ → Known
having_loaded v found = record v {
  roamer = record v.roamer {
    loaded = found / 2;
    learnt = found % 2 == 1;
    loads = counted v.roamer.loads;
    steps = counted v.roamer.steps;
  };
}

-- the roamer read this word
abbrev pub having_read : Known → ℕ → Known
having_read v word = record v {
  roamer = record v.roamer { stream = v.roamer.stream ++ word ∷ []; steps = counted v.roamer.steps };
}

-- the roamer released all that it had read
abbrev pub having_released : Known → Known
having_released v = record v {
  roamer = record v.roamer { released = (read_by v).at; steps = counted v.roamer.steps };
}

-- ---- what each step tells

-- nothing bars the step in the machine, after it the seat knows this, and it holds what it held
pub record LeavesSeat (before : Sitting) (bar : Option Barred) (now : Known) (after : Sitting) : Type 0 where
  pub not_barred : bar ≡ None
  pub knows : after.0 ≡ now
  pub holds : after.1 ≡ before.1

-- the position that was found lies behind none that was found before, and at most a lap before the writer's
pub record Looks (step : RingStep) (before : Sitting) (found : ℕ) (after : Sitting) : Type 0 where
  pub leaves : LeavesSeat before (writer_barred before.0 steps.Look) (having_looked before.0 found) after
  pub further : before.0.writer.seen ≤ found
  pub within : found ≤ (written_by before.0).at
  pub lap : (written_by before.0).at ≤ found + before.0.size

abbrev pub PutsWord : RingStep → Sitting → ℕ → Sitting → Type 0
PutsWord step before stored after =
    LeavesSeat before (writer_barred before.0 (put_step before.0 stored)) (having_put before.0 stored) after

abbrev pub Publishes : RingStep → Sitting → ℕ → Sitting → Type 0
Publishes step before stored after =
    LeavesSeat before (writer_barred before.0 steps.Publish) (having_published before.0) after

abbrev pub Closes : RingStep → Sitting → ℕ → Sitting → Type 0
Closes step before stored after =
    LeavesSeat before (writer_barred before.0 steps.Close) (having_closed before.0) after

-- what is published lies behind what was read
pub record Loads (step : RingStep) (before : Sitting) (found : ℕ) (after : Sitting) : Type 0 where
  pub leaves : LeavesSeat before (roamer_barred before.0 steps.Load) (having_loaded before.0 found) after
  pub further : (read_by before.0).at ≤ found / 2

-- the word may come next, what it begins is loaded whole, and the frames are lawful
pub record ReadsWord (step : RingStep) (before : Sitting) (found : ℕ) (after : Sitting) : Type 0 where
  pub leaves : LeavesSeat before (roamer_barred before.0 steps.Read) (having_read before.0 found) after
  pub fits : FitsWithin before.0.size before.0.roamer.loaded (read_by before.0) found
  pub lawful : Lawful (plan_in before.0) (walk before.0.size (before.0.roamer.stream ++ found ∷ [])).frames

abbrev pub Releases : RingStep → Sitting → ℕ → Sitting → Type 0
Releases step before stored after =
    LeavesSeat before (roamer_barred before.0 steps.Release) (having_released before.0) after

-- what was read is the front of what was stored, and all of it where the roamer has read what it loaded and learnt that the
-- ring is closed, which it learns of a closed ring alone
pub record HasReadFront (v : Known) : Type 0 where
  pub front : BeginsWith (written_by v).frames (read_by v).frames
  pub closed : v.roamer.learnt ≡ true → v.writer.closed ≡ true
  pub whole : v.roamer.learnt ≡ true → (read_by v).at ≡ v.roamer.loaded → (read_by v).frames ≡ (written_by v).frames

pub record Settles (step : RingStep) (before : Sitting) (found : ℕ) (after : Sitting) : Type 0 where
  pub same : after ≡ before
  pub settled : HasReadFront before.0
