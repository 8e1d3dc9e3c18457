-- What each step of a ring does, and where it is barred.
use Rattle.std.specs.Prelude.{◌≡◌, ℕ, ◌+◌, ◌%◌, ◌/◌, ◌==◌, nat_lt, Bool, true, false, ◌||◌, not, if◌then◌else◌, List, [], ◌∷◌, ◌++◌, slice_index, slice_set, slice_get, Option, None, Some}
use Rattle.nl_io.specs.Count.{counted}
use Rattle.arg_records.specs.declared.frame.TheConstants.{MAX_FRAME_WORDS}
use Rattle.log_dictionary.specs.declared.dictionary.TheConstants.{MAX_MESSAGES}
use Rattle.ring_machine.specs.declared.records.WriterRecord.{WriterRecord}
use Rattle.ring_machine.specs.declared.records.RoamerRecord.{RoamerRecord}
use Rattle.ring_machine.specs.declared.steps.StepKind.{StepKind}
use Rattle.ring_machine.specs.declared.steps.StepKind.TheVariants as steps
use Rattle.ring_machine.specs.declared.steps.Event.{Event}
use Rattle.ring_machine.specs.declared.steps.Barred.{Barred}
use Rattle.ring_machine.specs.declared.steps.Barred.TheVariants as bars
use Rattle.ring_machine.specs.Streams.{Walk, walk, next_lap}
use Rattle.ring_machine.specs.RingStates.{RingState, written, taken}

-- ---- where a step is barred

-- the first of the causes whose test is true
abbrev pub first_bar : List (Bool × Barred) → Option Barred
first_bar [] = None
first_bar (test ∷ tests) = if test.0 then Some test.1 else first_bar tests

-- a frame isn't whole
abbrev pub is_inside : List ℕ → Bool
is_inside [] = false
is_inside (head ∷ words) = true

-- no frame has this first word: its length or its id is out of range
abbrev pub is_bad : ℕ → Bool
is_bad word =
    nat_lt (word % 65536) 2 || (nat_lt MAX_FRAME_WORDS (word % 65536) || not (nat_lt (word / 65536) MAX_MESSAGES))

-- what bars a word behind these ones of a frame, at a position up to which the writer knows that places are free
abbrev pub store_tests : ℕ → ℕ → ℕ → List ℕ → ℕ → List (Bool × Barred)
store_tests size free at [] word =
    (is_bad word, bars.BadWord)
    ∷ (nat_lt size (at % size + word % 65536), bars.AtEdge)
    ∷ (nat_lt free (at + word % 65536), bars.NoRoom)
    ∷ []
store_tests size free at (head ∷ words) word = []

-- what bars a step of a writer that has come so far, once it hasn't closed the ring
abbrev pub open_tests : ℕ → WriterRecord → Walk → StepKind → List (Bool × Barred)
open_tests size writer w (steps.Store word) = store_tests size (writer.seen + size) w.at w.part word
open_tests size writer w steps.Skip =
    (is_inside w.part, bars.MidFrame)
    ∷ (w.at % size == 0, bars.AtEdge)
    ∷ (nat_lt (writer.seen + size) (next_lap size w.at), bars.NoRoom)
    ∷ []
open_tests size writer w steps.Publish = (is_inside w.part, bars.MidFrame) ∷ (writer.published == w.at, bars.Nothing) ∷ []
open_tests size writer w steps.Close = (is_inside w.part || not (writer.published == w.at), bars.MidFrame) ∷ []
open_tests size writer w steps.Look = []
open_tests size writer w steps.Load = []
open_tests size writer w steps.Read = []
open_tests size writer w steps.Release = []

-- what bars a step of a roamer that has come so far
abbrev pub roamer_tests : RoamerRecord → Walk → StepKind → List (Bool × Barred)
roamer_tests roamer w steps.Read = (roamer.loaded == w.at, bars.Empty) ∷ []
roamer_tests roamer w steps.Release = (is_inside w.part, bars.MidFrame) ∷ (roamer.released == w.at, bars.Nothing) ∷ []
roamer_tests roamer w steps.Load = []
roamer_tests roamer w steps.Look = []
roamer_tests roamer w (steps.Store word) = []
roamer_tests roamer w steps.Skip = []
roamer_tests roamer w steps.Publish = []
roamer_tests roamer w steps.Close = []

-- the step is one of the writer's
abbrev pub is_writers : StepKind → Bool
is_writers steps.Look = true
is_writers (steps.Store word) = true
is_writers steps.Skip = true
is_writers steps.Publish = true
is_writers steps.Close = true
is_writers steps.Load = false
is_writers steps.Read = false
is_writers steps.Release = false

-- the step is the store of a word of a frame
abbrev pub is_store : StepKind → Bool
is_store (steps.Store word) = true
is_store steps.Look = false
is_store steps.Skip = false
is_store steps.Publish = false
is_store steps.Close = false
is_store steps.Load = false
is_store steps.Read = false
is_store steps.Release = false

-- why a writer of this record can't make the step, or nothing
abbrev pub writer_bar : ℕ → WriterRecord → StepKind → Option Barred
writer_bar size writer step = first_bar ((writer.closed, bars.Closed) ∷ open_tests size writer (walk size writer.stream) step)

-- why a roamer of this record can't make the step, or nothing
abbrev pub roamer_bar : ℕ → RoamerRecord → StepKind → Option Barred
roamer_bar size roamer step = first_bar (roamer_tests roamer (walk size roamer.stream) step)

-- why the step can't be made, or nothing. An end knows it from its own record
abbrev pub barred : RingState → StepKind → Option Barred
barred s step = if is_writers step then writer_bar s.size s.writer step else roamer_bar s.size s.roamer step

-- ---- what a step does

-- the writer stores a word behind the others
abbrev pub stored : RingState → ℕ → RingState
stored s word = record s {
  words = slice_set s.words ((written s).at % s.size) word;
  writer = record s.writer { stream = s.writer.stream ++ word ∷ []; steps = counted s.writer.steps };
}

-- the word that the roamer reads next
abbrev pub next_word : RingState → ℕ
next_word s = slice_index s.words ((taken s).at % s.size)

abbrev pub after_step : RingState → StepKind → RingState
after_step s steps.Look = record s {
  writer = record s.writer { seen = s.released; looks = counted s.writer.looks; steps = counted s.writer.steps };
}
after_step s (steps.Store word) = stored s word
after_step s steps.Skip = stored s 0
after_step s steps.Publish = record s {
  published = (written s).at;
  writer = record s.writer { published = (written s).at; steps = counted s.writer.steps };
}
after_step s steps.Close = record s {
  closed = true;
  writer = record s.writer { closed = true; steps = counted s.writer.steps };
}
after_step s steps.Load = record s {
  roamer = record s.roamer {
    loaded = s.published;
    learnt = s.closed;
    loads = counted s.roamer.loads;
    steps = counted s.roamer.steps;
  };
}
after_step s steps.Read = record s {
  roamer = record s.roamer { stream = s.roamer.stream ++ next_word s ∷ []; steps = counted s.roamer.steps };
}
after_step s steps.Release = record s {
  released = (taken s).at;
  roamer = record s.roamer { released = (taken s).at; steps = counted s.roamer.steps };
}

-- the step is made: it isn't barred, and this state comes after it
pub record IsStep (s : RingState) (step : StepKind) (next : RingState) : Type 0 where
  pub not_barred : barred s step ≡ None
  pub next_is : next ≡ after_step s step

-- ---- several rings

-- why a step can't be made in this ring, if there is one
abbrev pub barred_in : Option RingState → StepKind → Option Barred
barred_in None step = Some bars.Ring
barred_in (Some s) step = barred s step

-- why the event can't happen, or nothing
abbrev pub event_barred : List RingState → Event → Option Barred
event_barred rings event = barred_in (slice_get rings event.ring) event.step

-- the rings once one of them, if it is there, has made its step
abbrev pub rings_after : List RingState → ℕ → Option RingState → StepKind → List RingState
rings_after rings ring None step = rings
rings_after rings ring (Some s) step = slice_set rings ring (after_step s step)

-- the rings after an event: all but its own stay
abbrev pub after_event : List RingState → Event → List RingState
after_event rings event = rings_after rings event.ring (slice_get rings event.ring) event.step

-- the event happens, and then the rings are these
pub record IsEvent (rings : List RingState) (event : Event) (next : List RingState) : Type 0 where
  pub not_barred : event_barred rings event ≡ None
  pub next_is : next ≡ after_event rings event

-- one event after another happens, none of which is barred, and in the end the rings are these
abbrev pub Run : List RingState → List Event → List RingState → Type 0
Run rings [] last = last ≡ rings
Run rings (event ∷ events) last = (next : List RingState) × IsEvent rings event next × Run next events last
