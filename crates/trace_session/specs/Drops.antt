-- Which calls of a run are taken, and when it is lawful that others were dropped.
use Rattle.std.specs.Prelude.{◌≡◌, ◌⊎◌, ℕ, ◌-◌, ◌<◌, ◌≤◌, Bool, true, not, ◌&&◌, ◌==◌, List, [], map, take, get_or, slice_get, sum_by, length}
use Rattle.std.specs.Prelude.{Option, None, Some, if◌then◌else◌, All, AllPairs}
use Rattle.std.specs.List.{filter_map, list_any, enumerate_from}
use Rattle.log_dictionary.specs.declared.severity.Severity.{Severity}
use Rattle.log_dictionary.specs.declared.message.Message.{Message}
use Rattle.arg_records.specs.declared.call.Call.{Call}
use Rattle.arg_records.specs.Frames.{FrameLen}
use Rattle.ring_core.specs.Positions.{Need, Position}
use Rattle.trace_text.specs.Recordings.{Recording}
use Rattle.trace_session.specs.declared.drops.Dropped.{Dropped}
use Rattle.trace_session.specs.Levels.{keeps}

-- ---- the calls that are taken

-- one of the drops names the call of this writer with this ordinal
abbrev pub is_listed : List Dropped → ℕ → ℕ → Bool
is_listed drops writer ordinal = list_any (λ drop. (drop.writer == writer) && (drop.ordinal == ordinal)) drops

-- the call with this ordinal, if the level keeps it and it isn't listed
abbrev pub taken_call : List Message → Severity → (ℕ → Bool) → ℕ × Call → Option Call
taken_call dictionary level listed (ordinal, call) =
    if keeps dictionary level call && not (listed ordinal) then Some call else None

-- the calls of one writer that the level keeps and that aren't listed, in their order
abbrev pub taken_calls : List Message → Severity → (ℕ → Bool) → List Call → List Call
taken_calls dictionary level listed calls = filter_map (taken_call dictionary level listed) (enumerate_from 0 calls)

-- the same of a writer and its calls
abbrev pub taken_of : Recording → Severity → List Dropped → ℕ × List Call → List Call
taken_of run level drops (writer, calls) = taken_calls run.dictionary level (is_listed drops writer) calls

-- per writer the calls that the level keeps and no drop lists, in their order
abbrev pub Taken : Recording → Severity → List Dropped → List (List Call)
Taken run level drops = map (taken_of run level drops) (enumerate_from 0 run.writers)

-- how many calls there are, of all writers
abbrev pub call_count : List (List Call) → ℕ
call_count writers = sum_by length writers

-- ---- the drops

-- the calls of a writer
abbrev pub calls_at : Recording → ℕ → List Call
calls_at run writer = get_or run.writers writer []

-- the position of the writer's ring at a drop: behind those of its calls before that were taken
abbrev pub position_at : Recording → Severity → ℕ → List Dropped → Dropped → ℕ
position_at run level words drops drop =
    Position (taken_of run level drops (drop.writer, take drop.ordinal (calls_at run drop.writer))) words

-- the position up to which the writer knew, at a drop, that its calls were taken from the ring
abbrev pub released_at : Recording → Severity → ℕ → List Dropped → Dropped → ℕ
released_at run level words drops drop = position_at run level words drops drop - (words - drop.room)

-- a call of so many words wanted more room at this position than a ring of so many words had
pub record LacksRoom (at frame words : ℕ) (drop : Dropped) : Type 0 where
  pub need : drop.need ≡ Need at frame words
  pub wanting : drop.room < drop.need
  pub room : drop.room ≤ words
  pub taken : words - drop.room ≤ at

-- the drop names a call that the level keeps, for which its writer's ring lacked room
pub record IsDrop (run : Recording) (level : Severity) (words : ℕ) (drops : List Dropped) (drop : Dropped)
    : Type 0 where
  pub call : Call
  pub named : slice_get (calls_at run drop.writer) drop.ordinal ≡ Some call
  pub kept : keeps run.dictionary level call ≡ true
  pub lacked : LacksRoom (position_at run level words drops drop) (FrameLen call.args) words drop

-- the one stands before the other: by writer, and then by ordinal
abbrev pub ComesBefore : Dropped → Dropped → Type 0
ComesBefore one other = (one.writer < other.writer) ⊎ ((one.writer ≡ other.writer) × (one.ordinal < other.ordinal))

-- The drops stand in order, each once; each is of a call that is kept and lacked room; and what a writer knew to be
-- taken never falls from one of its drops to a later one.
pub record LawfulDrops (run : Recording) (level : Severity) (words : ℕ) (drops : List Dropped) : Type 0 where
  pub in_order : AllPairs ComesBefore drops
  pub lawful : All (IsDrop run level words drops) drops
  pub never_falls : AllPairs (λ one other. one.writer ≡ other.writer
      → released_at run level words drops one ≤ released_at run level words drops other) drops
