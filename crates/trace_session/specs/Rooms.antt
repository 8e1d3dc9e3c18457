-- Room that was made before a session began.
use Rattle.std.specs.Prelude.{◌≡◌, ◌≤◌, [], length, vec_len}
use Rattle.std.specs.Vec.{vec_capacity}
use Rattle.session_options.specs.declared.options.Options.{Options}
use Rattle.trace_text.specs.Recordings.{Recording}
use Rattle.trace_session.specs.declared.preparing.Room.{Room}

-- nothing was put into the room, which is enough for the run
pub record IsFree {I D G : Type 0} (run : Recording) (options : Options) (room : Room I D G) : Type 0 where
  pub finished : room.finished ≡ record { run = run; options = options; drops = []; writers = [] }
  pub workplaces : (room.workplaces.items ≡ []) × (length run.writers ≤ vec_capacity room.workplaces)
  pub no_seats : vec_len room.workplaces ≡ 0
  pub settled : (room.settled.items ≡ []) × (length run.writers ≤ vec_capacity room.settled)
  pub none_settled : vec_len room.settled ≡ 0
