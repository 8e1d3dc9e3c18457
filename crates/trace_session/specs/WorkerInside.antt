-- How a worker keeps what contracts see.
use Rattle.std.specs.Prelude.{◌≡◌, ◌+◌, ◌-◌, ◌≤◌, length, vec_len}
use Rattle.std.specs.Arc.{arc_value}
use Rattle.std.specs.Vec.{vec_capacity}
use Rattle.session_options.specs.declared.options.Policy.TheVariants as policies
use Rattle.trace_session.specs.declared.worker.Worker.TheInside.{Inside}
use Rattle.trace_session.specs.Workers.{WriterTask, WorkerProgress, task_calls}

abbrev pub worker_task : {S G : Type 0} → Inside S G → WriterTask
worker_task w = record { run = arc_value w.trace; level = w.level; policy = w.policy; number = w.number }

abbrev pub worker_progress_of : {S G : Type 0} → Inside S G → WorkerProgress
worker_progress_of w = record { next = w.next; drops = w.drops.items; closed = w.closed }

-- where calls may be dropped, there is room for all that are left
abbrev pub HasDropRoom : {S G : Type 0} → Inside S G → Type 0
HasDropRoom w = w.policy ≡ policies.Shed
    → vec_len w.drops + (length (task_calls (worker_task w)) - w.next) ≤ vec_capacity w.drops
