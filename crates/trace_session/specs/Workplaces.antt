-- Where workers are.
use Rattle.trace_session.specs.declared.workplace.Workplace.{Workplace}
use Rattle.trace_session.specs.declared.workplace.Workplace.TheVariants as workplaces
use Rattle.trace_session.specs.declared.worker.Turn.{Turn}
use Rattle.trace_session.specs.declared.worker.Turn.TheVariants as turns
use Rattle.std.specs.Prelude.{◌≡◌, ◌↔◌, ℕ, Bool, true, false, List, map}
use Rattle.trace_session.specs.Workers.{WorkerView, Work, work_of}
use Rattle.trace_session.specs.Turns.{IsTurn}

-- the worker of a workplace; of one that is away, as it was when it left
abbrev pub worker_of : {S G : Type 0} → Workplace S G → WorkerView S
worker_of (workplaces.Away handle) = handle.promise.0.value
worker_of (workplaces.Here worker) = worker

-- what the workers of workplaces work on
abbrev pub works_at : {S G : Type 0} → (S → List ℕ) → (S → ℕ) → List (Workplace S G) → List Work
works_at pair words workplaces = map (λ workplace. work_of pair words (worker_of workplace)) workplaces

-- the turn of a workplace, and whether that moved its worker: one that is here takes one turn, and one that is away none
abbrev pub TakesOneTurn : {S G : Type 0} → (S → ℕ) → (S → ℕ) → (S → ℕ) → (S → ℕ) → (S → Bool) → Workplace S G → Workplace S G
    → Bool → Type 0
TakesOneTurn {S} at words seen looks closed (workplaces.Away handle) new moved =
    (new ≡ workplaces.Away handle) × (moved ≡ false)
TakesOneTurn {S} at words seen looks closed (workplaces.Here old) new moved =
    (worker : WorkerView S) × (answer : Turn) × (new ≡ workplaces.Here worker)
    × IsTurn at words seen looks closed answer old worker × ((moved ≡ true) ↔ (answer ≡ turns.Moved))
