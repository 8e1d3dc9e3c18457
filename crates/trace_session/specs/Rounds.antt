-- What rounds of visits do.
use Rattle.std.specs.Prelude.{◌≡◌, ◌⊎◌, ℕ, ◌<◌, ◌≤◌, Bool, true, false, List, Some, map, slice_get}
use Rattle.nl_io.specs.Count.{Rose}
use Rattle.nl_io.specs.Content.{Told}
use Rattle.ring_core.specs.Plans.{Plan}
use Rattle.roaming_consumer.specs.declared.roamer.Roamer.{Roamer}
use Rattle.roaming_consumer.specs.Roamers.{ends_of, is_begun, is_faulted, is_marked, ArePlanned, IsSameRun, AppendsToLog}

-- What visits do to a roamer that is begun and to the sink: the roamer stands for what the sink was given too. Its
-- rings are the same. The sink's count of faults rises where the roamer's first write failed, and only there.
pub record Roams {S : Type 0} (got : S → List (List ℕ)) (ended : S → Bool) (pair : S → List ℕ) (plan : S → Plan)
    (old new : Roamer S) (put put_after : Told) (faults faults_after : ℕ) : Type 0 where
  pub adds : AppendsToLog got ended old new put put_after
  pub same_run : IsSameRun old new
  pub same_rings : map pair (ends_of new) ≡ map pair (ends_of old)
  pub planned : ArePlanned plan new
  pub begun : is_begun new ≡ true
  pub count : faults ≤ faults_after
  pub unfaulted : is_faulted new ≡ false → (is_faulted old ≡ false) × (faults_after ≡ faults)
  pub faulted : is_faulted new ≡ true → (is_faulted old ≡ true) ⊎ Rose faults faults_after

-- the writers up to this number have ended, and unless a write failed their close marks were written
pub record IsOverUpTo {S : Type 0} (ended : S → Bool) (count : ℕ) (roamer : Roamer S) : Type 0 where
  pub ends : (writer : ℕ) (end : S) → writer < count → slice_get (ends_of roamer) writer ≡ Some end
      → ended end ≡ true
  pub marked : is_faulted roamer ≡ false → (writer : ℕ) → writer < count → is_marked roamer writer ≡ true
