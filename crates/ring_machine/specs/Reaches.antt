-- How far a stream of words has come, in numbers.
use Rattle.std.specs.Prelude.{◌≡◌, ◌≢◌, ◌-◌, ◌≤◌, [], length}
use Rattle.ring_machine.specs.declared.reach.Reach.{Reach}
use Rattle.ring_machine.specs.Streams.{Walk, frame_len}

-- the position, the number of whole frames, and how many words the frame wants that isn't whole, if there is one
pub record IsReach (w : Walk) (r : Reach) : Type 0 where
  pub at : r.at ≡ w.at
  pub frames : r.frames ≡ length w.frames
  pub left : r.left ≡ frame_len w.part - length w.part
  pub begun : w.part ≢ [] → 1 ≤ r.left
  pub few : r.frames ≤ r.at
