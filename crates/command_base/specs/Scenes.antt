-- What a command reads and writes.
use Rattle.std.specs.Prelude.{ℕ}
use Rattle.nl_io.specs.Content.{Told}
use Rattle.nl_io.specs.Desk.{Desk}

-- what a command reads and writes: the files, what went to the standard output, and how many of its calls failed
pub record Scene : Type 0 where
  pub desk : Desk
  pub put : Told
  pub faults : ℕ

abbrev pub scene : Desk → Told → ℕ → Scene
scene desk put faults = record { desk = desk; put = put; faults = faults }
