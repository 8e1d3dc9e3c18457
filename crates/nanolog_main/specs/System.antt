-- The system in which the program runs.
use Rattle.std.specs.Prelude.{None}
use Rattle.std.specs.FinMap as map
use Rattle.command_base.specs.Scenes.{Scene, scene}

-- Of the files and of the standard output nothing is told but that no file is open, and that no call has failed.
abbrev pub untold_scene : Scene
untold_scene =
    scene (record { held = None; left = map.empty; made = map.empty; read_faults = 0; write_faults = 0 }) None 0
