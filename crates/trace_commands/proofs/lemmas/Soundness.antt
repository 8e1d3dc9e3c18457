-- The commands over traces are sound.
use Rattle.std.proofs.Common.{◌≡◌, ℕ, List, Option, None, refl}
use Rattle.nl_io.specs.Desk.{Desk}
use Rattle.trace_text.specs.Canonical.{Canonical}
use Rattle.trace_generator.specs.Generated.{Generated}
use Rattle.trace_text.specs.Reading.{TraceBreak}
use Rattle.trace_text.proofs.lemmas.ToldApart.{not_broken}
use Rattle.command_base.specs.Endings.{ToldCause, Ending, IsDone, Done, Refused}
use Rattle.command_base.specs.HeldFiles.{Holds}
use Rattle.command_base.proofs.lemmas.HeldLaws.{such_is}
use Rattle.command_base.specs.Tasks.{Product, WhilePrinting, text_alone}
use Rattle.command_base.specs.Readings.{never}
use Rattle.command_base.specs.Soundness.{IsSound}
use Rattle.command_base.proofs.lemmas.SoundTasks.{file_sound, free_sound}
use Rattle.trace_commands.specs.Traces.{IsTrace, IsRefusedAt}
use Rattle.trace_commands.specs.Tasks.{GivesLines, direct_task, generate_task}

-- a right trace isn't refused
pub right_trace : (trace : List ℕ) (desk : Desk) (product : Product) (name : List ℕ) (line : Option ℕ) (cause : ToldCause)
    → Holds desk trace IsTrace → ¬ (IsRefusedAt trace desk product name line cause)
right_trace trace desk product name line cause holds (named, none, (at, why, there, told, breaks)) =
    not_broken holds.bytes holds.formed.0 at why holds.formed.1
    (such_is desk trace IsTrace (λ bytes. TraceBreak bytes at why) holds breaks)

lines_done : (trace : List ℕ) (desk : Desk) (product : Product) (ending : Ending) → Holds desk trace IsTrace
    → GivesLines trace desk product ending → IsDone ending
lines_done trace desk product Done holds gives = refl
lines_done trace desk product (Refused name line cause) holds gives =
    absurd (right_trace trace desk product name line cause holds gives)
lines_done trace desk product ending holds gives = absurd gives

pub direct_sound : (trace : List ℕ) → IsSound (direct_task trace)
direct_sound trace =
    file_sound trace WhilePrinting (GivesLines trace) never IsTrace None (λ desk bytes. ⊥)
    (record { done = lines_done trace; streams = λ desk text begun. absurd begun; there = λ desk bytes left. absurd left })

pub generate_sound : (seed calls writers : ℕ) → IsSound (generate_task seed calls writers)
generate_sound seed calls writers =
    free_sound WhilePrinting (λ product. product ≡ text_alone (Canonical (Generated seed calls writers)))
