-- What the commands over traces do.
use Rattle.std.specs.Prelude.{◌≡◌, ℕ, List}
use Rattle.trace_text.specs.Recordings.{Recording}
use Rattle.trace_text.specs.Canonical.{Canonical}
use Rattle.trace_generator.specs.Generated.{Generated}
use Rattle.command_base.specs.Endings.{Done}
use Rattle.command_base.specs.Tasks.{WhilePrinting, Task, text_alone}
use Rattle.command_base.specs.Readings.{Form, never, printing_task, free_task}
use Rattle.trace_commands.specs.Traces.{TraceRead, IsRefusedTrace, IsTrace}
use Rattle.trace_commands.specs.Texts.{direct_text}

-- what a trace gives: the lines of its calls, where it was read to its last byte; or it is refused
abbrev pub GivesLines : List ℕ → Form
GivesLines trace old product Done =
    (run : Recording) × TraceRead old trace run × (product ≡ text_alone (direct_text run))
GivesLines trace old product ending = IsRefusedTrace trace old product ending

-- `direct`: the lines of the calls of a trace are printed
abbrev pub direct_task : List ℕ → Task
direct_task trace = printing_task trace WhilePrinting (GivesLines trace) never IsTrace

-- `generate`: the text of the trace that is drawn from the seed is printed
abbrev pub generate_task : ℕ → ℕ → ℕ → Task
generate_task seed calls writers =
    free_task WhilePrinting (λ product. product ≡ text_alone (Canonical (Generated seed calls writers)))
