-- How the writing of a text ends.
use Rattle.std.specs.Prelude.{◌≡◌, ℕ, List, Result, Ok, Err}
use Rattle.nl_io.specs.Content.{Told, with_end, PutsFront}
use Rattle.nl_io.specs.TextWriters.{Carries, IsCutOff}
use Rattle.trace_text.specs.declared.writing.WriteTraceFault.{WriteTraceFault}
use Rattle.trace_text.specs.declared.writing.WriteTraceFault.TheVariants.{Failed, NoMemory}

-- A front of the text went out, and then the fault came. The count of faults rose where the sink failed, and is as before
-- where memory was wanting.
abbrev pub CutOffBy : List ℕ → Told → Told → ℕ → ℕ → WriteTraceFault → Type 0
CutOffBy text was is before after Failed = IsCutOff text was is before after
CutOffBy text was is before after NoMemory = PutsFront text was is × (after ≡ before)

-- the text is on its way, or was cut off
abbrev pub KeepsWriting : List ℕ → Told → Told → ℕ → ℕ → List ℕ → Result (Unit {0}) WriteTraceFault → Type 0
KeepsWriting text was is before after held (Ok done) = Carries text was is held × (after ≡ before)
KeepsWriting text was is before after held (Err fault) = CutOffBy text was is before after fault

-- the text went out, or was cut off
abbrev pub Writes : List ℕ → Told → Told → ℕ → ℕ → Result (Unit {0}) WriteTraceFault → Type 0
Writes text was is before after (Ok done) = (is ≡ with_end text was) × (after ≡ before)
Writes text was is before after (Err fault) = CutOffBy text was is before after fault
