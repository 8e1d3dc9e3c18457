-- How the printing of lines is cut off.
use Rattle.std.specs.Prelude.{◌≡◌, ℕ, List}
use Rattle.nl_io.specs.Content.{Told, PutsFront}
use Rattle.nl_io.specs.TextWriters.{IsCutOff}
use Rattle.decompressor.specs.declared.fault.DecodeFault.{DecodeFault}
use Rattle.decompressor.specs.declared.fault.DecodeFault.TheVariants.{WriteFault, Damaged, ReadFault, NoMemory}

-- A front of the text went out, and then the fault came. The count of faults rose where the sink failed, and is as before
-- where memory was wanting. Printing ends with no other fault.
abbrev pub CutsText : List ℕ → Told → Told → ℕ → ℕ → DecodeFault → Type 0
CutsText text was is before after WriteFault = IsCutOff text was is before after
CutsText text was is before after NoMemory = PutsFront text was is × (after ≡ before)
CutsText text was is before after ReadFault = ⊥
CutsText text was is before after (Damaged offset cause) = ⊥
