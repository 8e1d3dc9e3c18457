-- How the printing of a text ends.
use Rattle.std.specs.Prelude.{◌≡◌, ◌≢◌, ◌⊎◌, ℕ, List, [], Result, Ok, Err}
use Rattle.nl_io.specs.Count.{Rose}
use Rattle.nl_io.specs.Content.{Told, with_end, PutsFront}
use Rattle.nl_io.specs.declared.failed.Failed.{Failed}
use Rattle.command_base.specs.Endings.{Ending, Done, WriteFault, NoMemory}
use Rattle.command_base.specs.Words.{standard_output, words_of}

-- How the printing of a text ends: all of it is printed, or a front of it, where a call failed or memory was wanting. A
-- call fails only where there is something to print.
abbrev pub Prints : List ℕ → Told → Told → ℕ → ℕ → Ending → Type 0
Prints text was is before after Done = (is ≡ with_end text was) × (after ≡ before)
Prints text was is before after (WriteFault name) =
    (name ≡ standard_output) × (text ≢ []) × PutsFront text was is × Rose before after
Prints text was is before after NoMemory = PutsFront text was is × (after ≡ before)
Prints text was is before after ending = ⊥

-- what putting a text into the standard output answers, as an end
abbrev pub printed_ending : {T : Type 0} → Result T Failed → Ending
printed_ending (Ok x) = Done
printed_ending (Err failed) = WriteFault standard_output

-- these words were said whole, and no call failed, or a front of them, and a call failed
abbrev pub Says : List ℕ → Told → Told → ℕ → ℕ → Type 0
Says words was is before after =
    ((is ≡ with_end words was) × (after ≡ before)) ⊎ (PutsFront words was is × Rose before after)

-- What is said of an end: its words; where all was done and there is nothing to tell, no call is made.
abbrev pub Tells : Ending → Told → Told → ℕ → ℕ → Type 0
Tells Done was is before after = (is ≡ was) × (after ≡ before)
Tells ending was is before after = Says (words_of ending) was is before after
