use Rattle.std.proofs.Common.{◌≡◌, ℕ, List, ◌++◌}
use Rattle.std.specs.String.{string_bytes}
use Rattle.std.specs.Slice.Iter.{iter_rest}
use Rattle.log_commands.specs.Decompressing.{writers_text}
use Rattle.log_commands.proofs.decompressing.text_of_numbers.Given as goal

-- the text is the numbers that were seen
abbrev pub invariant-loop-number : goal.invariant-loop-number
invariant-loop-number l = (seen : List ℕ) × (seen ++ iter_rest l.number-iterator ≡ l.numbers) × (string_bytes l.text ≡ writers_text seen)
