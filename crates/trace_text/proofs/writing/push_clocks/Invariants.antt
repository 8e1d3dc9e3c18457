use Rattle.std.proofs.Common.{◌≡◌, ◌++◌, take}
use Rattle.std.specs.List.{flat_map}
use Rattle.trace_text.specs.Canonical.{clock_text}
use Rattle.trace_text.proofs.writing.push_clocks.Given as goal

-- the lines of the clocks so far are appended
abbrev pub invariant-loop-clock : goal.invariant-loop-clock
invariant-loop-clock l = l.text.items ≡ l.fn.text.items ++ flat_map clock_text (take l.clock-index l.clocks)
