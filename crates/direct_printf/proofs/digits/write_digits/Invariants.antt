use Rattle.std.proofs.Common.{◌≡◌, ◌≤◌, length, drop}
use Rattle.direct_printf.proofs.Spelling.{IsLeft}
use Rattle.direct_printf.proofs.digits.write_digits.Given as goal

-- what is left goes in front of the digits that stand
abbrev pub invariant-loop-left : goal.invariant-loop-left
invariant-loop-left l =
    (l.at ≤ 22) × (length l.buffer ≡ 22) × IsLeft l.base l.upper l.value l.left l.at (drop l.at l.buffer)

abbrev pub decreases-loop-left : goal.decreases-loop-left
decreases-loop-left l = l.left
