-- Counts of steps, one after the other.
use Rattle.std.proofs.Common.{ℕ, ◌+◌, arith}
use Rattle.nl_io.specs.Count.{counted}
use Rattle.word_ring.specs.Counts.{CountsSteps}

pub no_step : (n : ℕ) → CountsSteps 0 n n
no_step n = record { range = λ h. h; rises = λ h. (omega arith, omega arith) }

pub one_step : (n : ℕ) → CountsSteps 1 n (counted n)
one_step n = record { range = λ h. omega arith; rises = λ h. (omega (arith, h), omega arith) }

pub steps_then : (i j a b c : ℕ) → CountsSteps i a b → CountsSteps j b c → CountsSteps (i + j) a c
steps_then i j a b c first second = record {
  range = λ h. second.range (first.range h);
  rises = λ h. let one = first.rises h in let two = second.rises (first.range h) in (omega (arith, one.0, two.0), omega (arith, one.1, two.1));
}
