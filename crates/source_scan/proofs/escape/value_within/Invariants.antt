use Rattle.std.proofs.Common.{◌≡◌, ◌≤◌, length}
use Rattle.std.specs.Str.Parse.{digits_value, digits_value_after, AllDigits}
use Rattle.source_scan.proofs.escape.value_within.Given as goal

abbrev pub invariant-loop-rest : goal.invariant-loop-rest
invariant-loop-rest l = record {
  within : l.value ≤ l.limit;
  digits : AllDigits l.radix l.rest;
  goes : digits_value_after l.radix l.value l.rest ≡ digits_value l.radix l.digits;
}

abbrev pub decreases-loop-rest : goal.decreases-loop-rest
decreases-loop-rest l = length l.rest
