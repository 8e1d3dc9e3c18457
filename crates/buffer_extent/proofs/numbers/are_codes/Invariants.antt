use Rattle.std.proofs.Common.{◌≡◌, drop}
use Rattle.buffer_extent.specs.Reading.{are_codes, codes_in}
use Rattle.buffer_extent.proofs.numbers.are_codes.Given as goal

abbrev pub invariant-loop-place : goal.invariant-loop-place
invariant-loop-place l = are_codes l.types (codes_in l.codes) ≡ are_codes (drop l.place l.types) (drop l.place (codes_in l.codes))
