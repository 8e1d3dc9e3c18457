use Rattle.std.proofs.Common.{◌≡◌, length, take}
use Rattle.buffer_extent.specs.declared.fault.BodyCause.TheVariants as causes
use Rattle.buffer_extent.specs.Reading.{argument_at, codes_in}
use Rattle.nibble_pack.proofs.lemmas.Parsing.{IsReadSoFar}
use Rattle.buffer_extent.proofs.numbers.take_numbers.Given as goal

abbrev pub invariant-loop-place : goal.invariant-loop-place
invariant-loop-place l = record {
  room : length l.numbers ≡ 64;
  read : IsReadSoFar causes.RecordCut argument_at l.types (codes_in l.codes) l.bytes (take l.place l.numbers) l.place l.rest;
}
