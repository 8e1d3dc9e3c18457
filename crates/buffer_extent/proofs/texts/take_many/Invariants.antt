use Rattle.std.proofs.Common.{◌≡◌, length}
use Rattle.printf_grammar.specs.Types.{values_of}
use Rattle.buffer_extent.specs.declared.fault.BodyCause.TheVariants as causes
use Rattle.buffer_extent.specs.Reading.{value_at}
use Rattle.nibble_pack.proofs.lemmas.Parsing.{IsReadSoFar}
use Rattle.buffer_extent.proofs.texts.take_many.Given as goal

abbrev pub invariant-loop-place : goal.invariant-loop-place
invariant-loop-place g l = record {
  many : length l.args.items ≡ l.place;
  read : IsReadSoFar causes.RecordCut value_at l.types l.numbers l.bytes (values_of l.args.items) l.place l.rest;
}
