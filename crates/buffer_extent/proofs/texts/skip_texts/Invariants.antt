use Rattle.std.proofs.Common.{◌≡◌, List, length}
use Rattle.printf_grammar.specs.declared.argument.Value.{Value}
use Rattle.buffer_extent.specs.declared.fault.BodyCause.TheVariants as causes
use Rattle.buffer_extent.specs.Reading.{value_at}
use Rattle.nibble_pack.proofs.lemmas.Parsing.{IsReadSoFar}
use Rattle.buffer_extent.proofs.texts.skip_texts.Given as goal

-- these arguments were read
abbrev pub invariant-loop-place : goal.invariant-loop-place
invariant-loop-place l = (args : List Value) × (length args ≡ l.place) × IsReadSoFar causes.RecordCut value_at l.types l.numbers l.bytes args l.place l.rest
