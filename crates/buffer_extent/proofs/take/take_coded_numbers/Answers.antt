use Rattle.std.proofs.Common.{ℕ, ◌<◌, length, take, sym}
use Rattle.std.proofs.lemmas.List.Elements.{All-from_get_or}
use Rattle.buffer_extent.proofs.Arguments.{coded_read}
use Rattle.buffer_extent.proofs.take.take_coded_numbers.Goals as goal

pub returns-then-are_padded : goal.returns-then-are_padded
returns-then-are_padded c =
    coded_read (λ rest. rest.now) c.take_numbers-read.result c.args.types.now c.args.bytes.now c.in_ok-codes.codes.now c.in_ok-codes.rest.now (take (length c.args.types.now) c.take_numbers-read.new.numbers)
    (All-from_get_or (λ (b : ℕ). b < 256) c.args.bytes.now 0 (λ i _. (c.type_inv.bytes i).fits)) c.in_ok-codes.ensures.split
    (sym c.if-are_padded.ensures) (sym c.if-is_ok.ensures.value) c.take_numbers-read.ensures
