use Rattle.std.proofs.Common.{ℕ, ◌<◌}
use Rattle.std.proofs.lemmas.List.Elements.{All-from_get_or}
use Rattle.nibble_pack.specs.Packing.{unsigned}
use Rattle.buffer_extent.proofs.PackedNumbers.{told, unsigned_broken, unsigned_front}
use Rattle.buffer_extent.proofs.numbers.take_unsigned.Goals as goal

pub returns-in-Ok : goal.returns-in-Ok
returns-in-Ok c = unsigned_front c.in-Ok.number c.args.code c.args.bytes.now c.in-Ok.ensures.ok

pub returns-in-Err : goal.returns-in-Err
returns-in-Err c =
    rw c.cause_of.ensures
    (unsigned_broken c.in-Err.fault c.args.code c.args.bytes.now (All-from_get_or (λ (b : ℕ). b < 256) c.args.bytes.now 0 (λ i _. (c.type_inv.bytes i).fits))
    (told unsigned 8 c.unpack_unsigned.result c.in-Err.fault c.args.code c.args.bytes.now (λ known. known) c.in-Err.is c.unpack_unsigned.ensures.bad_code c.unpack_unsigned.ensures.cut c.unpack_unsigned.ensures.not_shortest))
