use Rattle.std.proofs.Common.{ℕ, ◌<◌}
use Rattle.std.proofs.lemmas.List.Elements.{All-from_get_or}
use Rattle.nibble_pack.specs.Packing.{signed}
use Rattle.buffer_extent.proofs.PackedNumbers.{told, signed_broken, signed_front}
use Rattle.buffer_extent.proofs.numbers.take_signed.Goals as goal

pub returns-in-Ok : goal.returns-in-Ok
returns-in-Ok c = signed_front c.in-Ok.number c.args.code c.in-Some.len c.args.bytes.now c.in-Some.ensures.1 c.in-Ok.ensures.ok

pub returns-in-Err : goal.returns-in-Err
returns-in-Err c =
    rw c.cause_of.ensures
    (signed_broken c.in-Err.fault c.args.code c.args.bytes.now (All-from_get_or (λ (b : ℕ). b < 256) c.args.bytes.now 0 (λ i _. (c.type_inv.bytes i).fits))
    (told signed 15 c.unpack_signed.result c.in-Err.fault c.args.code c.args.bytes.now (λ known. known) c.in-Err.is c.unpack_signed.ensures.bad_code c.unpack_signed.ensures.cut c.unpack_signed.ensures.not_shortest))
