use Rattle.std.proofs.Common.{ℕ, ◌<◌, rules}
use Rattle.std.proofs.lemmas.List.Elements.{All-from_get_or}
use Rattle.buffer_extent.proofs.Arguments.{coded_format}
use Rattle.buffer_extent.proofs.unpack.unpack_arguments.Goals as goal

pub take_texts-requires : goal.take_texts-requires
take_texts-requires g c =
    let (front, joined, coded) = (coded_format c.types-types.result.now).taken c.args.bytes.now _ c.in_ok-rest.rest.now
    (All-from_get_or (λ (b : ℕ). b < 256) c.args.bytes.now 0 (λ i _. (c.type_inv.bytes i).fits)) c.in_ok-rest.ensures in
    (search rules, (search rules, coded.2))
