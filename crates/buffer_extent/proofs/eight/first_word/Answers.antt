use Rattle.std.proofs.Common.{take, ap, ◌∙◌}
use Rattle.std.proofs.lemmas.List.{length-take-le}
use Rattle.std.proofs.lemmas.Nat.{le_bytes_8}
use Rattle.std.specs.Int.{w64, from_le_bytes}
use Rattle.buffer_extent.proofs.lemmas.Codes.{take_fits}
use Rattle.buffer_extent.proofs.eight.first_word.Goals as goal

pub returns : goal.returns
returns c =
    let first = rw c.unwrap.ensures at c.first_chunk.ensures.cases in
    let bytes = c.args.bytes.now in
    le_bytes_8 (take 8 bytes) c.from_le_bytes.result (length-take-le 8 bytes c.requires) (λ i. take_fits 8 bytes i (λ k. (c.type_inv.bytes k).fits)) (c.from_le_bytes.ensures ∙ ap (from_le_bytes w64) first.same)
