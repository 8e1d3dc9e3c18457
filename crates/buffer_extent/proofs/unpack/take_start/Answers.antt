use Rattle.std.proofs.Common.{ℕ, ◌<◌}
use Rattle.std.proofs.lemmas.List.Elements.{All-from_get_or}
use Rattle.nibble_pack.specs.Bytes.{AreBytes, back_bytes}
use Rattle.buffer_extent.proofs.Arguments.{coded_format}
use Rattle.buffer_extent.proofs.RecordForms.{head_format}
use Rattle.buffer_extent.proofs.unpack.take_start.Goals as goal

pub is_staged-requires-clause-fit : goal.is_staged-requires-clause-fit
is_staged-requires-clause-fit c =
    let are : AreBytes c.args.bytes.now = All-from_get_or (λ (b : ℕ). b < 256) c.args.bytes.now 0 (λ i _. (c.type_inv.bytes i).fits) in
    let (front, parts, head) = (head_format _ c.args.before c.args.least).taken c.args.bytes.now c.in_ok-head.head c.in_ok-head.rest.now are c.in_ok-head.ensures in
    let (coded_front, joined, coded) = (coded_format c.types-types.result.now).taken c.in_ok-head.rest.now _ c.in_ok-rest.rest.now (back_bytes c.args.bytes.now front c.in_ok-head.rest.now parts are) c.in_ok-rest.ensures in
    coded.2
