use Rattle.std.proofs.Common.{◌≡◌, ◌+◌, ◌*◌, ◌<◌, ◌≤◌, ℕ, List, ◌∷◌, ◌++◌, length, take, refl, sym, ap, subst, ◌∙◌, arith}
use Rattle.std.proofs.lemmas.List.{length-append, length-set}
use Rattle.std.specs.Prelude.{pos}
use Rattle.nibble_pack.specs.Packing.{unsigned, Packed}
use Rattle.nibble_pack.proofs.lemmas.PackingLaws.{Packed-length}
use Rattle.arg_records.specs.Places.{with_words}
use Rattle.buffer_extent.specs.Writing.{HeadBytes}
use Rattle.buffer_extent.proofs.Packing.{id_short, has_its_bytes}
use Rattle.buffer_extent.proofs.Writes.{head_written}
use Rattle.buffer_extent.proofs.put.put_head.Goals as goal

of_id : (n id code : ℕ) (bytes : List ℕ) → n ≡ id → id < 65536 → Packed unsigned (pos n) code bytes → code ≤ 2
of_id n id code bytes is below packed = id_short n code bytes packed (omega arith)

pub put_packed-requires-clause-whole : goal.put_packed-requires-clause-whole
put_packed-requires-clause-whole c = let step = c.pack_unsigned-step_number in has_its_bytes unsigned (pos c.args.step) step.result step.ensures.packed step.ensures.len step.ensures.room step.ensures.others

pub put_packed-end-requires-clause-whole : goal.put_packed-end-requires-clause-whole
put_packed-end-requires-clause-whole c = let id = c.pack_unsigned-id_number in has_its_bytes unsigned (pos c.from.result) id.result id.ensures.packed id.ensures.len id.ensures.room id.ensures.others

pub put_packed-requires-clause-room : goal.put_packed-requires-clause-room
put_packed-requires-clause-room c =
    let short = of_id c.from.result c.args.id c.pack_unsigned-id_number.result.code _ c.from.ensures c.requires.id c.pack_unsigned-id_number.ensures.packed in
    let kept = c.put_packed-end.auto.body in
    omega (arith, kept, length-set c.args.body.now c.args.at (c.pack_unsigned-id_number.result.code + 16 * c.pack_unsigned-step_number.result.code))

pub returns-clause-bound : goal.returns-clause-bound
returns-clause-bound c =
    let short = of_id c.from.result c.args.id c.pack_unsigned-id_number.result.code _ c.from.ensures c.requires.id c.pack_unsigned-id_number.ensures.packed in
    (omega arith, omega arith)

pub returns-clause-written : goal.returns-clause-written
returns-clause-written c =
    let id = c.pack_unsigned-id_number.result in
    let step = c.pack_unsigned-step_number.result in
    let ids : List ℕ = take id.len id.bytes in
    let steps : List ℕ = take step.len step.bytes in
    let codes : ℕ = id.code + 16 * step.code in
    let id_packed : Packed unsigned (pos c.args.id) id.code ids = subst (λ (n : ℕ). Packed unsigned (pos n) id.code ids) c.from.ensures c.pack_unsigned-id_number.ensures.packed in
    let id_len : length ids ≡ id.len = Packed-length unsigned (pos c.args.id) id.code ids id_packed ∙ sym c.pack_unsigned-id_number.ensures.len in
    let step_len : length steps ≡ step.len = Packed-length unsigned (pos c.args.step) step.code steps c.pack_unsigned-step_number.ensures.packed ∙ sym c.pack_unsigned-step_number.ensures.len in
    let end : c.args.at + 1 + length ids ≡ c.put_packed-end.result = omega arith in
    let written = c.put_packed.ensures.written ∙ ap (λ (b : List ℕ). with_words b c.put_packed-end.result steps) c.put_packed-end.ensures.written
    ∙ head_written c.args.body.now c.args.at c.put_packed-end.result codes ids steps (omega arith) end in
    let head : HeadBytes c.args.id c.args.step (codes ∷ (ids ++ steps)) = record {
      id_number = record { code = id.code; bytes = ids };
      step_number = record { code = step.code; bytes = steps };
      id_packed = id_packed;
      step_packed = c.pack_unsigned-step_number.ensures.packed;
      joined = refl;
    } in
    (codes ∷ (ids ++ steps), head, written, omega (arith, length-append ids steps))
