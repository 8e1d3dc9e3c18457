use Rattle.std.proofs.Common.{◌≡◌, ℕ, zero, suc, ◌-◌, ◌*◌, ◌%◌, ◌^◌, ◌<◌, ◌≤◌, length, take, get_or, refl, ap, ◌∙◌, arith}
use Rattle.std.proofs.lemmas.List.{length-take-le, take-take}
use Rattle.std.proofs.lemmas.List.Elements.{All-from_get_or, All-take}
use Rattle.std.proofs.lemmas.Nat.{and_mask}
use Rattle.std.specs.Prelude.{bit_and}
use Rattle.std.specs.Int.{w64, from_le_bytes}
use Rattle.nibble_pack.specs.Bytes.{number_of_bytes, from_le_bytes-number}
use Rattle.nibble_pack.specs.declared.unpack.TheConstants.{LOW_BYTES}
use Rattle.nibble_pack.proofs.lemmas.Fronts.{bytes_cut, read_front}
use Rattle.nibble_pack.proofs.unpack.front_number.Goals as goal

-- the masks have the bits of so many bytes
low_bytes : (count : ℕ) → count ≤ 8 → get_or LOW_BYTES count 0 ≡ 2 ^ (8 * count) - 1
low_bytes zero h = refl
low_bytes (suc zero) h = refl
low_bytes (suc (suc zero)) h = refl
low_bytes (suc (suc (suc zero))) h = refl
low_bytes (suc (suc (suc (suc zero)))) h = refl
low_bytes (suc (suc (suc (suc (suc zero))))) h = refl
low_bytes (suc (suc (suc (suc (suc (suc zero)))))) h = refl
low_bytes (suc (suc (suc (suc (suc (suc (suc zero))))))) h = refl
low_bytes (suc (suc (suc (suc (suc (suc (suc (suc zero)))))))) h = refl
low_bytes (suc (suc (suc (suc (suc (suc (suc (suc (suc more))))))))) h = absurd (omega arith)

pub returns-in-Some : goal.returns-in-Some
returns-in-Some c =
    let first = c.in-Some.ensures.cases in
    let bytes = c.args.bytes.now in
    let eight : length (take 8 bytes) ≡ 8 = length-take-le 8 bytes (omega arith) in
    let are = All-take (λ (b : ℕ). b < 256) 8 bytes (All-from_get_or (λ (b : ℕ). b < 256) bytes 0 (λ i _. (c.type_inv.bytes i).fits)) in
    ap (bit_and c.from_le_bytes.result) (low_bytes c.args.count c.requires.most) ∙ and_mask c.from_le_bytes.result (8 * c.args.count)
    ∙ ap (λ (n : ℕ). n % 2 ^ (8 * c.args.count)) (c.from_le_bytes.ensures ∙ ap (from_le_bytes w64) first.same ∙ from_le_bytes-number (take 8 bytes) eight)
    ∙ (bytes_cut (take 8 bytes) c.args.count are (omega arith)).low ∙ ap number_of_bytes (take-take c.args.count 8 bytes c.requires.most)

pub returns-in-None : goal.returns-in-None
returns-in-None c =
    c.from_le_bytes-in-None.ensures ∙ ap (from_le_bytes w64) c.front.ensures
    ∙ read_front (take c.args.count c.args.bytes.now) c.args.count (length-take-le c.args.count c.args.bytes.now c.requires.stands) c.requires.most
