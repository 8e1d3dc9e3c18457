use Rattle.std.proofs.Common.{◌<◌, length, refl, ap, arith}
use Rattle.std.proofs.lemmas.List.Elements.{All-from_get_or}
use Rattle.nibble_pack.specs.Bytes.{AreBytes}
use Rattle.log_dictionary.specs.EntryReading.{raw_fields}
use Rattle.log_dictionary.proofs.lemmas.BinaryLaws.{fields_format, entry_within, entry_made}
use Rattle.log_dictionary.proofs.binary_entry.read_entry.Goals as goal

pub invariant_of-message : goal.invariant_of-message
invariant_of-message c =
    let small : AreBytes c.args.bytes.now = All-from_get_or (λ byte. byte < 256) c.args.bytes.now 0 (λ i within. (c.type_inv.bytes i).fits) in
    let in_range = (fields_format.taken c.args.bytes.now (raw_fields c.in_ok-fields.fields) c.in_ok-fields.field-0-1.now small c.in_ok-fields.ensures).2.1 in
    let same = ap length c.in-Ok-from_slice.ensures in
    record { file_length = (omega (arith, same, in_range.named), omega (arith, same, in_range.short_name)) }

pub returns-clause-read : goal.returns-clause-read
returns-clause-read c =
    let small : AreBytes c.args.bytes.now = All-from_get_or (λ byte. byte < 256) c.args.bytes.now 0 (λ i within. (c.type_inv.bytes i).fits) in
    let format = c.in-Ok.ensures.found in
    entry_made c.args.bytes.now c.in_ok-fields.field-0-1.now (raw_fields c.in_ok-fields.fields) _ c.entry_len-len.result small c.in_ok-fields.ensures refl refl c.in-Ok-from_slice.ensures format.0 format.1 c.entry_len-len.ensures.len

pub returns-clause-within : goal.returns-clause-within
returns-clause-within c =
    let small : AreBytes c.args.bytes.now = All-from_get_or (λ byte. byte < 256) c.args.bytes.now 0 (λ i within. (c.type_inv.bytes i).fits) in
    entry_within c.args.bytes.now c.in_ok-fields.field-0-1.now (raw_fields c.in_ok-fields.fields) _ _ c.entry_len-len.result small c.in_ok-fields.ensures c.in-Ok-from_slice.ensures c.in-Ok.ensures.found.0 c.entry_len-len.ensures.len
