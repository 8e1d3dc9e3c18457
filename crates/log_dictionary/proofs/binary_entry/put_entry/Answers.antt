use Rattle.std.proofs.Common.{ℕ, List, [], ◌∷◌, ◌++◌, length, drop, ap, arith, ◌∙◌, sym}
use Rattle.log_dictionary.specs.Severities.{severity_number}
use Rattle.log_dictionary.specs.BinaryEntries.{raw_of, text_bytes}
use Rattle.log_dictionary.proofs.BinaryNumbers.{four_bytes}
use Rattle.log_dictionary.proofs.lemmas.BinaryLaws.{raw_length, after_text}
use Rattle.log_dictionary.proofs.lemmas.Putting.{then_put}
use Rattle.log_dictionary.proofs.binary_entry.put_entry.Goals as goal

pub put-at-requires-2 : goal.put-at-requires-2
put-at-requires-2 c = record { room = omega (arith, c.requires.room, raw_length (raw_of c.args.message.now), c.put-at.ensures.after, c.put-at.ensures.kept, ap length c.to_le_bytes.ensures) }

pub put_text-at-requires-clause-room : goal.put_text-at-requires-clause-room
put_text-at-requires-clause-room c = omega (arith, c.requires.room, raw_length (raw_of c.args.message.now), c.put-at.ensures.after, c.put-at.ensures.kept, ap length c.to_le_bytes.ensures, c.put-at-2.ensures.after, c.put-at-2.ensures.kept, ap length c.as_slice.ensures)

pub put_text-requires-clause-room : goal.put_text-requires-clause-room
put_text-requires-clause-room c = omega (arith, c.requires.room, raw_length (raw_of c.args.message.now), c.put-at.ensures.after, c.put-at.ensures.kept, ap length c.to_le_bytes.ensures, c.put-at-2.ensures.after, c.put-at-2.ensures.kept, ap length c.as_slice.ensures, c.put_text-at.ensures.after, c.put_text-at.ensures.kept, ap length c.bytes.ensures.bytes)

pub returns-clause-len : goal.returns-clause-len
returns-clause-len c = omega (arith, raw_length (raw_of c.args.message.now), c.put-at.ensures.after, ap length c.to_le_bytes.ensures, c.put-at-2.ensures.after, ap length c.as_slice.ensures, c.put_text-at.ensures.after, ap length c.bytes.ensures.bytes, c.put_text.ensures.after)

pub returns-clause-put : goal.returns-clause-put
returns-clause-put c =
    let old = c.args.into.now in
    let severity : List ℕ = c.number.result ∷ [] in
    let line : List ℕ = c.to_le_bytes.result in
    let file : List ℕ = text_bytes c.as_slice.result.now in
    let format : List ℕ = text_bytes c.bytes.result.now in
    let head = then_put old c.put-at.new.into c.put-at-2.new.into severity line 0 c.put-at.result c.put-at-2.result (omega arith) (record { put = c.put-at.ensures.put; after_is = c.put-at.ensures.after }) (record { put = c.put-at-2.ensures.put; after_is = c.put-at-2.ensures.after }) in
    let named = then_put old c.put-at-2.new.into c.put_text-at.new.into (severity ++ line) file 0 c.put-at-2.result c.put_text-at.result (omega arith) head (record { put = c.put_text-at.ensures.put; after_is = c.put_text-at.ensures.after ∙ sym (after_text c.put-at-2.result c.as_slice.result.now) }) in
    let whole = then_put old c.put_text-at.new.into c.put_text.new.into (severity ++ line ++ file) format 0 c.put_text-at.result c.put_text.result (omega arith) named (record { put = c.put_text.ensures.put; after_is = c.put_text.ensures.after ∙ sym (after_text c.put_text-at.result c.bytes.result.now) }) in
    whole.put ∙ rw (c.number.ensures, c.to_le_bytes.ensures, c.as_slice.ensures, c.bytes.ensures.bytes) (ap (λ (l : List ℕ). severity_number c.args.message.now.severity ∷ l ++ text_bytes c.args.message.now.file ++ text_bytes c.args.message.now.format.bytes ++ drop c.put_text.result old) (sym (four_bytes c.args.message.now.line)))
