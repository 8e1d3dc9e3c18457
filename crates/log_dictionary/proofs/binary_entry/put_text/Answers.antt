use Rattle.std.proofs.Common.{ℕ, List, ◌++◌, length, take, drop, ap, arith, ◌∙◌, sym}
use Rattle.log_dictionary.proofs.BinaryNumbers.{two_bytes}
use Rattle.log_dictionary.proofs.lemmas.Putting.{then_put}
use Rattle.log_dictionary.proofs.binary_entry.put_text.Goals as goal

pub returns-clause-put : goal.returns-clause-put
returns-clause-put c =
    let text = c.args.text.now in
    let old = c.args.into.now in
    let stand = then_put old c.put-at.new.into c.put.new.into c.to_le_bytes.result text c.args.at c.put-at.result c.put.result (omega (arith, c.requires.room)) (record { put = c.put-at.ensures.put; after_is = c.put-at.ensures.after }) (record { put = c.put.ensures.put; after_is = c.put.ensures.after }) in
    stand.put ∙ ap (λ (front : List ℕ). take c.args.at old ++ (front ++ text) ++ drop c.put.result old) (c.to_le_bytes.ensures ∙ sym (two_bytes (length text)))
