use Rattle.std.proofs.Common.{◌≡◌, List, ℕ, take, sym, ap, ◌∙◌}
use Rattle.std.proofs.lemmas.List.{take_at}
use Rattle.std.specs.Hash.DefaultHasher as sip
use Rattle.log_dictionary.specs.BinaryEntries.{entry_bytes}
use Rattle.log_dictionary.specs.Places.{hash_of}
use Rattle.log_dictionary.proofs.message_set.hash_of.Goals as goal

pub returns-clause-value : goal.returns-clause-value
unfolding hash_of
returns-clause-value c =
    let entry : take c.entry_len-len.result c.put_entry.new.into ≡ entry_bytes c.args.message.now =
    ap (take c.entry_len-len.result) c.put_entry.ensures.put ∙ take_at (entry_bytes c.args.message.now) _ c.entry_len-len.result (sym c.entry_len-len.ensures.len) in
    c.finish.ensures ∙ ap sip.finish c.write.ensures ∙ ap (λ s. sip.finish (sip.write s (take c.entry_len-len.result c.put_entry.new.into))) c.new-hasher.ensures
    ∙ ap (λ (bytes : List ℕ). sip.finish (sip.write sip.initial bytes)) entry
