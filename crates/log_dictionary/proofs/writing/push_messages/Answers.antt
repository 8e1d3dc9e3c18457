use Rattle.std.proofs.Common.{◌≡◌, [], take, vec_len, refl, sym, ap, length, append-nil, arith, rules}
use Rattle.log_dictionary.proofs.lemmas.Appending.{kept}
use Rattle.log_dictionary.proofs.writing.push_messages.Goals as goal

pub loop-id-init : goal.loop-id-init
loop-id-init c =
    let all = c.iter-message-items.ensures in
    (([], sym (append-nil _)), rw all refl, omega (arith, ap length all))

pub returns-in_err-push_message-clause-err : goal.returns-in_err-push_message-clause-err
returns-in_err-push_message-clause-err c =
    let stands : take (vec_len c.args.out.now) c.push_message.new.out.items ≡ c.args.out.now.items =
    kept _ _ _ _ _ _ c.args.out.now.ok.0 c.loop-id.out.ok.0 c.loop-id.invariant.0.1 c.in_err-push_message.ensures.err in
    search rules
