use Rattle.std.proofs.Common.{◌≡◌, take, vec_len, rules}
use Rattle.log_dictionary.proofs.lemmas.Appending.{kept}
use Rattle.code_inject.proofs.headers.push_array.Goals as goal

pub returns-in_err-push_line-clause-err : goal.returns-in_err-push_line-clause-err
returns-in_err-push_line-clause-err c =
    let stands : take (vec_len c.args.out.now) c.push_line.new.out.items ≡ c.args.out.now.items =
    kept _ _ _ _ _ _ c.args.out.now.ok.0 c.loop-message.out.ok.0 c.loop-message.invariant.0.1 c.in_err-push_line.ensures.err in
    search rules
