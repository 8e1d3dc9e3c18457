use Rattle.std.proofs.Common.{◌≡◌, take, vec_len, rules}
use Rattle.log_dictionary.proofs.lemmas.Appending.{kept}
use Rattle.code_inject.proofs.rewrite.push_head.Goals as goal

pub returns-in_err-push_call-clause-err : goal.returns-in_err-push_call-clause-err
returns-in_err-push_call-clause-err c =
    let stands : take (vec_len c.args.out.now) c.push_call.new.out.items ≡ c.args.out.now.items =
    kept _ _ _ _ _ _ c.args.out.now.ok.0 c.extend_from_slice.new.self.ok.0 c.in_ok-extend_from_slice.ensures.items c.in_err-push_call.ensures.err in
    search rules
