use Rattle.std.proofs.Common.{◌≡◌, take, vec_len, rules}
use Rattle.log_dictionary.proofs.lemmas.Appending.{kept, line_begun}
use Rattle.preprocessor.proofs.words.push_line.Goals as goal

pub returns-in_err-push_place-clause-err : goal.returns-in_err-push_place-clause-err
returns-in_err-push_place-clause-err c =
    let stands : take (vec_len c.args.out.now) c.push_place.new.out.items ≡ c.args.out.now.items =
    kept _ _ _ _ _ _ c.args.out.now.ok.0 c.push_fields.new.out.ok.0 c.in_ok-push_fields.ensures.ok c.in_err-push_place.ensures.err in
    search rules

pub returns-clause-ok : goal.returns-clause-ok
returns-clause-ok c = line_begun _ _ _ _ _ _ _ c.in_ok-push_fields.ensures.ok c.in_ok-push_place.ensures.ok c.in_ok-push.ensures.items
