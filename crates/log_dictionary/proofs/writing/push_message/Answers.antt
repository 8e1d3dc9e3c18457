use Rattle.std.proofs.Common.{◌≡◌, take, vec_len, rules}
use Rattle.log_dictionary.proofs.lemmas.Appending.{kept, line_begun, line_joined}
use Rattle.log_dictionary.proofs.writing.push_message.Goals as goal

pub returns-in_err-push_text-clause-err : goal.returns-in_err-push_text-clause-err
returns-in_err-push_text-clause-err c =
    let stands : take (vec_len c.args.out.now) c.push_text.new.out.items ≡ c.args.out.now.items =
    kept _ _ _ _ _ _ c.args.out.now.ok.0 c.push_fields.new.out.ok.0 c.in_ok-push_fields.ensures.ok c.in_err-push_text.ensures.err in
    search rules

pub returns-in_err-push_text-2-clause-err : goal.returns-in_err-push_text-2-clause-err
returns-in_err-push_text-2-clause-err c =
    let before : take (vec_len c.args.out.now) c.push_text-2.new.out.items ≡ c.args.out.now.items =
    kept _ _ _ _ _ _ c.args.out.now.ok.0 c.push.new.self.ok.0 (line_begun _ _ _ _ _ _ _ c.in_ok-push_fields.ensures.ok c.in_ok-push_text.ensures.ok c.in_ok-push.ensures.items) c.in_err-push_text-2.ensures.err in
    search rules

pub returns-clause-ok : goal.returns-clause-ok
returns-clause-ok c =
    line_joined _ _ _ _ _ _ _ _ _ _ _ c.in_ok-push_fields.ensures.ok (rw c.as_slice.ensures at c.in_ok-push_text.ensures.ok) c.in_ok-push.ensures.items (rw c.bytes.ensures.bytes at c.in_ok-push_text-2.ensures.ok) c.in_ok-push-2.ensures.items
