use Rattle.log_dictionary.proofs.lemmas.Appending.{line_begun}
use Rattle.code_inject.proofs.headers.push_header.Goals as goal

pub returns-clause-ok : goal.returns-clause-ok
returns-clause-ok c = line_begun _ _ _ _ _ _ _ (rw c.len.ensures.value at c.in_ok-push_opening.ensures.ok) c.in_ok-push_array.ensures.ok c.in_ok-push_array-2.ensures.ok
