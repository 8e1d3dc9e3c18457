use Rattle.log_dictionary.proofs.lemmas.Appending.{line_begun}
use Rattle.code_inject.proofs.headers.push_opening.Goals as goal

pub returns-clause-ok : goal.returns-clause-ok
returns-clause-ok c = line_begun _ _ _ _ _ _ _ c.in_ok-extend_from_slice.ensures.items (rw (c.as_bytes.ensures.value, c.format.ensures.text) at c.in_ok-extend_from_slice-2.ensures.items) c.in_ok-push.ensures.items
