use Rattle.checkpoint_io.proofs.lemmas.ValidityLaws.{messages_differ, ids_go_on}
use Rattle.checkpoint_io.proofs.laws.messages_have_one_id.Goals as goal

pub returns-clause-distinct : goal.returns-clause-distinct
returns-clause-distinct c = λ header blocks valid. (messages_differ header blocks valid).distinct

pub returns-clause-few : goal.returns-clause-few
returns-clause-few c = λ header blocks valid. (messages_differ header blocks valid).few

pub returns-clause-ids : goal.returns-clause-ids
returns-clause-ids c = ids_go_on
