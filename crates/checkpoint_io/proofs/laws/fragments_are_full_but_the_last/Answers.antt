use Rattle.checkpoint_io.proofs.lemmas.LogLaws.{messages_of-AreFragments, fragments_alone, fragment_ids, fragment_full, last_fragment, full_fragment}
use Rattle.checkpoint_io.proofs.laws.fragments_are_full_but_the_last.Goals as goal

pub returns-clause-messages : goal.returns-clause-messages
returns-clause-messages c = messages_of-AreFragments

pub returns-clause-alone : goal.returns-clause-alone
returns-clause-alone c = fragments_alone

pub returns-clause-ids : goal.returns-clause-ids
returns-clause-ids c = fragment_ids

pub returns-clause-full : goal.returns-clause-full
returns-clause-full c = fragment_full

pub returns-clause-last : goal.returns-clause-last
returns-clause-last c = λ first messages some few. last_fragment first messages

pub returns-clause-sixteen : goal.returns-clause-sixteen
returns-clause-sixteen c = full_fragment
