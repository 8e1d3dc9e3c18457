use Rattle.indexmap.specs.IndexMap.{keys, values}
use Rattle.log_dictionary.specs.Places.{LeadElsewhere}
use Rattle.log_dictionary.proofs.message_set.find.Given as goal

abbrev pub invariant-loop-nth : goal.invariant-loop-nth
invariant-loop-nth l = LeadElsewhere (keys l.messages) (values l.messages) l.message l.nth
