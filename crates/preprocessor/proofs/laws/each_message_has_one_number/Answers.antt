use Rattle.std.proofs.Common.{sym, subst}
use Rattle.log_dictionary.specs.Messages.{AreDistinct}
use Rattle.preprocessor.specs.Numbering.{stated_messages}
use Rattle.preprocessor.proofs.lemmas.Behind.{firsts_are_distinct}
use Rattle.preprocessor.proofs.lemmas.Told.{numbered_has}
use Rattle.preprocessor.proofs.laws.each_message_has_one_number.Goals as goal

pub returns : goal.returns
returns c = record { has = numbered_has; distinct = λ files messages n told. subst AreDistinct (sym told.messages_are) (firsts_are_distinct (stated_messages told.findings)) }
