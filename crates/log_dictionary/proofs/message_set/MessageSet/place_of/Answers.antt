use Rattle.std.proofs.Common.{List, subst}
use Rattle.log_dictionary.specs.declared.message.Message.{Message}
use Rattle.log_dictionary.specs.Messages.{HasMessage, HasId}
use Rattle.log_dictionary.proofs.message_set.MessageSet.place_of.Goals as goal

pub returns-in-Ok : goal.returns-in-Ok
returns-in-Ok c = subst (λ (m : List Message). HasId m c.args.message.now c.in-Ok.place) c.self.view_is c.in-Ok.ensures.found

pub returns-in-Err : goal.returns-in-Err
returns-in-Err c = subst (λ (m : List Message). ¬ (HasMessage m c.args.message.now)) c.self.view_is c.in-Err.ensures.none
