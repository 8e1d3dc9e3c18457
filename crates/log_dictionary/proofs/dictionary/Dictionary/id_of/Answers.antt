use Rattle.std.proofs.Common.{List, subst}
use Rattle.log_dictionary.specs.declared.message.Message.{Message}
use Rattle.log_dictionary.specs.Places.{IsPlace}
use Rattle.log_dictionary.proofs.dictionary.Dictionary.id_of.Goals as goal

pub returns : goal.returns
returns c = subst (λ (m : List Message). IsPlace m c.args.message.now c.place_of.result) c.self.view_is c.place_of.ensures
