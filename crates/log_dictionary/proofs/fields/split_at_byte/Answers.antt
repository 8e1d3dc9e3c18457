use Rattle.log_dictionary.proofs.lemmas.FieldLemmas.{parts_are}
use Rattle.log_dictionary.proofs.fields.split_at_byte.Goals as goal

pub returns-clause-value : goal.returns-clause-value
returns-clause-value c = parts_are c.args.separator c.args.bytes.now c.part.result c.part.ensures.some c.part.ensures.none
