use Rattle.log_dictionary.proofs.lemmas.FieldLemmas.{first_field_is}
use Rattle.log_dictionary.proofs.fields.first_field.Goals as goal

pub returns : goal.returns
returns c = rw (c.split_at.ensures.front, c.split_at.ensures.back) (first_field_is c.args.bytes.now c.field_len.result c.field_len.ensures.within c.field_len.ensures.before c.field_len.ensures.space)
