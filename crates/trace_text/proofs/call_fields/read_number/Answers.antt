use Rattle.std.proofs.Common.{Ok, Err, sym}
use Rattle.trace_text.proofs.CallFieldLemmas.{number_told}
use Rattle.trace_text.proofs.call_fields.read_number.Goals as goal

pub returns-in-Ok-clause-ok : goal.returns-in-Ok-clause-ok
returns-in-Ok-clause-ok c = λ other. let number = c.in-Ok.ensures.ok in record {
  value = number.value;
  is = sym (number_told c.args.kind c.args.bytes.now c.in-Some.rest.now c.in-Some.integer (Ok number.value) other c.in-Some.ensures number.told);
  keeps = number.keeps;
}

pub returns-in-Err-clause-err : goal.returns-in-Err-clause-err
returns-in-Err-clause-err c = λ other. number_told c.args.kind c.args.bytes.now c.in-Some.rest.now c.in-Some.integer (Err c.in-Err.cause) other c.in-Some.ensures c.in-Err.ensures.err
