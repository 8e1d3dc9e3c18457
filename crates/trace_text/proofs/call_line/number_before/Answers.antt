use Rattle.trace_text.proofs.HeadNumbers.{no_number, no_space, number_found}
use Rattle.trace_text.proofs.call_line.number_before.Goals as goal

pub returns-in-None : goal.returns-in-None
returns-in-None c = no_number c.args.bytes.now c.in-None.ensures

pub returns-in-Some-default-empty : goal.returns-in-Some-default-empty
returns-in-Some-default-empty c =
    let found = c.in-Some-default-empty in
    no_space c.args.bytes.now found.field-0-1.now found.field-0-0 found.ensures found.len_below

pub returns-in-Some-default-len1-up : goal.returns-in-Some-default-len1-up
returns-in-Some-default-len1-up c =
    let found = c.in-Some-default-len1-up in
    number_found c.args.bytes.now found.field-0-1.now found.number found.ensures found.len_at_least
