use Rattle.source_tokens.proofs.lemmas.Prefixes.{not_raw, stands_raw}
use Rattle.source_tokens.proofs.raw_string.raw_string.Goals as goal

pub returns-in_err-len : goal.returns-in_err-len
returns-in_err-len c =
    let found = c.in_ok-raw.ensures in
    rw c.from_residual-in_err-len.ensures (λ raw begins. not_raw c.args.bytes.now found.0 c.in_ok-raw.raw.now raw found.1 found.2 c.in_err-len.ensures begins)

pub returns : goal.returns
returns c =
    let found = c.in_ok-raw.ensures in
    let opened = c.in_ok-len.ensures in
    stands_raw c.args.bytes.now found.0 c.in_ok-raw.raw.now c.raw_end.result.rest.now c.raw_end.result.kind found.1 found.2 opened.0 c.raw_end.ensures.ends c.raw_end.ensures.within
