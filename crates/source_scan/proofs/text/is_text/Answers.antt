use Rattle.std.proofs.Common.{sym, ◌∙◌, ap}
use Rattle.source_scan.proofs.Unsplicing.{from_front, unspliced-past, same-more}
use Rattle.source_scan.proofs.text.is_text.Goals as goal

pub loop-letter-init : goal.loop-letter-init
loop-letter-init c =
    let front = unspliced-past c.args.bytes.now ∙ ap from_front (sym c.past_splices-rest.ensures.after) in
    (λ whole. sym front ∙ whole, λ later. front ∙ later)

pub loop-letter-preserved : goal.loop-letter-preserved
loop-letter-preserved c =
    rw c.past_splices-rest-in-loop-letter.ensures.after
    (same-more c.args.bytes.now c.args.text.now c.loop-letter.rest.now c.loop-letter.letter-index c.loop-letter-test.true c.in-len1-up.len_at_least c.if-byte-letter.false c.loop-letter.invariant)
