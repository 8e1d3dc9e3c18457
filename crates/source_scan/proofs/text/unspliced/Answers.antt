use Rattle.std.proofs.Common.{sym}
use Rattle.source_scan.proofs.Unsplicing.{unspliced-past, taken-more}
use Rattle.source_scan.proofs.text.unspliced.Goals as goal

pub loop-rest-init : goal.loop-rest-init
loop-rest-init c = rw (c.new-text.ensures.items, c.past_splices-rest.ensures.after) (sym (unspliced-past c.args.bytes.now))

pub loop-rest-preserved : goal.loop-rest-preserved
loop-rest-preserved c =
    rw (c.in_ok-push.ensures.items, c.past_splices-rest-in-len1-up.ensures.after) (taken-more c.loop-rest.text.items c.args.bytes.now c.loop-rest.rest.now c.in-len1-up.len_at_least c.loop-rest.invariant)
