use Rattle.std.proofs.Common.{sym, ◌∙◌}
use Rattle.source_scan.proofs.Parts.{part-more, part-wrong, parts-all}
use Rattle.source_scan.proofs.unescape.literal_bytes.Goals as goal

pub returns-in_default-part_of : goal.returns-in_default-part_of
returns-in_default-part_of c =
    sym (part-wrong c.args.body.now c.loop-rest.bytes.items c.loop-rest.rest.now c.in-len1-up.len_at_least c.loop-rest.invariant (sym c.part_of.ensures.value ∙ c.in_default-part_of.is))

pub loop-rest-preserved : goal.loop-rest-preserved
loop-rest-preserved c =
    let part = sym c.in-Some.ensures.value in
    rw (c.in_ok-push_meaning.ensures, c.split_at.ensures.back) (part-more c.args.body.now c.loop-rest.bytes.items c.loop-rest.rest.now c.in-Some.meaning c.in-Some.len c.in-len1-up.len_at_least c.loop-rest.invariant part)

pub returns : goal.returns
returns c = rw (c.in_ok-from_slice.ensures, c.deref.ensures.value) (parts-all c.args.body.now c.loop-rest.bytes.items c.loop-rest.rest.now c.in_default.len_below c.loop-rest.invariant)
