use Rattle.std.proofs.Common.{sym, ◌∙◌}
use Rattle.source_scan.proofs.ItemLists.{items-prefix, items-item, items-other, items-all}
use Rattle.source_scan.proofs.items.items_bytes.Goals as goal

pub loop-rest-preserved-then-is_prefix : goal.loop-rest-preserved-then-is_prefix
loop-rest-preserved-then-is_prefix c =
    items-prefix c.args.source.now c.loop-rest.bytes.items c.args.tokens.now c.loop-rest.rest.now _ c.in-len1-up.len_at_least c.loop-rest.invariant (sym c.is_prefix.ensures ∙ c.if-is_prefix.true)

pub returns-in_default-2 : goal.returns-in_default-2
returns-in_default-2 c =
    sym
    (items-other c.args.source.now c.loop-rest.bytes.items c.args.tokens.now c.loop-rest.rest.now _ c.in-len1-up.len_at_least c.loop-rest.invariant (sym c.is_prefix.ensures ∙ c.if-is_prefix.false) (sym c.in_ok-item.ensures ∙ c.in_default-2.is))

pub loop-rest-preserved : goal.loop-rest-preserved
loop-rest-preserved c =
    rw c.in_ok-push_item.ensures
    (items-item c.args.source.now c.loop-rest.bytes.items c.in-Some.item c.args.tokens.now c.loop-rest.rest.now _ c.in-len1-up.len_at_least c.loop-rest.invariant (sym c.is_prefix.ensures ∙ c.if-is_prefix.false) (sym c.in_ok-item.ensures ∙ c.in-Some.is))

pub returns : goal.returns
returns c = rw (c.in_ok-from_slice.ensures, c.deref.ensures.value) (items-all c.args.source.now c.loop-rest.bytes.items c.args.tokens.now c.loop-rest.rest.now c.in_default.len_below c.loop-rest.invariant)
