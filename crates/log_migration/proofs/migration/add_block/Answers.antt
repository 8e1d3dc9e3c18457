use Rattle.std.proofs.Common.{length, ap, arith}
use Rattle.log_migration.proofs.NextBlocks.{some_messages, few_messages, messages_within, fragment_made, extent_writer, some_body, extent_made, close_writer, close_made, no_clock}
use Rattle.log_migration.proofs.migration.add_block.Goals as goal

pub add_fragment-requires-clause-some : goal.add_fragment-requires-clause-some
add_fragment-requires-clause-some c =
    let (part, next, stands) = c.requires in
    some_messages part _ c.args.block next stands c.in-Fragment.first c.in-Fragment.count c.in-Fragment.is

pub add_fragment-requires-clause-few : goal.add_fragment-requires-clause-few
add_fragment-requires-clause-few c =
    let (part, next, stands) = c.requires in
    few_messages part _ c.args.block next stands c.in-Fragment.first c.in-Fragment.count c.in-Fragment.is

pub add_fragment-requires-clause-within : goal.add_fragment-requires-clause-within
add_fragment-requires-clause-within c =
    let (part, next, stands) = c.requires in
    omega (arith, messages_within part _ c.args.block next stands c.in-Fragment.first c.in-Fragment.count c.in-Fragment.is, ap length c.dictionary.ensures)

pub add_extent-requires-clause-known : goal.add_extent-requires-clause-known
add_extent-requires-clause-known c =
    let (part, next, stands) = c.requires in
    extent_writer part _ c.args.block next stands c.in-Extent.writer c.in-Extent.is

pub add_extent-requires-clause-some : goal.add_extent-requires-clause-some
add_extent-requires-clause-some c =
    let (part, next, stands) = c.requires in
    omega (arith, some_body part _ c.args.block next stands c.in-Extent.writer c.in-Extent.is, ap length c.body.ensures.same)

pub add_close-requires : goal.add_close-requires
add_close-requires c =
    let (part, next, stands) = c.requires in
    record { known = close_writer part _ c.args.block next stands c.in-Closed.writer c.in-Closed.is }

pub returns-in-Fragment : goal.returns-in-Fragment
returns-in-Fragment c part next stands =
    fragment_made part _ c.args.block next stands c.in-Fragment.first c.in-Fragment.count c.in-Fragment.is _ _ c.add_fragment.result c.dictionary.result.now c.dictionary.ensures c.add_fragment.ensures.added c.add_fragment.ensures.spelled

pub returns-in-Extent : goal.returns-in-Extent
returns-in-Extent c part next stands =
    extent_made part _ c.args.block next stands c.in-Extent.writer c.in-Extent.is _ _ c.add_extent.result c.body.result.now c.body.ensures.same c.body.ensures.few c.add_extent.ensures

pub returns-in-Closed : goal.returns-in-Closed
returns-in-Closed c part next stands =
    close_made part _ c.args.block next stands c.in-Closed.writer c.in-Closed.is _ _ c.add_close.result c.add_close.ensures

pub returns-in-Clock : goal.returns-in-Clock
returns-in-Clock c part next stands made =
    no_clock part _ c.args.block next _ c.in-Clock.field-0 c.in-Clock.is stands
