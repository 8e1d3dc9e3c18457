use Rattle.std.proofs.Common.{refl}
use Rattle.aggregation.proofs.Tallying.{its_body, extent_tallied}
use Rattle.aggregation.proofs.tally.TallyBlockFold.add.Goals as goal

pub add_records-requires-clause-few : goal.add_records-requires-clause-few
add_records-requires-clause-few c =
    let (part, next, stands, is) = c.requires in
    its_body part _ c.args.block next stands c.args.self.now is c.in-Extent.writer c.in-Extent.is c.header.result.now c.dictionary.result.now c.body.result.now c.header.ensures c.dictionary.ensures c.body.ensures.same

pub returns-in-Extent-clause-added : goal.returns-in-Extent-clause-added
returns-in-Extent-clause-added c part next stands is =
    extent_tallied part _ c.args.block next stands c.args.self.now is c.in-Extent.writer c.in-Extent.is c.header.result.now c.dictionary.result.now c.body.result.now _ c.header.ensures c.dictionary.ensures c.body.ensures.same (refl, refl) refl c.add_records.ensures
