use Rattle.log_migration.proofs.Entries.{fragment_spelled}
use Rattle.log_migration.proofs.parts.add_fragment.Goals as goal

pub returns-in_err-put-clause-spelled : goal.returns-in_err-put-clause-spelled
returns-in_err-put-clause-spelled c =
    let formed = c.as_slice.ensures.formed in
    fragment_spelled c.args.dictionary.now c.args.first c.args.count formed c.requires.some c.requires.few c.ranges.first.fits c.requires.within

pub returns-clause-spelled : goal.returns-clause-spelled
returns-clause-spelled c =
    let formed = c.as_slice.ensures.formed in
    fragment_spelled c.args.dictionary.now c.args.first c.args.count formed c.requires.some c.requires.few c.ranges.first.fits c.requires.within
