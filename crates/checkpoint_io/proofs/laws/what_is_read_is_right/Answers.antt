use Rattle.checkpoint_io.proofs.lemmas.ValidityLaws.{messages_differ}
use Rattle.checkpoint_io.proofs.ReadingForms.{block_taken}
use Rattle.checkpoint_io.proofs.laws.what_is_read_is_right.Goals as goal

pub returns : goal.returns
returns c header before bytes block rest valid small reads =
    let read = block_taken header before bytes block rest (messages_differ header before valid).distinct small reads in
    (read.front, read.joined, read.spelled, read.right)
