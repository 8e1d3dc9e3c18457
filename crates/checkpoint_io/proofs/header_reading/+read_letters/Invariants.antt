use Rattle.std.proofs.Common.{length}
use Rattle.checkpoint_io.proofs.header_reading.+read_letters.Given as goal

abbrev pub decreases-read_letters : goal.decreases-read_letters
decreases-read_letters g l = length l.letters.now
