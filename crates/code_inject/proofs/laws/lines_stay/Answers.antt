use Rattle.code_inject.proofs.LineFeeds.{lines_stay}
use Rattle.code_inject.proofs.laws.lines_stay.Goals as goal

pub returns : goal.returns
returns c = lines_stay
