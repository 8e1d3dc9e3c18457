use Rattle.checkpoint_io.proofs.lemmas.FrontLaws.{some_header, no_header, short_bytes}
use Rattle.checkpoint_io.proofs.laws.headers_stand_at_the_front.Goals as goal

pub returns-clause-some : goal.returns-clause-some
returns-clause-some c = some_header

pub returns-clause-none : goal.returns-clause-none
returns-clause-none c = no_header

pub returns-clause-short : goal.returns-clause-short
returns-clause-short c = short_bytes

pub returns-clause-front : goal.returns-clause-front
returns-clause-front c = λ bytes header blocks count front none. none header blocks count front.begins
