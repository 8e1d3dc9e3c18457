use Rattle.buffer_extent.proofs.lemmas.BodyLaws.{body_again, body_broken, body_taken}
use Rattle.buffer_extent.proofs.laws.bodies_are_read.Goals as goal

pub returns : goal.returns
returns c = record { read = body_again; broken = body_broken; spelled = λ messages tick last records body small. body_taken messages tick last records body small }
