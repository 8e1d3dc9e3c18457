use Rattle.ring_core.specs.Plans.{plan_of}
use Rattle.word_ring.proofs.word_ring.WordRingStage.make.Given as goal

abbrev pub ghosts-part_roles : goal.ghosts-part_roles
ghosts-part_roles a = record { plan = plan_of a.messages.now a.first }
