use Rattle.std.proofs.Common.{List, ℕ, ◌++◌, ap, ◌∙◌, subst}
use Rattle.std.proofs.lemmas.List.{append-nil}
use Rattle.roaming_consumer.specs.Roamers.{roamer_progress, IsLogOfEnds}
use Rattle.log_ends.specs.PartEnds.{part_frames, is_part_over}
use Rattle.log_ends.proofs.laws.given_bytes_are_of_a_log.Goals as goal

pub returns-clause-front : goal.returns-clause-front
returns-clause-front c = λ consumer given has. has.lawful consumer.begun consumer.unfaulted

pub returns-clause-all : goal.returns-clause-all
returns-clause-all c = λ consumer given has is.
    subst (IsLogOfEnds part_frames is_part_over consumer.roamer (roamer_progress consumer.roamer))
    (ap (λ (more : List ℕ). given ++ more) is.1 ∙ append-nil given) (has.lawful consumer.begun consumer.unfaulted)
