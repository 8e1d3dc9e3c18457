use Rattle.ring_core.proofs.lemmas.OneReading.{unknown_id, stamp_early, stamp_falls}
use Rattle.ring_core.proofs.laws.other_frames_are_not_lawful.Goals as goal

pub returns-clause-unknown : goal.returns-clause-unknown
returns-clause-unknown c = unknown_id

pub returns-clause-too_early : goal.returns-clause-too_early
returns-clause-too_early c = stamp_early

pub returns-clause-falling : goal.returns-clause-falling
returns-clause-falling c = stamp_falls
