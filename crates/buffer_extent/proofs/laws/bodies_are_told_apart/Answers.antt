use Rattle.buffer_extent.proofs.lemmas.BodyLaws.{IsBody-unique, IsBody-not_broken, BodyBreak-unique}
use Rattle.buffer_extent.proofs.laws.bodies_are_told_apart.Goals as goal

pub returns-clause-one_list : goal.returns-clause-one_list
returns-clause-one_list c = IsBody-unique

pub returns-clause-one_cause : goal.returns-clause-one_cause
returns-clause-one_cause c = BodyBreak-unique

pub returns-clause-not_both : goal.returns-clause-not_both
returns-clause-not_both c = IsBody-not_broken
