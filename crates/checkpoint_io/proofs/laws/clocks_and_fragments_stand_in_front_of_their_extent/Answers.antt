use Rattle.checkpoint_io.proofs.lemmas.Worked.{mixed}
use Rattle.checkpoint_io.proofs.lemmas.LogLaws.{wanted_front, laid_out_behind, no_front}
use Rattle.checkpoint_io.proofs.laws.clocks_and_fragments_stand_in_front_of_their_extent.Goals as goal

pub returns-clause-worked : goal.returns-clause-worked
returns-clause-worked c = mixed

pub returns-clause-wanted : goal.returns-clause-wanted
returns-clause-wanted c = wanted_front

pub returns-clause-behind : goal.returns-clause-behind
returns-clause-behind c = laid_out_behind

pub returns-clause-no_others : goal.returns-clause-no_others
returns-clause-no_others c = no_front
