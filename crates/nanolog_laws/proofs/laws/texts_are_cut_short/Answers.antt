use Rattle.nanolog_laws.proofs.Unfinished.{cut_front, replay_unprinted, headline_cut}
use Rattle.nanolog_laws.proofs.laws.texts_are_cut_short.Goals as goal

pub returns-clause-front : goal.returns-clause-front
returns-clause-front c = cut_front

pub returns-clause-unprinted : goal.returns-clause-unprinted
returns-clause-unprinted c = replay_unprinted

pub returns-clause-headline : goal.returns-clause-headline
returns-clause-headline c = headline_cut
