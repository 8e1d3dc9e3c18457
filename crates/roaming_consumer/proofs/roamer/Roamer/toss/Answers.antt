use Rattle.std.proofs.Common.{refl, rules}
use Rattle.std.proofs.lemmas.Option.{slice_get_read}
use Rattle.roaming_consumer.proofs.roamer.Roamer.toss.Goals as goal

pub returns-clause-came : goal.returns-clause-came
returns-clause-came g c = record {
  before = c.index_mut-end.result.now;
  after = c.throw_away.new.end;
  was = slice_get_read _ _ _ _ refl c.requires.known c.index_mut-end.ensures.value;
  now = refl;
  step = (search rules, search rules, c.throw_away.ensures.stops _);
}
