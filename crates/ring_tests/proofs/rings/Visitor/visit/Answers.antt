use Rattle.std.proofs.Common.{map, sym, ap, ◌∙◌}
use Rattle.std.proofs.Math.Seq.{map-set_same}
use Rattle.std.proofs.lemmas.Option.{get_or_from_slice_get}
use Rattle.roaming_consumer.specs.Roamers.{ends_of}
use Rattle.word_ring.specs.Ends.{WordRoamerEnd}
use Rattle.ring_tests.proofs.rings.Visitor.visit.Goals as goal

pub returns : goal.returns
returns c =
    let pair = λ (end : WordRoamerEnd). end.pair in
    let ends = ends_of c.self.inside.roamer in
    let one = c.visit.ensures.visits in
    let same = one.step.1.same_pair ∙ ap pair (sym (get_or_from_slice_get ends 0 one.before one.before one.was)) in
    ap (map pair) one.now ∙ map-set_same pair ends 0 one.after one.before same ∙ c.self.view_is
