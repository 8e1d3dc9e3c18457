use Rattle.std.proofs.Common.{sym, ap, ◌∙◌, subst}
use Rattle.ring_machine.specs.Streams.{Walk, MayCome, walk}
use Rattle.ring_machine.specs.Reaches.{IsReach}
use Rattle.ring_machine.specs.Tracks.{Tracked, walk_of}
use Rattle.ring_machine.proofs.lemmas.Walks.{walk-push}
use Rattle.ring_machine.proofs.track.Track.push.Goals as goal

pub invariant_of-self-2 : goal.invariant_of-self-2
invariant_of-self-2 c =
    let s = c.self.inside in
    let may : MayCome s.size (walk s.size s.words.items) c.args.word = subst (λ (t : Tracked). MayCome t.size (walk_of t) c.args.word) (sym c.self.view_is) c.requires.may in
    let push = ap (walk s.size) c.in_ok-push.ensures.items ∙ walk-push s.size s.words.items c.args.word in
    record {
      least = c.self.invariant.least;
      most = c.self.invariant.most;
      reach = subst (λ (w : Walk). IsReach w c.onward-self-inside.result) (sym push) (c.onward-self-inside.ensures (walk s.size s.words.items) c.self.invariant.reach may);
    }
