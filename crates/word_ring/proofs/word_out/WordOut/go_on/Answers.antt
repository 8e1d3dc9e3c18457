use Rattle.std.proofs.Common.{◌≡◌, ◌≢◌, false, ap, ◌∙◌, arith}
use Rattle.ring_machine.proofs.lemmas.Bars.{may_read}
use Rattle.word_ring.specs.Ends.{WordRoamerEnd}
use Rattle.word_ring.specs.Seats.{view}
use Rattle.word_ring.specs.Plays.{read_by}
use Rattle.word_ring.specs.RoamerInside.{roamer_knows, roamer_end_of, IsWordRoamer}
use Rattle.word_ring.specs.declared.word_out.WordOut.TheInside.{Inside}
use Rattle.word_ring.proofs.NextFrames.{head_read, begun, place, count_fits}
use Rattle.word_ring.proofs.Roaming.{marked, skips, frame_at, unreleased, framed, takes, len_within}
use Rattle.word_ring.proofs.word_out.WordOut.go_on.Goals as goal

open_inside : (s : Inside) (e : WordRoamerEnd) → roamer_end_of s ≡ e → e.ended ≡ false → s.ended ≡ false
open_inside s e is h = ap (λ (r : WordRoamerEnd). r.ended) is ∙ h

-- a word is left, by what the seat knows
left_of : (s : Inside) (e : WordRoamerEnd) → roamer_end_of s ≡ e → IsWordRoamer s → e.loaded ≢ e.at → (roamer_knows s).roamer.loaded ≢ (read_by (roamer_knows s)).at
left_of s e is h left same = left (omega (arith, same, h.loaded, h.at, ap (λ (r : WordRoamerEnd). r.loaded) is, ap (λ (r : WordRoamerEnd). r.at) is))

pub read-word-requires-clause-not_barred : goal.read-word-requires-clause-not_barred
read-word-requires-clause-not_barred c =
    let v = roamer_knows c.self.inside in
    may_read v.size v.roamer (left_of c.self.inside c.args.self.now c.self.view_is c.self.invariant c.requires.left)

pub read_frame-len-requires-clause-head : goal.read_frame-len-requires-clause-head
read_frame-len-requires-clause-head c =
    head_read c.self.inside c.self.invariant c.read-word.result c.read-word.ensures.fits c.if-word-eq0.false (view c.read-word.new.seat) c.read-word.ensures.knows

pub read_frame-len-requires-clause-begun : goal.read_frame-len-requires-clause-begun
read_frame-len-requires-clause-begun c =
    begun c.self.inside c.self.invariant c.read-word.result c.read-word.ensures.fits c.if-word-eq0.false (view c.read-word.new.seat) c.read-word.ensures.knows

pub read_frame-len-requires-clause-place : goal.read_frame-len-requires-clause-place
read_frame-len-requires-clause-place c =
    place c.self.inside c.self.invariant c.read-word.result c.read-word.ensures.fits c.if-word-eq0.false (view c.read-word.new.seat) c.read-word.ensures.knows

pub invariant_of-self : goal.invariant_of-self
invariant_of-self c =
    let e = c.read-word.ensures in
    marked c.self.inside c.self.invariant c.read-word.result e.fits c.read-word.new.seat e.same e.knows (open_inside c.self.inside c.args.self.now c.self.view_is c.requires.not_ended) c.if-word-eq0.true

pub returns-then-word-eq0 : goal.returns-then-word-eq0
returns-then-word-eq0 c =
    let s = c.self.inside in
    let e = c.read-word.ensures in
    let not_ended = open_inside s c.args.self.now c.self.view_is c.requires.not_ended in
    skips s c.self.invariant c.read-word.result e.fits c.read-word.new.seat e.same e.knows not_ended c.if-word-eq0.true c.args.self.now c.self.view_is

pub overflow_add-self-3 : goal.overflow_add-self-3
overflow_add-self-3 c = omega (arith, count_fits c.self.inside c.self.invariant c.read-word.result c.read-word.ensures.fits)

pub release-requires-clause-at : goal.release-requires-clause-at
release-requires-clause-at c =
    let e = c.read-word.ensures in
    let f = c.read_frame-len.ensures in
    frame_at c.self.inside c.self.invariant c.read-word.result e.fits c.read-word.new.seat e.same e.knows (open_inside c.self.inside c.args.self.now c.self.view_is c.requires.not_ended)
    c.if-word-eq0.false c.read_frame-len.result f.len c.read_frame-len.new.into c.read_frame-len.new.seat f.read

pub release-requires-clause-not_barred : goal.release-requires-clause-not_barred
release-requires-clause-not_barred c =
    let e = c.read-word.ensures in
    let f = c.read_frame-len.ensures in
    unreleased c.self.inside c.self.invariant c.read-word.result e.fits c.read-word.new.seat e.same e.knows (open_inside c.self.inside c.args.self.now c.self.view_is c.requires.not_ended)
    c.if-word-eq0.false c.read_frame-len.result f.len c.read_frame-len.new.into c.read_frame-len.new.seat f.others f.read

pub invariant_of-self-2 : goal.invariant_of-self-2
invariant_of-self-2 c =
    let e = c.read-word.ensures in
    let f = c.read_frame-len.ensures in
    let r = c.release.ensures in
    framed c.self.inside c.self.invariant c.read-word.result e.fits c.read-word.new.seat e.same e.knows (open_inside c.self.inside c.args.self.now c.self.view_is c.requires.not_ended)
    c.if-word-eq0.false c.read_frame-len.result f.len c.read_frame-len.new.into c.read_frame-len.new.seat c.release.new.seat c.read_frame-len.array_long f.same r.same f.others f.read r.knows f.steps
    c.places_on-self-inside.result (c.places_on-self-inside.ensures c.self.inside.at c.self.invariant.place)

pub returns : goal.returns
returns c =
    let s = c.self.inside in
    let e = c.read-word.ensures in
    let f = c.read_frame-len.ensures in
    let r = c.release.ensures in
    let not_ended = open_inside s c.args.self.now c.self.view_is c.requires.not_ended in
    let took = takes s c.self.invariant c.read-word.result e.fits c.read-word.new.seat e.same e.knows not_ended
    c.if-word-eq0.false c.read_frame-len.result f.len c.read_frame-len.new.into c.read_frame-len.new.seat c.release.new.seat c.read_frame-len.array_long f.same r.same f.others f.read r.knows f.steps
    c.places_on-self-inside.result (c.places_on-self-inside.ensures s.at c.self.invariant.place) c.args.self.now c.self.view_is f.lawful in
    (len_within s c.self.invariant c.read-word.result e.fits c.read-word.new.seat e.same e.knows not_ended c.if-word-eq0.false c.read_frame-len.result f.len, took)
