-- Each step of a seat keeps the rule of the ring, and tells its seat what it says.
use Rattle.std.proofs.Common.{◌≡◌, ◌≢◌, ℕ, ◌+◌, ◌*◌, ◌%◌, ◌/◌, ◌<◌, ◌≤◌, true, false, List, [], ◌∷◌, ◌++◌, get_or, sym, refl, ap, ◌∙◌, subst, arith}
use Rattle.std.specs.Prelude.{None}
use mathlib.Core.Option.{none}
use Rattle.atomic_table.specs.Table.{keeps, Allows, Splits, Joins, step}
use Rattle.ring_core.specs.Plans.{Plan, Lawful, BeginsWith}
use Rattle.ring_machine.specs.declared.steps.StepKind.TheVariants as steps
use Rattle.ring_machine.specs.Streams.{Walk, start, walk, FitsWithin}
use Rattle.ring_machine.specs.RingStates.{RingState, written, taken, RingOk}
use Rattle.ring_machine.specs.Steps.{after_step, next_word}
use Rattle.ring_machine.proofs.lemmas.Bars.{read_open}
use Rattle.ring_machine.proofs.lemmas.Walks.{walk_from-append, walk_from-frames, walk_from-at_more}
use Rattle.ring_machine.proofs.lemmas.StepLaws.{RingOk-read, reads_next}
use Rattle.ring_machine.proofs.lemmas.Schedules.{lawful_read}
use Rattle.word_ring.specs.declared.known.Known.{Known}
use Rattle.word_ring.specs.declared.places.TheConstants.{PRODUCER, CONSUMER, DATA}
use Rattle.word_ring.specs.Rule.{newcomer, writer_of, roamer_of, both_of, spent, IsRingTable}
use Rattle.word_ring.specs.Rule.{plan_in}
use Rattle.word_ring.specs.Plays.{Sitting, written_by, read_by, writer_barred, roamer_barred, put_step, having_looked, having_put, having_published, having_closed, having_loaded, having_read, having_released}
use Rattle.word_ring.specs.Plays.{Looks, PutsWord, Publishes, Closes, Loads, ReadsWord, Releases, Settles}
use Rattle.word_ring.proofs.Events.{WriterTold, RoamerTold, writer_told, roamer_told, found_published, found_next}
use Rattle.word_ring.proofs.Events as events

-- ---- the writer's steps

pub looks : (size slots id : ℕ) (me : Sitting) → me.0.writes ≡ true → writer_barred me.0 steps.Look ≡ None
    → Allows (IsRingTable size) slots id me CONSUMER (λ n. n) (Looks (step slots CONSUMER 0 0 none) me)
looks size slots id me may free table h homes at small =
    let v = me.0 in
    let ring = h.ring in
    let o = h.ok.order in
    let told = writer_told size table h id v at may in
    let is = h.laid.consumer in
    let position : (written_by v).at ≡ (written ring).at = ap (λ (x : WriterTold). (walk x.0 x.1.stream).at) told in
    let seen : v.writer.seen ≡ ring.writer.seen = ap (λ (x : WriterTold). x.1.seen) told in
    let long : v.size ≡ ring.size = ap (λ (x : WriterTold). x.0) told in (
      having_looked v (get_or table.words CONSUMER 0),
      keeps,
      tt,
      (events.looks size id v may free table h at).after,
      record {
        leaves = record { not_barred = free; knows = refl; holds = refl };
        further = omega (arith, is, seen, o.seen_released);
        within = omega (arith, is, position, o.released_read, o.read_loaded, o.loaded_published, o.published_written);
        lap = omega (arith, is, position, long, o.room, o.seen_released);
      },
    )

pub puts : (size slots id place word : ℕ) (me : Sitting) → me.0.writes ≡ true → place ≡ (written_by me.0).at % me.0.size → writer_barred me.0 (put_step me.0 word) ≡ None
    → Lawful (plan_in me.0) (written_by (having_put me.0 word)).frames
    → Allows (IsRingTable size) slots id me (DATA + place) (λ _. word) (λ _ after. PutsWord (step slots (DATA + place) word 0 none) me word after)
puts size slots id place word me may there free lawful =
    let v = me.0 in
    let At : ℕ → Type 0 = λ p. Allows (IsRingTable size) slots id me (DATA + p) (λ _. word) (λ _ after. PutsWord (step slots (DATA + p) word 0 none) me word after) in
    let here : At ((written_by v).at % v.size) = λ table h homes at small. (
      having_put v word,
      keeps,
      tt,
      (events.puts size id word v may free lawful table h at).after,
      record { not_barred = free; knows = refl; holds = refl },
    ) in
    subst At (sym there) here

pub publishes : (size slots id word : ℕ) (me : Sitting) → me.0.writes ≡ true → writer_barred me.0 steps.Publish ≡ None → word ≡ 2 * (written_by me.0).at
    → Allows (IsRingTable size) slots id me PRODUCER (λ _. word) (λ _ after. Publishes (step slots PRODUCER word 0 none) me word after)
publishes size slots id word me may free is =
    let v = me.0 in
    let Of : ℕ → Type 0 = λ n. Allows (IsRingTable size) slots id me PRODUCER (λ _. n) (λ _ after. Publishes (step slots PRODUCER n 0 none) me n after) in
    let here : Of (2 * (written_by v).at) = λ table h homes at small. (
      having_published v,
      keeps,
      tt,
      (events.publishes size id v may free table h at).after,
      record { not_barred = free; knows = refl; holds = refl },
    ) in
    subst Of (sym is) here

pub closes : (size slots id word : ℕ) (me : Sitting) → me.0.writes ≡ true → writer_barred me.0 steps.Close ≡ None → word ≡ 2 * (written_by me.0).at + 1
    → Allows (IsRingTable size) slots id me PRODUCER (λ _. word) (λ _ after. Closes (step slots PRODUCER word 0 none) me word after)
closes size slots id word me may free is =
    let v = me.0 in
    let Of : ℕ → Type 0 = λ n. Allows (IsRingTable size) slots id me PRODUCER (λ _. n) (λ _ after. Closes (step slots PRODUCER n 0 none) me n after) in
    let here : Of (2 * (written_by v).at + 1) = λ table h homes at small. (
      having_closed v,
      keeps,
      tt,
      (events.closes size id v may free table h at).after,
      record { not_barred = free; knows = refl; holds = refl },
    ) in
    subst Of (sym is) here

-- ---- the roamer's steps

pub loads : (size slots id : ℕ) (me : Sitting) → me.0.reads ≡ true
    → Allows (IsRingTable size) slots id me PRODUCER (λ n. n) (Loads (step slots PRODUCER 0 0 none) me)
loads size slots id me may table h homes at small =
    let v = me.0 in
    let o = h.ok.order in
    let position : (read_by v).at ≡ (taken h.ring).at = ap (λ (x : RoamerTold). (walk x.0 x.1.stream).at) (roamer_told size table h id v at may) in (
      having_loaded v (get_or table.words PRODUCER 0),
      keeps,
      tt,
      (events.loads size id v may table h at).after,
      record {
        leaves = record { not_barred = refl; knows = refl; holds = refl };
        further = omega (arith, found_published size table.words h.ring h.laid, position, o.read_loaded, o.loaded_published);
      },
    )

pub reads : (size slots id place : ℕ) (me : Sitting) → me.0.reads ≡ true → place ≡ (read_by me.0).at % me.0.size → roamer_barred me.0 steps.Read ≡ None
    → Allows (IsRingTable size) slots id me (DATA + place) (λ n. n) (ReadsWord (step slots (DATA + place) 0 0 none) me)
reads size slots id place me may there free =
    let v = me.0 in
    let At : ℕ → Type 0 = λ p. Allows (IsRingTable size) slots id me (DATA + p) (λ n. n) (ReadsWord (step slots (DATA + p) 0 0 none) me) in
    let here : At ((read_by v).at % v.size) =
    λ table h homes at small.
    let ring = h.ring in
    let told = roamer_told size table h id v at may in
    let found : ℕ = get_or table.words (DATA + (read_by v).at % v.size) 0 in
    let is : found ≡ next_word ring = found_next size id v table h at may in
    let left : ring.roamer.loaded ≢ (taken ring).at = subst (λ (x : RoamerTold). x.1.loaded ≢ (walk x.0 x.1.stream).at) told (read_open v.size v.roamer free) in
    let next = reads_next ring h.ok left in
    let lawful = lawful_read h.plan (after_step ring steps.Read) (RingOk-read ring h.ok left) h.lawful.stored in
    let fits : FitsWithin ring.size ring.roamer.loaded (taken ring) found = subst (FitsWithin ring.size ring.roamer.loaded (taken ring)) (sym next.1.is ∙ sym is) next.1.fits in
    let read : Lawful h.plan (walk ring.size (ring.roamer.stream ++ found ∷ [])).frames = subst (λ (n : ℕ). Lawful h.plan (walk ring.size (ring.roamer.stream ++ n ∷ [])).frames) (sym is) lawful.read in (
      having_read v found,
      keeps,
      tt,
      (events.reads size id v may free table h at).after,
      record {
        leaves = record { not_barred = free; knows = refl; holds = refl };
        fits = subst (λ (x : RoamerTold). FitsWithin x.0 x.1.loaded (walk x.0 x.1.stream) found) (sym told) fits;
        lawful = subst (λ (x : RoamerTold). Lawful x.2 (walk x.0 (x.1.stream ++ found ∷ [])).frames) (sym told) read;
      },
    )
    in
    subst At (sym there) here

pub releases : (size slots id word : ℕ) (me : Sitting) → me.0.reads ≡ true → roamer_barred me.0 steps.Release ≡ None → word ≡ (read_by me.0).at
    → Allows (IsRingTable size) slots id me CONSUMER (λ _. word) (λ _ after. Releases (step slots CONSUMER word 0 none) me word after)
releases size slots id word me may free is =
    let v = me.0 in
    let Of : ℕ → Type 0 = λ n. Allows (IsRingTable size) slots id me CONSUMER (λ _. n) (λ _ after. Releases (step slots CONSUMER n 0 none) me n after) in
    let here : Of (read_by v).at = λ table h homes at small. (
      having_released v,
      keeps,
      tt,
      (events.releases size id v may free table h at).after,
      record { not_barred = free; knows = refl; holds = refl },
    ) in
    subst Of (sym is) here

-- ---- parting and coming together

pub parts : (size : ℕ) (plan : Plan) (id : ℕ) (v : Known) → v ≡ newcomer v.size → Splits (IsRingTable size) id v (writer_of plan v) (roamer_of plan v)
parts size plan id v new table h at = (events.parts size plan id v new table h at).after

pub joins : (size id : ℕ) (v : Known) (other : ℕ) (u : Known) → v.writes ≡ true → u.reads ≡ true → Joins (IsRingTable size) id v other u (both_of v u) spent
joins size id v other u a b table h at two at' = (events.joins size id v other u a b table h at two at').after

-- what was read is the front of what was stored
module _ (ring : RingState) (ok : RingOk ring) where
  front_read : BeginsWith (written ring).frames (taken ring).frames
  front_read =
      let rest = ok.read_front.rest in
      let more = walk_from-frames ring.size (taken ring) rest in
      (more.0, ap (λ (w : Walk). w.frames) (ap (walk ring.size) ok.read_front.words_are ∙ walk_from-append ring.size start ring.roamer.stream rest) ∙ more.1)

  none_behind : (rest : List ℕ) → ring.writer.stream ≡ ring.roamer.stream ++ rest → (taken ring).at ≡ (written ring).at → (taken ring).frames ≡ (written ring).frames
  none_behind [] is same = sym (ap (λ (w : Walk). w.frames) (ap (walk ring.size) is ∙ walk_from-append ring.size start ring.roamer.stream []))
  none_behind (word ∷ rest) is same =
      absurd (omega (
        arith,
        same,
        walk_from-at_more ring.size (taken ring) word rest ok.size,
        ap (λ (w : Walk). w.at) (ap (walk ring.size) is ∙ walk_from-append ring.size start ring.roamer.stream (word ∷ rest)),
      ))

  all_read : ring.roamer.learnt ≡ true → (taken ring).at ≡ ring.roamer.loaded → (taken ring).frames ≡ (written ring).frames
  all_read learnt here =
      none_behind ok.read_front.rest ok.read_front.words_are
      (here ∙ ok.bits.learnt_loaded learnt ∙ sym (ok.bits.closed_written (ok.bits.learnt_closed learnt)))

pub settles : (size slots id : ℕ) (me : Sitting) → me.0.writes ≡ true → me.0.reads ≡ true
    → Allows (IsRingTable size) slots id me PRODUCER (λ n. n) (Settles (step slots PRODUCER 0 0 none) me)
settles size slots id me writes reads table h homes at small =
    let v = me.0 in
    let ring = h.ring in
    let wrote = writer_told size table h id v at writes in
    let has_read = roamer_told size table h id v at reads in
    let written_is : written_by v ≡ written ring = ap (λ (x : WriterTold). walk x.0 x.1.stream) wrote in
    let read_is : read_by v ≡ taken ring = ap (λ (x : RoamerTold). walk x.0 x.1.stream) has_read in (
      v,
      keeps,
      tt,
      (events.settles size id v table h at).after,
      record {
        same = refl;
        settled = record {
          front = subst (λ (w : Walk × Walk). BeginsWith w.0.frames w.1.frames) (λ i. (sym written_is i, sym read_is i)) (front_read ring h.ok);
          closed = λ learnt. ap (λ (x : WriterTold). x.1.closed) wrote ∙ h.ok.producer_bit ∙ h.ok.bits.learnt_closed (sym (ap (λ (x : RoamerTold). x.1.learnt) has_read) ∙ learnt);
          whole = λ learnt here.
              ap (λ (w : Walk). w.frames) read_is
              ∙ all_read ring h.ok (sym (ap (λ (x : RoamerTold). x.1.learnt) has_read) ∙ learnt) (sym (ap (λ (w : Walk). w.at) read_is) ∙ here ∙ ap (λ (x : RoamerTold). x.1.loaded) has_read)
              ∙ sym (ap (λ (w : Walk). w.frames) written_is);
        };
      },
    )
