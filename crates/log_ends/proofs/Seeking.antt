-- How bytes are looked for.
use Rattle.std.proofs.Common.{◌≡◌, ◌≢◌, ℕ, zero, suc, ◌<◌, ◌≤◌, Bool, false, List, [], ◌∷◌, ◌++◌, Some, refl, sym, ap, subst, ◌∙◌, inl, inr, arith}
use Rattle.std.specs.Prelude.{slice_get}
use Rattle.std.specs.List.{AllZip}
use Rattle.std.proofs.lemmas.List.{append-nil}
use Rattle.std.proofs.lemmas.Option.{same_Some}
use Rattle.std.proofs.lemmas.Bool.{cases_lt, both_ways}
use Rattle.roaming_consumer.specs.declared.roamer.Roamer.{Roamer}
use Rattle.roaming_consumer.proofs.lemmas.OnePlace.{beside}
use Rattle.log_ends.specs.declared.consumer.ConsumerEnd.{ConsumerEnd}
use Rattle.log_ends.specs.declared.part_end.PartEnd.{PartEnd}
use Rattle.log_ends.specs.PartEnds.{part_frames}
use Rattle.log_ends.specs.Consumers.{HasPut, consumer_ends, next_writer, waiting, is_ending, EndGoesOn, FoundNone, ComesSooner, ServesNext}
use Rattle.log_ends.specs.Rounds.{StopsAtWriter, Passes, Seeks}
use Rattle.log_ends.proofs.Passing.{all_go_on_same, all_go_on_then, run_then}
use Rattle.std.proofs.lemmas.List.Elements.{length_all_zip}
use Rattle.log_ends.proofs.Lists.{by_place}

found_twice : (a b c : PartEnd) → a.out.loads ≤ b.out.loads → FoundNone a b → FoundNone b c → FoundNone a c
found_twice a b c never_fell first second = record {
  none = second.none ∙ first.none;
  looked = elim second.looked [ inl over ↦ inl over | inr rose ↦ inr (omega (arith, rose, never_fell)) ];
}

pub nothing_more : {roamer : Roamer PartEnd} {back : List ℕ} (given : List ℕ) → back ≡ [] → HasPut roamer (given ++ back) → HasPut roamer given
nothing_more {roamer} given none stands = subst (λ (bytes : List ℕ). HasPut roamer bytes) (ap (λ (more : List ℕ). given ++ more) none ∙ append-nil given) stands

-- an end that is as it was had no frame taken
same_got : (x y : PartEnd) → x ≡ y → part_frames y ≡ part_frames x
same_got x y same = sym (ap part_frames same)

-- ---- two passes

module _ (old cur new : ConsumerEnd) (one two : Bool) (before : Passes old (next_writer old) one cur) (after : Passes cur 0 two new) where
  ends_go_on : AllZip EndGoesOn (consumer_ends old) (consumer_ends new)
  ends_go_on = all_go_on_then (consumer_ends old) (consumer_ends cur) (consumer_ends new) before.ends after.ends

  -- an end between the two passes
  between : (other : ℕ) (y : PartEnd) → slice_get (consumer_ends new) other ≡ Some y → (mid : PartEnd) × (slice_get (consumer_ends cur) other ≡ Some mid) × EndGoesOn mid y
  between other y now = beside EndGoesOn (consumer_ends cur) (consumer_ends new) other y after.ends now

  -- it was found without a frame in the first pass
  first_none : waiting cur ≡ [] → (other : ℕ) (x mid : PartEnd) → next_writer old ≤ other → slice_get (consumer_ends old) other ≡ Some x → slice_get (consumer_ends cur) other ≡ Some mid → FoundNone x mid
  first_none none_then other x mid from was is = before.found none_then other x mid from was is

  -- it was not visited in the first pass
  first_same : (other : ℕ) (x mid : PartEnd) → other < next_writer old → slice_get (consumer_ends old) other ≡ Some x → slice_get (consumer_ends cur) other ≡ Some mid → mid ≡ x
  first_same other x mid below was is = same_Some mid x (sym is ∙ before.below other below ∙ was)

  -- no frame of it was found in either
  both_none : waiting cur ≡ [] → (other : ℕ) (x mid y : PartEnd) → slice_get (consumer_ends old) other ≡ Some x → slice_get (consumer_ends cur) other ≡ Some mid → FoundNone mid y → FoundNone x y
  both_none none_then other x mid y was is then =
      elim (cases_lt other (next_writer old)) [
        | inl below ↦ subst (λ (e : PartEnd). FoundNone e y) (first_same other x mid below was is) then
        | inr from ↦
            let start = beside EndGoesOn (consumer_ends old) (consumer_ends cur) other mid before.ends is in
            let never_fell = subst (λ (e : PartEnd). e.out.loads ≤ mid.out.loads) (same_Some start.0 x (sym start.1 ∙ was)) start.2.loads_never_fall in
            found_twice x mid y never_fell (first_none none_then other x mid from was is) then
      ]

  found_at : waiting cur ≡ [] → waiting new ≡ [] → (writer : ℕ) (x y : PartEnd) → slice_get (consumer_ends old) writer ≡ Some x → slice_get (consumer_ends new) writer ≡ Some y → FoundNone x y
  found_at none_then none writer x y was now =
      let mid = between writer y now in both_none none_then writer x mid.0 y was mid.1 (after.found none writer mid.0 y (omega arith) mid.1 now)

  module _ (none_then : waiting cur ≡ []) (writer : ℕ) (stops : StopsAtWriter cur 0 writer new) where
    -- the second pass didn't come to it
    second_same : (other : ℕ) (mid y : PartEnd) → writer < other → slice_get (consumer_ends cur) other ≡ Some mid → slice_get (consumer_ends new) other ≡ Some y → mid ≡ y
    second_same other mid y above is now = same_Some mid y (sym is ∙ sym (stops.behind other above) ∙ now)

    passed_twice : (other : ℕ) (x y : PartEnd) → ComesSooner (next_writer old) other writer → slice_get (consumer_ends old) other ≡ Some x → slice_get (consumer_ends new) other ≡ Some y → FoundNone x y
    passed_twice other x y comes was now =
        let mid = between other y now in
        elim (cases_lt other writer) [
          | inl below ↦ both_none none_then other x mid.0 y was mid.1 (stops.passed other mid.0 y (omega arith) below mid.1 now)
          | inr above ↦
              elim comes [
                | inl ahead ↦ absurd (omega (arith, ahead.1, above))
                | inr round ↦
                    elim round.1 [
                      | inl from ↦ subst (λ (e : PartEnd). FoundNone x e) (second_same other mid.0 y (omega (arith, round.0, from)) mid.1 now) (first_none none_then other x mid.0 from was mid.1)
                      | inr ahead ↦ absurd (omega (arith, ahead, above))
                    ]
              ]
        ]

    first_got : (other : ℕ) (x mid : PartEnd) → slice_get (consumer_ends old) other ≡ Some x → slice_get (consumer_ends cur) other ≡ Some mid → part_frames mid ≡ part_frames x
    first_got other x mid was is =
        elim (cases_lt other (next_writer old)) [
          | inl below ↦ ap part_frames (first_same other x mid below was is)
          | inr from ↦ (first_none none_then other x mid from was is).none
        ]

    second_got : (other : ℕ) (mid y : PartEnd) → other ≢ writer → slice_get (consumer_ends cur) other ≡ Some mid → slice_get (consumer_ends new) other ≡ Some y → part_frames y ≡ part_frames mid
    second_got other mid y apart is now =
        elim (cases_lt other writer) [
          | inl below ↦ (stops.passed other mid y (omega arith) below is now).none
          | inr above ↦ same_got mid y (second_same other mid y (omega (arith, above, apart)) is now)
        ]

    served_second : ServesNext old new
    served_second = record {
      writer = writer;
      there = stops.there;
      passed = passed_twice;
      alone = λ other x y apart was now. let mid = between other y now in second_got other mid.0 y apart mid.1 now ∙ first_got other x mid.0 was mid.1;
      next = stops.next;
    }

  pub sought_twice : waiting old ≡ [] → is_ending old ≡ false → waiting cur ≡ [] → Seeks old two new
  sought_twice none_yet unended none_then = record {
    ends = ends_go_on;
    stands = λ given stands. after.stands given (nothing_more given none_then (before.stands given (nothing_more given none_yet stands)));
    found = λ none. by_place FoundNone (consumer_ends old) (consumer_ends new) (length_all_zip EndGoesOn (consumer_ends old) (consumer_ends new) ends_go_on) (found_at none_then none);
    waited = λ some. absurd (some none_yet);
    served = λ none not_ending some. let stops = after.stopped some in served_second none_then stops.0 stops.1;
    closed = λ none ending. absurd (both_ways (is_ending old) unended ending);
    same_next = λ none. after.same_next none ∙ before.same_next none_then;
    over = λ is. let all = after.over is in (λ writer below. all.1 writer (omega arith) below, all.0);
    some_open = after.some_open;
    same_run = run_then old cur new before.same_run after.same_run;
    same_over = after.same_over ∙ before.same_over;
    same_part = record { ending = after.same_part.ending ∙ before.same_part.ending; earlier = after.same_part.earlier ∙ before.same_part.earlier };
  }

-- ---- one pass, or none

module _ (old new : ConsumerEnd) (one : Bool) (passes : Passes old (next_writer old) one new) (writer : ℕ) (stops : StopsAtWriter old (next_writer old) writer new) where
  passed_once : (other : ℕ) (x y : PartEnd) → ComesSooner (next_writer old) other writer → slice_get (consumer_ends old) other ≡ Some x → slice_get (consumer_ends new) other ≡ Some y → FoundNone x y
  passed_once other x y comes was now =
      elim comes [ inl ahead ↦ stops.passed other x y ahead.0 ahead.1 was now | inr round ↦ absurd (omega (arith, round.0, stops.ahead)) ]

  alone_once : (other : ℕ) (x y : PartEnd) → other ≢ writer → slice_get (consumer_ends old) other ≡ Some x → slice_get (consumer_ends new) other ≡ Some y → part_frames y ≡ part_frames x
  alone_once other x y apart was now =
      elim (cases_lt other (next_writer old)) [
        | inl below ↦ same_got x y (same_Some x y (sym was ∙ sym (passes.below other below) ∙ now))
        | inr from ↦
            elim (cases_lt other writer) [
              | inl ahead ↦ (stops.passed other x y from ahead was now).none
              | inr above ↦ same_got x y (same_Some x y (sym was ∙ sym (stops.behind other (omega (arith, above, apart))) ∙ now))
            ]
      ]

  served_first : ServesNext old new
  served_first = record {
    writer = writer;
    there = stops.there;
    passed = passed_once;
    alone = alone_once;
    next = stops.next;
  }

pub sought_once : (old new : ConsumerEnd) (one : Bool) → waiting old ≡ [] → is_ending old ≡ false → ¬ (waiting new ≡ []) → Passes old (next_writer old) one new → Seeks old false new
sought_once old new one none unended some passes = record {
  ends = passes.ends;
  stands = λ given stands. passes.stands given (nothing_more given none stands);
  found = λ none_now. absurd (some none_now);
  waited = λ some_yet. absurd (some_yet none);
  closed = λ none_yet ending. absurd (both_ways (is_ending old) unended ending);
  served = λ none_yet not_ending some_now. let stops = passes.stopped some_now in served_first old new one passes stops.0 stops.1;
  same_next = λ none_now. absurd (some none_now);
  over = λ is. absurd cc;
  some_open = λ is none_now. absurd (some none_now);
  same_run = passes.same_run;
  same_over = passes.same_over;
  same_part = passes.same_part;
}

pub sought_none : (old : ConsumerEnd) → ¬ (waiting old ≡ []) → Seeks old false old
sought_none old some = record {
  ends = all_go_on_same (consumer_ends old);
  stands = λ given stands. stands;
  found = λ none. absurd (some none);
  waited = λ some_yet. refl;
  served = λ none. absurd (some none);
  closed = λ none. absurd (some none);
  same_next = λ none. refl;
  over = λ is. absurd cc;
  some_open = λ is none. absurd (some none);
  same_run = record { messages = refl; version = refl; clocks = refl; clock = refl; batch = refl };
  same_over = refl;
  same_part = record { ending = refl; earlier = refl };
}
