-- How the writers are visited one after the other.
use Rattle.std.proofs.Common.{◌≡◌, ◌≢◌, ℕ, zero, suc, ◌+◌, ◌<◌, ◌≤◌, Bool, true, false, List, [], ◌∷◌, ◌++◌, length, Some, refl, sym, ap, subst, ◌∙◌, append_assoc, inl, inr, arith}
use Rattle.std.specs.Prelude.{◌||◌, slice_get, slice_set, if◌then◌else◌}
use Rattle.std.specs.List.{AllZip}
use Rattle.std.proofs.lemmas.Bool.Decides.{eqb_tells}
use Rattle.std.proofs.lemmas.List.{append-nil}
use Rattle.std.proofs.lemmas.Option.{same_Some, slice_get_within}
use Rattle.log_ends.proofs.Lists.{get_set, of_place}
use Rattle.roaming_consumer.specs.declared.visit.Visit.{Visit}
use Rattle.roaming_consumer.specs.declared.visit.Visit.TheVariants as visits
use Rattle.checkpoint_io.specs.Blocks.{close_bytes}
use Rattle.roaming_consumer.specs.Roamers.{roamer_version, is_marked, IsSameRun}
use Rattle.roaming_consumer.proofs.lemmas.OnePlace.{get_set_other}
use Rattle.log_ends.specs.declared.consumer.ConsumerEnd.{ConsumerEnd}
use Rattle.log_ends.specs.declared.part_end.PartEnd.{PartEnd}
use Rattle.log_ends.specs.PartEnds.{part_frames, is_part_over}
use Rattle.log_ends.specs.Consumers.{HasPut, consumer_ends, next_writer, waiting, is_over, is_ending, EndGoesOn, FoundNone, ClosesNext}
use Rattle.log_ends.specs.Rounds.{VisitAnswers, IsSamePart, IsVisited, Passes}

-- Each of these writers had its close mark, and no mark changed.
pub record HasMarks (old : ConsumerEnd) (first upto : ℕ) (new : ConsumerEnd) : Type 0 where
  pub all : (writer : ℕ) → first ≤ writer → writer < upto → is_marked old.roamer writer ≡ true
  pub same : (writer : ℕ) → is_marked new.roamer writer ≡ is_marked old.roamer writer

-- The writers from the first one up to this one were visited, and nothing waits.
pub record IsPassing (old : ConsumerEnd) (first upto : ℕ) (all_ended : Bool) (new : ConsumerEnd) : Type 0 where
  pub ends : AllZip EndGoesOn (consumer_ends old) (consumer_ends new)
  pub stands : (wrote : List ℕ) → HasPut old.roamer wrote → HasPut new.roamer wrote
  pub none : waiting new ≡ []
  pub found : (writer : ℕ) (before after : PartEnd) → first ≤ writer → writer < upto → slice_get (consumer_ends old) writer ≡ Some before → slice_get (consumer_ends new) writer ≡ Some after → FoundNone before after
  pub untouched : (writer : ℕ) → upto ≤ writer → slice_get (consumer_ends new) writer ≡ slice_get (consumer_ends old) writer
  pub below : (writer : ℕ) → writer < first → slice_get (consumer_ends new) writer ≡ slice_get (consumer_ends old) writer
  pub ahead : first ≤ upto
  pub over : all_ended ≡ true → (writer : ℕ) → first ≤ writer → writer < upto → is_marked new.roamer writer ≡ true
  pub some_open : all_ended ≡ false → (writer : ℕ) × (end : PartEnd) × (writer < upto) × (slice_get (consumer_ends new) writer ≡ Some end) × (is_part_over end ≡ false)
  pub closed : is_ending old ≡ true → HasMarks old first upto new
  pub same_run : IsSameRun old.roamer new.roamer
  pub same_writers : new.writers ≡ old.writers
  pub same_next : next_writer new ≡ next_writer old
  pub same_over : is_over new ≡ is_over old
  pub same_part : IsSamePart old new

-- The writers from the first one up to this one were visited, and bytes wait of this one alone.
pub record IsStopping (old : ConsumerEnd) (first writer : ℕ) (new : ConsumerEnd) : Type 0 where
  pub ends : AllZip EndGoesOn (consumer_ends old) (consumer_ends new)
  pub stands : (wrote : List ℕ) → HasPut old.roamer wrote → HasPut new.roamer (wrote ++ waiting new)
  pub below : (other : ℕ) → other < first → slice_get (consumer_ends new) other ≡ slice_get (consumer_ends old) other
  pub there : writer < length (consumer_ends new)
  pub ahead : first ≤ writer
  pub passed : (other : ℕ) (before after : PartEnd) → first ≤ other → other < writer → slice_get (consumer_ends old) other ≡ Some before → slice_get (consumer_ends new) other ≡ Some after → FoundNone before after
  pub behind : (other : ℕ) → writer < other → slice_get (consumer_ends new) other ≡ slice_get (consumer_ends old) other
  pub closes : is_ending old ≡ true → ClosesNext old new first writer (waiting new)
  pub same_run : IsSameRun old.roamer new.roamer
  pub same_over : is_over new ≡ is_over old
  pub same_part : IsSamePart old new

-- ---- ends that go on

goes_on_same : (end : PartEnd) → EndGoesOn end end
goes_on_same end = record { same_ring = refl; same_part = refl; same_hold = refl; same_plan = refl; loads_never_fall = omega arith; front = ([], sym (append-nil (part_frames end))) }

goes_on_then : (a b c : PartEnd) → EndGoesOn a b → EndGoesOn b c → EndGoesOn a c
goes_on_then a b c first second = record {
  same_ring = second.same_ring ∙ first.same_ring;
  same_part = second.same_part ∙ first.same_part;
  same_hold = second.same_hold ∙ first.same_hold;
  same_plan = second.same_plan ∙ first.same_plan;
  loads_never_fall = omega (arith, first.loads_never_fall, second.loads_never_fall);
  front = (
    first.front.0 ++ second.front.0,
    second.front.1 ∙ ap (λ (frames : List (List ℕ)). frames ++ second.front.0) first.front.1 ∙ append_assoc (part_frames a) first.front.0 second.front.0,
  );
}

pub all_go_on_same : (ends : List PartEnd) → AllZip EndGoesOn ends ends
all_go_on_same [] = tt
all_go_on_same (end ∷ ends) = (goes_on_same end, all_go_on_same ends)

pub all_go_on_then : (xs ys zs : List PartEnd) → AllZip EndGoesOn xs ys → AllZip EndGoesOn ys zs → AllZip EndGoesOn xs zs
all_go_on_then [] [] [] first second = tt
all_go_on_then [] [] (c ∷ zs) first second = absurd second
all_go_on_then [] (b ∷ ys) zs first second = absurd first
all_go_on_then (a ∷ xs) [] zs first second = absurd first
all_go_on_then (a ∷ xs) (b ∷ ys) [] first second = absurd second
all_go_on_then (a ∷ xs) (b ∷ ys) (c ∷ zs) first second = (goes_on_then a b c first.0 second.0, all_go_on_then xs ys zs first.1 second.1)

-- one of them does
all_go_on_at : (ends : List PartEnd) (writer : ℕ) (before after : PartEnd) → slice_get ends writer ≡ Some before → EndGoesOn before after → AllZip EndGoesOn ends (slice_set ends writer after)
all_go_on_at [] writer before after was on = tt
all_go_on_at (end ∷ ends) zero before after was on =
    (subst (λ (e : PartEnd). EndGoesOn e after) (sym (same_Some end before was)) on, all_go_on_same ends)
all_go_on_at (end ∷ ends) (suc writer) before after was on = (goes_on_same end, all_go_on_at ends writer before after was on)

-- ---- from writer to writer

pub run_then : (a b c : ConsumerEnd) → IsSameRun a.roamer b.roamer → IsSameRun b.roamer c.roamer → IsSameRun a.roamer c.roamer
run_then a b c first second = record {
  messages = second.messages ∙ first.messages;
  version = second.version ∙ first.version;
  clocks = second.clocks ∙ first.clocks;
  clock = second.clock ∙ first.clock;
  batch = second.batch ∙ first.batch;
}

pub passing_none : (old : ConsumerEnd) (first : ℕ) → waiting old ≡ [] → IsPassing old first first true old
passing_none old first none = record {
  ends = all_go_on_same (consumer_ends old);
  stands = λ wrote stands. stands;
  none = none;
  found = λ writer before after from below was now. absurd (omega arith);
  untouched = λ writer from. refl;
  below = λ writer below. refl;
  ahead = omega arith;
  over = λ is writer from below. absurd (omega arith);
  some_open = λ is. absurd cc;
  closed = λ ending. record { all = λ writer from below. absurd (omega arith); same = λ writer. refl };
  same_run = record { messages = refl; version = refl; clocks = refl; clock = refl; batch = refl };
  same_writers = refl;
  same_next = refl;
  same_over = refl;
  same_part = record { ending = refl; earlier = refl };
}

answers_none : (answer : Visit) (before after : PartEnd) (bytes : List ℕ) → VisitAnswers answer before after bytes → bytes ≡ [] → FoundNone before after
answers_none (visits.Wrote n) before after bytes answers none = absurd (answers none)
answers_none visits.Idle before after bytes answers none = answers.0
answers_none visits.Ended before after bytes answers none = answers.0
answers_none (visits.Discarded n) before after bytes answers none = absurd answers

answers_open : (answer : Visit) (before after : PartEnd) (bytes : List ℕ) → answer ≢ visits.Ended → VisitAnswers answer before after bytes → bytes ≡ [] → is_part_over after ≡ false
answers_open (visits.Wrote n) before after bytes open_end answers none = absurd (answers none)
answers_open visits.Idle before after bytes open_end answers none = answers.1
answers_open visits.Ended before after bytes open_end answers none = absurd (open_end refl)
answers_open (visits.Discarded n) before after bytes open_end answers none = absurd answers

-- the bytes of the mark that a writer wants
abbrev mark_bytes : ConsumerEnd → ℕ → List ℕ
mark_bytes consumer writer = if is_marked consumer.roamer writer then [] else close_bytes (roamer_version consumer.roamer) writer

unmarked_waits : (marked : Bool) (version writer : ℕ) → (if marked then [] else close_bytes version writer) ≡ [] → marked ≡ true
unmarked_waits true version writer none = refl
unmarked_waits false version writer none = absurd cc

waits_unmarked : (marked : Bool) (version writer : ℕ) → ¬ ((if marked then [] else close_bytes version writer) ≡ []) → (marked ≡ false) × ((if marked then [] else close_bytes version writer) ≡ close_bytes version writer)
waits_unmarked true version writer some = absurd (some refl)
waits_unmarked false version writer some = (refl, refl)

held_over : (end : PartEnd) → end.held ≡ true → is_part_over end ≡ true
held_over end held = ap (λ (b : Bool). b || end.out.ended) held

-- whether all have ended, of one more
pub data AllEnded (before after : Bool) (answer : Visit) : Type 0 where
  one_more : answer ≡ visits.Ended → after ≡ before → AllEnded before after answer
  not_this : answer ≢ visits.Ended → after ≡ false → AllEnded before after answer

module _ (old cur new : ConsumerEnd) (first writer : ℕ) (all_ended : Bool) (answer : Visit) (passing : IsPassing old first writer all_ended cur) (visited : IsVisited cur writer answer new) where
  at_writer : slice_get (consumer_ends new) writer ≡ Some visited.after
  at_writer = ap (λ (ends : List PartEnd). slice_get ends writer) visited.now ∙ get_set (consumer_ends cur) writer visited.before visited.after visited.was

  elsewhere : (other : ℕ) → other ≢ writer → slice_get (consumer_ends new) other ≡ slice_get (consumer_ends cur) other
  elsewhere other apart = ap (λ (ends : List PartEnd). slice_get ends other) visited.now ∙ get_set_other (consumer_ends cur) writer other visited.after apart

  ends_go_on : AllZip EndGoesOn (consumer_ends old) (consumer_ends new)
  ends_go_on =
      all_go_on_then (consumer_ends old) (consumer_ends cur) (consumer_ends new) passing.ends
      (subst (λ (ends : List PartEnd). AllZip EndGoesOn (consumer_ends cur) ends) (sym visited.now) (all_go_on_at (consumer_ends cur) writer visited.before visited.after visited.was visited.goes_on))

  none_found : waiting new ≡ [] → (other : ℕ) (before after : PartEnd) → first ≤ other → other < writer + 1 → slice_get (consumer_ends old) other ≡ Some before → slice_get (consumer_ends new) other ≡ Some after → FoundNone before after
  none_found none other before after from below was now =
      elim (eqb_tells other writer) [
        | inl same ↦
            let here = same.1 in
            let first_is : before ≡ visited.before = same_Some before visited.before (sym was ∙ ap (slice_get (consumer_ends old)) here ∙ sym (passing.untouched writer (omega arith)) ∙ visited.was) in
            let last_is : after ≡ visited.after = same_Some after visited.after (sym now ∙ ap (slice_get (consumer_ends new)) here ∙ at_writer) in
            subst (λ (pair : PartEnd × PartEnd). FoundNone pair.0 pair.1) (λ i. (sym first_is i, sym last_is i)) (answers_none answer visited.before visited.after (waiting new) visited.answers none)
        | inr apart ↦ passing.found other before after from (omega (arith, apart.1)) was (sym (elsewhere other apart.1) ∙ now)
      ]

  all_marked : (all_now : Bool) → AllEnded all_ended all_now answer → all_now ≡ true → (other : ℕ) → first ≤ other → other < writer + 1 → is_marked new.roamer other ≡ true
  all_marked all_now (one_more is same) over other from below =
      elim (eqb_tells other writer) [
        | inl here ↦ subst (λ (w : ℕ). is_marked new.roamer w ≡ true) (sym here.1) (visited.marked is)
        | inr apart ↦ visited.kept other (passing.over (sym same ∙ over) other from (omega (arith, apart.1)))
      ]
  all_marked all_now (not_this is same) over other from below = absurd cc

  one_open : waiting new ≡ [] → (all_now : Bool) → AllEnded all_ended all_now answer → all_now ≡ false → (other : ℕ) × (end : PartEnd) × (other < writer + 1) × (slice_get (consumer_ends new) other ≡ Some end) × (is_part_over end ≡ false)
  one_open none all_now (one_more is same) not_over =
      let before = passing.some_open (sym same ∙ not_over) in
      (before.0, before.1, omega (arith, before.2), elsewhere before.0 (λ here. omega (arith, here, before.2)) ∙ before.3, before.4)
  one_open none all_now (not_this is same) not_over = (writer, visited.after, omega arith, at_writer, answers_open answer visited.before visited.after (waiting new) is visited.answers none)

  still_below : (other : ℕ) → other < first → slice_get (consumer_ends new) other ≡ slice_get (consumer_ends old) other
  still_below other below = elsewhere other (λ here. omega (arith, here, below, passing.ahead)) ∙ passing.below other below

  same_part_now : IsSamePart old new
  same_part_now = record {
    ending = visited.same_part.ending ∙ passing.same_part.ending;
    earlier = visited.same_part.earlier ∙ passing.same_part.earlier;
  }

  -- where the part is being ended, the writer's end is held
  answers_ended : is_ending old ≡ true → answer ≡ visits.Ended
  answers_ended ending =
      visited.again (held_over visited.before (of_place (λ (end : PartEnd). end.held ≡ cur.ending) (consumer_ends cur) writer visited.before cur.held visited.was ∙ passing.same_part.ending ∙ ending))

  module _ (ending : is_ending old ≡ true) where
    mark : waiting new ≡ mark_bytes cur writer
    mark = visited.mark (answers_ended ending)

    had : HasMarks old first writer cur
    had = passing.closed ending

    closed_one_here : waiting new ≡ [] → is_marked cur.roamer writer ≡ true
    closed_one_here none = unmarked_waits (is_marked cur.roamer writer) (roamer_version cur.roamer) writer (sym mark ∙ none)

  closed_one : waiting new ≡ [] → is_ending old ≡ true → HasMarks old first (writer + 1) new
  closed_one none ending =
      let here = closed_one_here ending none in
      let was = had ending in
      let still : (other : ℕ) → is_marked new.roamer other ≡ is_marked cur.roamer other =
      λ other. elim (eqb_tells other writer) [
        | inl same ↦ subst (λ (w : ℕ). is_marked new.roamer w ≡ is_marked cur.roamer w) (sym same.1) (visited.marked (answers_ended ending) ∙ sym here)
        | inr apart ↦ visited.others other apart.1
      ] in
      record {
        all = λ other from below. elim (eqb_tells other writer) [
          | inl same ↦ subst (λ (w : ℕ). is_marked old.roamer w ≡ true) (sym same.1) (sym (was.same writer) ∙ here)
          | inr apart ↦ was.all other from (omega (arith, below, apart.1))
        ];
        same = λ other. still other ∙ was.same other;
      }

  closes_one : ¬ (waiting new ≡ []) → is_ending old ≡ true → ClosesNext old new first writer (waiting new)
  closes_one some ending =
      let was = had ending in
      let unmarked = waits_unmarked (is_marked cur.roamer writer) (roamer_version cur.roamer) writer (λ none. some (mark ending ∙ none)) in
      record {
        below = was.all;
        unmarked = sym (was.same writer) ∙ unmarked.0;
        marked = visited.marked (answers_ended ending);
        mark = mark ending ∙ unmarked.1 ∙ ap (λ (version : ℕ). close_bytes version writer) passing.same_run.version;
      }

  -- nothing waits behind the visit
  pub passing_one : waiting new ≡ [] → (all_now : Bool) → AllEnded all_ended all_now answer → IsPassing old first (writer + 1) all_now new
  passing_one none all_now told = record {
    ends = ends_go_on;
    stands = λ wrote stands. subst (λ (bytes : List ℕ). HasPut new.roamer bytes) (ap (λ (back : List ℕ). wrote ++ back) none ∙ append-nil wrote) (visited.stands wrote (passing.stands wrote stands));
    none = none;
    found = none_found none;
    untouched = λ other from. elsewhere other (λ here. omega (arith, here)) ∙ passing.untouched other (omega arith);
    below = still_below;
    ahead = omega (arith, passing.ahead);
    over = all_marked all_now told;
    some_open = one_open none all_now told;
    closed = closed_one none;
    same_run = run_then old cur new passing.same_run visited.same_run;
    same_writers = visited.same_place.0 ∙ passing.same_writers;
    same_next = visited.same_place.1 ∙ passing.same_next;
    same_over = visited.same_over ∙ passing.same_over;
    same_part = same_part_now;
  }

  -- something waits behind the visit
  pub passing_stops : ¬ (waiting new ≡ []) → IsStopping old first writer new
  passing_stops some = record {
    ends = ends_go_on;
    stands = λ wrote stands. visited.stands wrote (passing.stands wrote stands);
    below = still_below;
    there = slice_get_within (consumer_ends new) writer visited.after at_writer;
    ahead = passing.ahead;
    passed = λ other before after from below was now. passing.found other before after from below was (sym (elsewhere other (λ here. omega (arith, here, below))) ∙ now);
    behind = λ other above. elsewhere other (λ here. omega (arith, here, above)) ∙ passing.untouched other (omega arith);
    closes = closes_one some;
    same_run = run_then old cur new passing.same_run visited.same_run;
    same_over = visited.same_over ∙ passing.same_over;
    same_part = same_part_now;
  }

-- all were visited, and nothing waits
pub passed : (old new : ConsumerEnd) (first upto : ℕ) (all_ended : Bool) → length (consumer_ends new) ≤ upto → IsPassing old first upto all_ended new → Passes old first all_ended new
passed old new first upto all_ended all passing = record {
  ends = passing.ends;
  stands = λ wrote stands. subst (λ (bytes : List ℕ). HasPut new.roamer bytes) (sym (ap (λ (back : List ℕ). wrote ++ back) passing.none ∙ append-nil wrote)) (passing.stands wrote stands);
  below = passing.below;
  found = λ none writer before after from was now. passing.found writer before after from (omega (arith, all, slice_get_within (consumer_ends new) writer after now)) was now;
  stopped = λ some. absurd (some passing.none);
  same_next = λ none. passing.same_next;
  over = λ is. (passing.none, λ writer from below. passing.over is writer from (omega (arith, all, below)));
  some_open = λ is none. let o = passing.some_open is in (o.0, o.1, o.3, o.4);
  same_run = passing.same_run;
  same_over = passing.same_over;
  same_part = passing.same_part;
}
