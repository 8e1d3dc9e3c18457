use Rattle.std.proofs.Common.{◌≡◌, ◌==◌, true, false, ℕ, ◌≤◌, List, [], ◌∷◌, ◌++◌, length, rules, refl, sym, ap, subst, ◌∙◌, inl, inr, ⊎_elim, arith}
use borrow.Author.Tests.{eqb-true}
use Rattle.std.specs.Prelude.{max}
use Rattle.std.proofs.lemmas.Bool.{both_ways}
use Rattle.std.proofs.lemmas.List.{append-nil, nil_from_length}
use Rattle.roaming_consumer.specs.Roamers.{roamer_progress}
use Rattle.log_ends.specs.declared.consumer.ConsumerEnd.{ConsumerEnd}
use Rattle.log_ends.specs.Consumers.{HasPut, consumer_ends, next_writer, waiting, is_ending, earlier_stamp, HasGiven, GivesMore, SameRings}
use Rattle.log_ends.proofs.Passing.{all_go_on_same}
use Rattle.log_ends.proofs.Parts.{rings_of, rings_begin, parts_begin, whole_part}
use Rattle.log_ends.proofs.Backs.{given_rest, given_before, given_none, given_some}
use Rattle.log_ends.proofs.consumer.ConsumerEnd.pump.Goals as goal

gives_none : (self : ConsumerEnd) → GivesMore self self []
gives_none self = record {
  more = λ given stands. subst (HasGiven self) (sym (append-nil given)) stands;
  ends = all_go_on_same (consumer_ends self);
  same_ending = refl;
  same_earlier = refl;
}

same_rings : (self : ConsumerEnd) → SameRings (consumer_ends self) (consumer_ends self)
same_rings self = rings_of (consumer_ends self) (consumer_ends self) (all_go_on_same (consumer_ends self))

pub returns-then-is_empty-clause-pumps : goal.returns-then-is_empty-clause-pumps
returns-then-is_empty-clause-pumps c = record {
  gave = tt;
  rest = refl;
  more = λ is. gives_none c.args.self.now;
  part_over = λ is. absurd cc;
  no_room = (λ is. nil_from_length c.args.into.now (eqb-true (length c.args.into.now) 0 (sym c.if-is_empty.ensures)), λ is. refl);
  unchanged = λ is. refl;
  nothing = λ is. absurd cc;
  at_end = λ is. absurd cc;
  told = (inl, ⊎_elim (λ over. over) (λ is. absurd cc));
  again = λ over. (refl, inr refl);
  turns = record { waited = λ _. (refl, refl); served = λ _ _. tt; closed = λ _ _. tt; none = λ _. refl };
  rings = same_rings c.args.self.now;
  same_run = record { messages = refl; version = refl; clocks = refl; clock = refl; batch = refl };
}

-- where it isn't empty it isn't the empty list
some : (bytes : List ℕ) → false ≡ (length bytes == 0) → ¬ (bytes ≡ [])
some [] told is = absurd cc
some (byte ∷ bytes) told is = absurd cc

pub returns-then-self-clause-pumps : goal.returns-then-self-clause-pumps
returns-then-self-clause-pumps c =
    let ended = c.args.self.now.ended c.if-self.true in record {
      gave = tt;
      rest = refl;
      more = λ is. gives_none c.args.self.now;
      part_over = λ is. absurd cc;
      no_room = (λ is. absurd cc, λ is. absurd (some c.args.into.now c.if-is_empty.ensures is));
      unchanged = λ is. refl;
      nothing = λ is. absurd cc;
      at_end = λ is. ((ended.0, ended.1), ended.2);
      told = (inl, λ _. c.if-self.true);
      again = λ over. (refl, inl refl);
      turns = record { waited = λ _. (refl, refl); served = λ _ _. tt; closed = λ _ _. tt; none = λ _. refl };
      rings = same_rings c.args.self.now;
      same_run = record { messages = refl; version = refl; clocks = refl; clock = refl; batch = refl };
    }

pub returns-then-self-2-clause-pumps : goal.returns-then-self-2-clause-pumps
returns-then-self-2-clause-pumps c =
    let seeks = c.seek.ensures in
    let begins = c.begin_part.ensures in
    let old = c.args.self.now in
    let mid = c.seek.new.self in
    let new = c.begin_part.new.self in
    let all = seeks.over c.if-seek.true in
    let none = seeks.found all.1 in
    let rings = parts_begin (consumer_ends old) (consumer_ends mid) (consumer_ends new) seeks.ends none begins.ends in
    let ending : is_ending old ≡ true = sym seeks.same_part.ending ∙ c.if-self-2.true in record {
      gave = tt;
      rest = refl;
      more = λ other. absurd (other refl);
      part_over = λ is. record {
        ended = ending;
        whole = λ given has. whole_part old mid (earlier_stamp new) none seeks.same_run all (begins.earlier ∙ ap (λ (n : ℕ). max n (roamer_progress mid.roamer).latest) seeks.same_part.earlier) given (seeks.stands given has);
        anew = begins.anew;
        ends = rings;
        open_part = begins.open_part;
      };
      no_room = (λ is. absurd cc, λ is. absurd (some c.args.into.now c.if-is_empty.ensures is));
      unchanged = λ is. absurd cc;
      nothing = λ is. absurd cc;
      at_end = λ is. absurd cc;
      told = (λ over. inl (sym (begins.same_over ∙ seeks.same_over) ∙ over), ⊎_elim (λ over. begins.same_over ∙ seeks.same_over ∙ over) (λ is. absurd cc));
      again = λ over. absurd (both_ways old.over c.if-self.false over);
      turns = record {
        waited = λ some_yet. absurd (some_yet (ap waiting (sym (seeks.waited some_yet)) ∙ all.1));
        served = λ _ _. tt;
        closed = λ _ _. tt;
        none = λ is. begins.same_next ∙ seeks.same_next all.1;
      };
      rings = rings_begin (consumer_ends old) (consumer_ends new) rings;
      same_run = record {
        messages = begins.same_run.messages ∙ seeks.same_run.messages;
        version = begins.same_run.version ∙ seeks.same_run.version;
        clocks = begins.same_run.clocks ∙ seeks.same_run.clocks;
        clock = begins.same_run.clock ∙ seeks.same_run.clock;
        batch = begins.same_run.batch ∙ seeks.same_run.batch;
      };
    }

pub returns-then-seek-clause-pumps : goal.returns-then-seek-clause-pumps
returns-then-seek-clause-pumps c =
    let seeks = c.seek.ensures in
    let old = c.args.self.now in
    let all = seeks.over c.if-seek.true in record {
      gave = tt;
      rest = refl;
      more = λ is. record {
        more = λ given stands. subst (λ (front : List ℕ). HasPut c.seek.new.self.roamer (front ++ waiting c.seek.new.self)) (sym (append-nil given)) (seeks.stands given stands);
        ends = seeks.ends;
        same_ending = seeks.same_part.ending;
        same_earlier = seeks.same_part.earlier;
      };
      part_over = λ is. absurd cc;
      no_room = (λ is. absurd cc, λ is. absurd (some c.args.into.now c.if-is_empty.ensures is));
      unchanged = λ is. absurd cc;
      nothing = λ is. absurd cc;
      at_end = λ is. (all, cc);
      told = (λ _. inr refl, λ _. refl);
      again = λ over. absurd (both_ways old.over c.if-self.false over);
      turns = record {
        waited = λ some_yet. (ap consumer_ends (seeks.waited some_yet), ap next_writer (seeks.waited some_yet));
        served = λ _ _. tt;
        closed = λ _ _. tt;
        none = λ is. seeks.same_next all.1;
      };
      rings = rings_of (consumer_ends old) (consumer_ends c.seek.new.self) seeks.ends;
      same_run = seeks.same_run;
    }

pub returns-in-0-clause-pumps : goal.returns-in-0-clause-pumps
returns-in-0-clause-pumps c =
    let seeks = c.seek.ensures in
    let old = c.args.self.now in
    let none = given_none c.seek.new.self.backlog c.give.new.self c.args.into.now c.give.new.into c.give.result c.give.ensures.gives c.in-0.is (some c.args.into.now c.if-is_empty.ensures) in record {
      gave = tt;
      rest = search rules;
      more = λ is. record {
        more = search rules;
        ends = seeks.ends;
        same_ending = seeks.same_part.ending;
        same_earlier = seeks.same_part.earlier;
      };
      part_over = λ is. absurd cc;
      no_room = (λ is. absurd cc, λ is. absurd (some c.args.into.now c.if-is_empty.ensures is));
      unchanged = λ is. absurd cc;
      nothing = λ is. record {
        none = search rules;
        found = seeks.found none;
        one_open = seeks.some_open c.if-seek.false none;
      };
      at_end = λ is. absurd cc;
      told = search rules;
      again = λ over. absurd (both_ways old.over c.if-self.false over);
      turns = record {
        waited = λ some_yet. (ap consumer_ends (seeks.waited some_yet), ap next_writer (seeks.waited some_yet));
        served = λ _ _. tt;
        closed = λ _ _. tt;
        none = λ is. seeks.same_next none;
      };
      rings = rings_of (consumer_ends old) (consumer_ends c.seek.new.self) seeks.ends;
      same_run = seeks.same_run;
    }

pub returns-in_default-clause-pumps : goal.returns-in_default-clause-pumps
returns-in_default-clause-pumps c =
    let seeks = c.seek.ensures in
    let old = c.args.self.now in
    let backlog = c.seek.new.self.backlog in
    let count = c.give.result in
    let gives = c.give.ensures.gives in
    let gave : (1 ≤ count) × (count ≤ length c.args.into.now) = search rules in
    let some_waits = given_some backlog c.give.new.self c.args.into.now c.give.new.into count gives gave.0 in record {
      gave = gave;
      rest = given_rest backlog c.give.new.self c.args.into.now c.give.new.into count gives;
      more = λ is. record {
        more = λ given stands. subst (HasPut c.seek.new.self.roamer) (given_before backlog c.give.new.self c.args.into.now c.give.new.into count gives given) (seeks.stands given stands);
        ends = seeks.ends;
        same_ending = seeks.same_part.ending;
        same_earlier = seeks.same_part.earlier;
      };
      part_over = λ is. absurd cc;
      no_room = (λ is. absurd cc, λ is. absurd (some c.args.into.now c.if-is_empty.ensures is));
      unchanged = λ is. absurd cc;
      nothing = λ is. absurd cc;
      at_end = λ is. absurd cc;
      told = search rules;
      again = λ over. absurd (both_ways old.over c.if-self.false over);
      turns = record {
        waited = λ some_yet. (ap consumer_ends (seeks.waited some_yet), ap next_writer (seeks.waited some_yet));
        served = λ none_yet unended.
            let serves = seeks.served none_yet unended some_waits in record {
              writer = serves.writer;
              there = serves.there;
              passed = serves.passed;
              alone = serves.alone;
              next = serves.next;
            };
        closed = λ none_yet ending.
            let closes = seeks.closed none_yet ending some_waits in (
              closes.0,
              record {
                below = closes.1.below;
                unmarked = closes.1.unmarked;
                marked = closes.1.marked;
                mark = sym (given_before backlog c.give.new.self c.args.into.now c.give.new.into count gives []) ∙ closes.1.mark;
              },
              closes.2,
            );
        none = λ is. absurd (omega (arith, is, gave.0));
      };
      rings = rings_of (consumer_ends old) (consumer_ends c.seek.new.self) seeks.ends;
      same_run = seeks.same_run;
    }
