use Rattle.std.proofs.Common.{◌≡◌, true, [], refl, arith}
use Rattle.log_ends.specs.Consumers.{waiting}
use Rattle.log_ends.proofs.Passing.{passing_none, passing_one, passing_stops, passed, one_more, not_this}
use Rattle.log_ends.proofs.consumer.ConsumerEnd.visit_from.Goals as goal
use Rattle.log_ends.proofs.consumer.ConsumerEnd.visit_from.Goals.{in-Ended, in_default}

pub loop-writer-init : goal.loop-writer-init
loop-writer-init c = record {
  passing = passing_none c.args.self.now c.args.first c.requires.none;
  counted = refl;
}

pub returns-then-not-is_empty : goal.returns-then-not-is_empty
returns-then-not-is_empty c =
    let some : ¬ (waiting c.visit-visit.new.self ≡ []) = λ none. let told : c.is_empty.result ≡ true = c.is_empty.ensures.1 none in absurd cc in
    let stops = passing_stops c.args.self.now c.loop-writer.self c.visit-visit.new.self c.args.first c.loop-writer.writer c.loop-writer.all_ended c.visit-visit.result c.loop-writer.invariant.passing c.visit-visit.ensures some in record {
      ends = stops.ends;
      stands = stops.stands;
      below = stops.below;
      found = λ none. absurd (some none);
      stopped = λ _. (
        c.loop-writer.writer,
        record {
          there = stops.there;
          ahead = stops.ahead;
          passed = stops.passed;
          behind = stops.behind;
          next = refl;
          closes = λ ending.
              let closes = stops.closes ending in record {
                below = closes.below;
                unmarked = closes.unmarked;
                marked = closes.marked;
                mark = closes.mark;
              };
        },
      );
      same_next = λ none. absurd (some none);
      over = λ is. absurd cc;
      some_open = λ is none. absurd (some none);
      same_run = stops.same_run;
      same_over = stops.same_over;
      same_part = record { ending = stops.same_part.ending; earlier = stops.same_part.earlier };
    }

pub loop-writer-preserved : goal.loop-writer-preserved
loop-writer-preserved c =
    let none : waiting c.visit-visit.new.self ≡ [] = c.is_empty.ensures.0 c.if-not-is_empty.false in record {
      passing = passing_one c.args.self.now c.loop-writer.self c.visit-visit.new.self c.args.first c.loop-writer.writer c.loop-writer.all_ended c.visit-visit.result c.loop-writer.invariant.passing c.visit-visit.ensures none c.match-visit.all_ended
          (elim c.match-visit.branch [ in-Ended w ↦ one_more w.in-Ended.is w.all_ended-is | in_default w ↦ not_this w.in_default.not-Ended w.all_ended-is ]);
      counted = refl;
    }

pub returns : goal.returns
returns c =
    passed c.args.self.now c.loop-writer.self c.args.first c.loop-writer.writer c.loop-writer.all_ended (omega (arith, c.loop-writer.self.counted, c.loop-writer.invariant.passing.same_writers)) c.loop-writer.invariant.passing
