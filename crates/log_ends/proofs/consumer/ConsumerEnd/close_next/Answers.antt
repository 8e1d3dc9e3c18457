use Rattle.std.proofs.Common.{refl, arith}
use Rattle.std.proofs.lemmas.Bool.{both_ways}
use Rattle.std.proofs.lemmas.List.Elements.{length_all_zip}
use Rattle.log_ends.specs.Consumers.{consumer_ends, is_ending, EndGoesOn, FoundNone}
use Rattle.log_ends.proofs.Lists.{by_place}
use Rattle.log_ends.proofs.Seeking.{nothing_more}
use Rattle.log_ends.proofs.consumer.ConsumerEnd.close_next.Goals as goal

pub returns : goal.returns
returns c =
    let old = c.args.self.now in
    let cur = c.visit_from-closed.new.self in
    let passes = c.visit_from-closed.ensures in record {
      ends = passes.ends;
      stands = λ given stands. passes.stands given (nothing_more given c.requires.none stands);
      found = λ none. by_place FoundNone (consumer_ends old) (consumer_ends cur) (length_all_zip EndGoesOn (consumer_ends old) (consumer_ends cur) passes.ends) (λ i x y was now. passes.found none i x y (omega arith) was now);
      waited = λ some. absurd (some c.requires.none);
      served = λ none unended. absurd (both_ways (is_ending old) unended c.requires.ending);
      closed = λ none ending some.
          let stops = passes.stopped some in
          let closes = stops.1.closes ending in (
            stops.0,
            record {
              below = closes.below;
              unmarked = closes.unmarked;
              marked = closes.marked;
              mark = closes.mark;
            },
            refl,
          );
      same_next = λ none. refl;
      over = λ all. let each = passes.over all in (λ writer below. each.1 writer (omega arith) below, each.0);
      some_open = passes.some_open;
      same_run = passes.same_run;
      same_over = passes.same_over;
      same_part = record { ending = passes.same_part.ending; earlier = passes.same_part.earlier };
    }
