use Rattle.std.proofs.Common.{List, ◌∷◌, ◌++◌, length, map, sym, ap, subst, ◌∙◌, arith}
use Rattle.std.specs.Prelude.{All}
use Rattle.std.proofs.lemmas.List.Elements.{All-nil, All-push}
use Rattle.word_ring.specs.Ends.{WordRoamerEnd}
use Rattle.log_ends.specs.declared.part_end.PartEnd.{PartEnd}
use Rattle.log_ends.specs.PartEnds.{IsFirstPart}
use Rattle.arg_records.proofs.lemmas.Walks.{one_less}
use Rattle.log_ends.proofs.Lists.{moved_next, moved_all}
use Rattle.log_ends.proofs.opening.part_ends.Goals as goal

pub loop-out-init : goal.loop-out-init
loop-out-init c =
    let same = c.into_iter-out-iterator.ensures.into_iter_gives.0 in record {
      goes_on = tt;
      ends = tt;
      joined = ap (λ (made : List PartEnd). map (λ (end : PartEnd). end.out) made ++ c.into_iter-out-iterator.result.rest.items) c.in_ok-ends.ensures.items ∙ same;
      first = subst (All IsFirstPart) (sym c.in_ok-ends.ensures.items) (All-nil IsFirstPart);
      long = let v = c.args.outs.ok in let same_len = c.into_iter-out-iterator.ensures.into_iter_gives.1 in omega (arith, ap length same, v.0, same_len);
    }

pub loop-out-preserved : goal.loop-out-preserved
loop-out-preserved c =
    let next = c.in-Some.ensures.steps.0 in record {
      goes_on = tt;
      ends = tt;
      joined = ap (λ (made : List PartEnd). map (λ (end : PartEnd). end.out) made ++ c.next.new.self.rest.items) c.in_ok-push.ensures.items
          ∙ moved_next (λ (end : PartEnd). end.out) c.loop-out.ends.items _ _ _ _ c.loop-out.invariant.joined (next ∙ ap (λ (out : WordRoamerEnd). out ∷ c.next.new.self.rest.items) (sym c.over.ensures.of_ring));
      first = subst (All IsFirstPart) (sym c.in_ok-push.ensures.items) (All-push IsFirstPart c.loop-out.ends.items _ c.loop-out.invariant.first c.over.ensures.first);
      long = one_less _ _ c.in-Some.out _ _ c.loop-out.invariant.long next c.in-Some.ensures.steps.1;
    }

pub returns-clause-rings : goal.returns-clause-rings
returns-clause-rings c = moved_all (λ (end : PartEnd). end.out) _ _ _ c.loop-out.invariant.joined (c.loop-out.invariant.long ∙ c.in-None.ensures.steps.0)
