use Rattle.std.proofs.Common.{◌≡◌, List, ◌++◌, length, map, refl, sym, ap, subst, ◌∙◌, arith}
use Rattle.std.specs.Prelude.{All}
use Rattle.std.proofs.lemmas.List.Elements.{All-nil}
use Rattle.log_session.specs.Writers.{WriterView}
use Rattle.word_ring.specs.Ends.{WordWriterEnd}
use Rattle.log_ends.specs.declared.writer.WriterEnd.{WriterEnd}
use Rattle.log_ends.specs.Ends.{IsWriterFor}
use Rattle.std.proofs.lemmas.List.Elements.{All-push}
use Rattle.arg_records.proofs.lemmas.Walks.{all_next, one_less}
use Rattle.log_ends.proofs.Lists.{moved_next, moved_all}
use Rattle.log_ends.proofs.opening.writer_ends.Goals as goal

pub loop-writer-init : goal.loop-writer-init
loop-writer-init c =
    let same = c.into_iter-writer-iterator.ensures.into_iter_gives.0 in record {
      goes_on = tt;
      ends = tt;
      joined = ap (λ (made : List WriterEnd). map (λ (end : WriterEnd). end.writer) made ++ c.into_iter-writer-iterator.result.rest.items) c.in_ok-left.ensures.items ∙ same;
      planned = subst (λ (items : List (WriterView WordWriterEnd)). All (IsWriterFor c.args.dictionary.now) items) (sym same) c.requires;
      named = subst (λ (made : List WriterEnd). All (λ (end : WriterEnd). end.dictionary.now ≡ c.args.dictionary.now) made) (sym c.in_ok-left.ensures.items) (All-nil (λ (end : WriterEnd). end.dictionary.now ≡ c.args.dictionary.now));
      long = let v = c.args.writers.ok in let same_len = c.into_iter-writer-iterator.ensures.into_iter_gives.1 in omega (arith, ap length same, v.0, same_len);
    }

pub invariant_of-push_back : goal.invariant_of-push_back
invariant_of-push_back c = record {
  planned = (all_next (IsWriterFor c.args.dictionary.now) _ _ c.in-Some.writer c.in-Some.ensures.steps.0 c.loop-writer.invariant.planned).0;
}

pub loop-writer-preserved : goal.loop-writer-preserved
loop-writer-preserved c =
    let next = c.in-Some.ensures.steps.0 in record {
      goes_on = tt;
      ends = tt;
      joined = ap (λ (made : List WriterEnd). map (λ (end : WriterEnd). end.writer) made ++ c.next.new.self.rest.items) c.in_ok-push_back.ensures.items
          ∙ moved_next (λ (end : WriterEnd). end.writer) c.loop-writer.left.items _ _ _ _ c.loop-writer.invariant.joined next;
      planned = (all_next (IsWriterFor c.args.dictionary.now) _ _ c.in-Some.writer next c.loop-writer.invariant.planned).1;
      named = subst (λ (made : List WriterEnd). All (λ (end : WriterEnd). end.dictionary.now ≡ c.args.dictionary.now) made) (sym c.in_ok-push_back.ensures.items) (All-push (λ (end : WriterEnd). end.dictionary.now ≡ c.args.dictionary.now) c.loop-writer.left.items _ c.loop-writer.invariant.named refl);
      long = one_less _ _ c.in-Some.writer _ _ c.loop-writer.invariant.long next c.in-Some.ensures.steps.1;
    }

pub returns : goal.returns
returns c = record {
  writers = moved_all (λ (end : WriterEnd). end.writer) _ _ _ c.loop-writer.invariant.joined (c.loop-writer.invariant.long ∙ c.in-None.ensures.steps.0);
  messages = c.loop-writer.invariant.named;
}
