use Rattle.std.proofs.Common.{refl, true, false, sym, ◌∙◌, ◌≡◌}
use Rattle.stamp_merge.proofs.lemmas.Comparing.{nat_cmp-less, nat_cmp-equal}
use Rattle.direct_printf.proofs.lemmas.Sorting.{call_order}
use Rattle.direct_printf.proofs.laws.calls_go_by_stamp_then_writer_then_ordinal.Goals as goal

pub returns : goal.returns
returns c = record {
  stamp = λ a b stamps. rw (nat_cmp-less a.stamp b.stamp stamps) refl;
  writer = λ a b stamps writers. rw (nat_cmp-equal a.stamp b.stamp stamps, nat_cmp-less a.writer b.writer writers) refl;
  ordinal = λ a b stamps writers ordinals.
      rw (nat_cmp-equal a.stamp b.stamp stamps, nat_cmp-equal a.writer b.writer writers, nat_cmp-less a.ordinal b.ordinal ordinals) refl;
  itself = λ call before.
      let none : true ≡ false = sym before ∙ rw (nat_cmp-equal call.stamp call.stamp refl, nat_cmp-equal call.writer call.writer refl, nat_cmp-equal call.ordinal call.ordinal refl) refl in
      absurd cc;
  one_way = λ a b first second. let both : true ≡ false = sym second ∙ call_order.one_way a b first in absurd cc;
}
