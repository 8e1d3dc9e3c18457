use Rattle.std.proofs.Common.{◌≡◌, ◌+◌, ◌-◌, List, length, take, drop, ap, subst, ◌∙◌, arith}
use Rattle.std.proofs.lemmas.List.{length-take-le, length-drop}
use borrow.Rule.Slice.PartMut.{put_mid}
use Rattle.log_dictionary.specs.declared.message.Message.{Message}
use Rattle.checkpoint_io.specs.Blocks.{SpellsFragment}
use Rattle.roaming_consumer.proofs.Fragmenting.{fragment_put}
use Rattle.roaming_consumer.proofs.fragments.put_fragment.Goals as goal

pub returns-clause-spelled : goal.returns-clause-spelled
returns-clause-spelled c =
    let first = c.args.first in
    let count = c.args.count in
    let all = c.args.messages.now in
    let size : first + count - first ≡ count = omega arith in
    let same : take (first + count - first) (drop first all) ≡ take count (drop first all) = λ i. take (size i) (drop first all) in
    let many : length (take (first + count - first) (drop first all)) ≡ count =
    ap length same ∙ length-take-le count (drop first all) (omega (arith, c.requires.within, length-drop first all)) in
    let head = c.put_fragment_head-head.result in
    let buffer = c.put_fragment_head-head.new.into in
    subst (λ (ms : List Message). SpellsFragment first ms (take (head + c.put_entries.result) (put_mid head (length buffer - head) buffer c.put_entries.new.into))) same
    (fragment_put (take (first + count - first) (drop first all)) first count buffer _ c.put_entries.new.into head (length buffer - head) c.put_entries.result many c.requires.some c.requires.few c.ranges.first.fits c.put_fragment_head-head.ensures.put c.put_fragment_head-head.ensures.len c.put_entries.ensures.spelled (omega (arith, c.put_entries.ensures.within, c.put_entries.auto.into)))
