use Rattle.std.proofs.Common.{◌≡◌, ℕ, ◌+◌, List, [], replicate, sym, ◌∙◌, subst, arith}
use Rattle.atomic_table.specs.Table.{opening}
use Rattle.word_ring.specs.declared.places.TheConstants.{DATA}
use Rattle.word_ring.specs.Rule.{newcomer, IsRingTable}
use Rattle.word_ring.proofs.Events.{begins}
use Rattle.word_ring.proofs.word_ring.WordRingStage.make.Goals as goal

pub of_words-requires : goal.of_words-requires
of_words-requires c =
    let size = c.args.words in
    let zeros : c.deref.result.now ≡ replicate (DATA + size) 0 = c.deref.ensures.value ∙ c.in-Ok.ensures.items_if_clones_equal (λ y same. same) in
    subst (λ (words : List ℕ). IsRingTable size (opening words [] (newcomer size))) (sym zeros) (begins size (omega (arith, c.if-words-lt-MIN_RING.false))).0
