use Rattle.std.proofs.Common.{◌≡◌, true, ap, ◌∙◌}
use Rattle.std.proofs.lemmas.Slice.Zip.{AllZip-long}
use Rattle.roaming_consumer.proofs.lemmas.OnePlace.{zip_second}
use Rattle.log_ends.specs.declared.part_end.PartEnd.{PartEnd}
use Rattle.log_ends.specs.PartEnds.{EndsPart}
use Rattle.log_ends.proofs.consumer.ConsumerEnd.next_part.Goals as goal

pub invariant_of-self-clause-counted : goal.invariant_of-self-clause-counted
invariant_of-self-clause-counted c = AllZip-long _ _ _ c.end_part.ensures.ends ∙ c.args.self.now.counted

pub invariant_of-self-clause-planned : goal.invariant_of-self-clause-planned
invariant_of-self-clause-planned c = c.end_part.ensures.planned c.args.self.now.planned

pub invariant_of-self-clause-held : goal.invariant_of-self-clause-held
invariant_of-self-clause-held c = zip_second EndsPart (λ (end : PartEnd). end.held ≡ true) (λ before after is. ap (λ (end : PartEnd). end.held) is) _ _ c.end_part.ensures.ends
