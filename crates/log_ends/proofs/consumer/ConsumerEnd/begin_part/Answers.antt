use Rattle.std.proofs.Common.{◌≡◌, rules, false, List, [], length, refl, sym, ap, subst, ◌∙◌, arith}
use Rattle.std.specs.Prelude.{All}
use Rattle.std.specs.List.{AllZip}
use Rattle.std.proofs.lemmas.Slice.Zip.{AllZip-long}
use Rattle.checkpoint_io.proofs.lemmas.VersionLaws.{few_len}
use Rattle.roaming_consumer.specs.Roamers.{roamer_header}
use Rattle.roaming_consumer.proofs.lemmas.OnePlace.{zip_second}
use Rattle.log_ends.specs.declared.part_end.PartEnd.{PartEnd}
use Rattle.log_ends.specs.PartEnds.{BeginsPart}
use Rattle.log_ends.specs.Rooms.{definitions_len}
use Rattle.log_ends.specs.Consumers.{consumer_ends}
use Rattle.log_ends.proofs.Consumers.{planned_same}
use Rattle.log_ends.proofs.Faultless.{header_succeeds, no_error}
use Rattle.log_ends.proofs.Visiting.{stands_after}
use Rattle.log_ends.proofs.consumer.ConsumerEnd.begin_part.Goals as goal

pub unreachable-requires : goal.unreachable-requires
unreachable-requires c =
    let self = c.args.self.now in
    no_error c.begin.result
    (header_succeeds self.backlog c.begin.new.sink (roamer_header c.begin_part.new.self) c.begin.result c.requires.none self.unrefused (omega (arith, self.roomy, few_len (roamer_header c.begin_part.new.self).version)) c.begin.ensures.others c.begin.ensures.sent)
    (sym c.if-is_err.ensures.value)

pub invariant_of-self-clause-counted : goal.invariant_of-self-clause-counted
invariant_of-self-clause-counted c = ap (λ (ends : List PartEnd). length ends) c.begin.ensures.same_ends ∙ AllZip-long _ _ _ c.begin_part.ensures.ends ∙ c.args.self.now.counted

pub invariant_of-self-clause-planned : goal.invariant_of-self-clause-planned
invariant_of-self-clause-planned c =
    planned_same (λ (end : PartEnd). end.out.plan) _ _ c.begin.ensures.same_ends c.begin.ensures.same_run (c.begin_part.ensures.planned c.args.self.now.planned)

pub invariant_of-self-clause-held : goal.invariant_of-self-clause-held
invariant_of-self-clause-held c =
    subst (All (λ (end : PartEnd). end.held ≡ false)) (sym c.begin.ensures.same_ends) (zip_second BeginsPart (λ (end : PartEnd). end.held ≡ false) (λ before after is. is.open_part) _ _ c.begin_part.ensures.ends)

pub invariant_of-self-clause-roomy : goal.invariant_of-self-clause-roomy
invariant_of-self-clause-roomy c =
    omega (arith, ap definitions_len (c.begin.ensures.same_run.messages ∙ c.begin_part.ensures.same_run.messages), c.begin.ensures.others.room, c.args.self.now.roomy)

pub returns : goal.returns
returns c =
    let first = c.begin_part.ensures in
    let second = c.begin.ensures in record {
      ends = subst (AllZip BeginsPart (consumer_ends c.args.self.now)) (sym second.same_ends) first.ends;
      open_part = refl;
      anew = stands_after c.begin_part.new.self c.begin.new.self c.args.self.now.backlog c.begin.new.sink c.requires.none second.wrote [] first.stands;
      earlier = search rules;
      same_run = record {
        messages = second.same_run.messages ∙ first.same_run.messages;
        version = second.same_run.version ∙ first.same_run.version;
        clocks = second.same_run.clocks ∙ first.same_run.clocks;
        clock = second.same_run.clock ∙ first.same_run.clock;
        batch = second.same_run.batch ∙ first.same_run.batch;
      };
      same_next = refl;
      same_over = refl;
    }
