use Rattle.std.proofs.Common.{◌≡◌, false, List, [], length, refl, sym, ap, subst, ◌∙◌, arith}
use Rattle.std.specs.Prelude.{All}
use Rattle.log_dictionary.specs.declared.clock.Clock.{Clock}
use Rattle.log_dictionary.specs.Clocks.{first_tick}
use Rattle.checkpoint_io.proofs.lemmas.VersionLaws.{few_len}
use Rattle.ring_core.specs.Plans.{Plan, plan_of}
use Rattle.word_ring.specs.Ends.{WordRoamerEnd}
use Rattle.roaming_consumer.specs.Roamers.{roamer_header}
use Rattle.roaming_consumer.proofs.lemmas.OnePlace.{zip_second}
use Rattle.log_ends.specs.declared.part_end.PartEnd.{PartEnd}
use Rattle.log_ends.specs.Ends.{IsWriterFor}
use Rattle.std.proofs.lemmas.Slice.Zip.{AllZip-long}
use Rattle.arg_records.proofs.lemmas.Walks.{zip_first}
use Rattle.log_ends.proofs.Consumers.{planned_same}
use Rattle.log_ends.proofs.Faultless.{header_succeeds, no_error}
use Rattle.log_ends.proofs.Visiting.{stands_after}
use Rattle.log_ends.proofs.Openings.{rings_left, count_left, count_ends, none_taken, planned_ends}
use Rattle.log_ends.proofs.opening.session_over.Goals as goal

-- there are as many ends as writers
pub make-requires-2-clause-some_end : goal.make-requires-2-clause-some_end
make-requires-2-clause-some_end c =
    let long = count_ends c.in_ok-ends.ends.items c.in_ok-writers.outs.items c.in_ok-ends.ensures.rings in
    omega (arith, long, AllZip-long _ _ _ c.in_ok-writers.ensures.rings, c.in_ok-writers.ensures.count, c.requires.some_writer)

pub make-requires-2-clause-few_ends : goal.make-requires-2-clause-few_ends
make-requires-2-clause-few_ends c =
    let long = count_ends c.in_ok-ends.ends.items c.in_ok-writers.outs.items c.in_ok-ends.ensures.rings in
    omega (arith, long, AllZip-long _ _ _ c.in_ok-writers.ensures.rings, c.in_ok-writers.ensures.count, c.requires.few_writers)

pub make-requires-2-clause-untaken : goal.make-requires-2-clause-untaken
make-requires-2-clause-untaken c =
    none_taken c.in_ok-writers.outs.items c.in_ok-ends.ends.items c.in_ok-ends.ensures.rings (zip_second _ (λ (out : WordRoamerEnd). out.got ≡ []) (λ writer out ring. ring.none_got) _ _ c.in_ok-writers.ensures.rings)

pub make-requires-2-clause-planned : goal.make-requires-2-clause-planned
make-requires-2-clause-planned c =
    let plan : plan_of c.args.dictionary.now c.args.setup.clock.tick ≡ plan_of c.args.dictionary.now (first_tick c.in_ok-clocks.clocks) = ap (λ (clocks : List Clock). plan_of c.args.dictionary.now (first_tick clocks)) (sym c.in_ok-clocks.ensures) in
    planned_ends _ c.in_ok-writers.outs.items c.in_ok-ends.ends.items c.in_ok-ends.ensures.rings
    (zip_second _ (λ (out : WordRoamerEnd). out.plan ≡ plan_of c.args.dictionary.now (first_tick c.in_ok-clocks.clocks)) (λ writer out ring. ring.plan_out_is ∙ plan) _ _ c.in_ok-writers.ensures.rings)

pub writer_ends-requires : goal.writer_ends-requires
writer_ends-requires c =
    zip_first _ (IsWriterFor c.args.dictionary.now) (λ writer end ring. ap (λ (plan : Plan). plan.types) ring.plan_is) _ _ c.in_ok-writers.ensures.rings

pub unreachable-requires : goal.unreachable-requires
unreachable-requires c =
    let backlog = c.in_ok-backlog in
    no_error c.begin.result
    (header_succeeds backlog.backlog c.begin.new.sink (roamer_header c.in_ok-roamer.roamer) c.begin.result backlog.ensures.empty backlog.ensures.unrefused (omega (arith, backlog.ensures.room, c.room_of.ensures, few_len (roamer_header c.in_ok-roamer.roamer).version)) c.begin.ensures.others c.begin.ensures.sent)
    (sym c.if-is_err.ensures.value)

pub invariant_of-consumer-clause-counted : goal.invariant_of-consumer-clause-counted
invariant_of-consumer-clause-counted c =
    ap length (c.begin.ensures.same_ends ∙ c.in_ok-roamer.ensures.ends) ∙ count_ends c.in_ok-ends.ends.items c.in_ok-writers.outs.items c.in_ok-ends.ensures.rings ∙ AllZip-long _ _ _ c.in_ok-writers.ensures.rings ∙ c.in_ok-writers.ensures.count

pub invariant_of-consumer-clause-held : goal.invariant_of-consumer-clause-held
invariant_of-consumer-clause-held c =
    subst (All (λ (end : PartEnd). end.held ≡ false)) (sym (c.begin.ensures.same_ends ∙ c.in_ok-roamer.ensures.ends)) (λ k d within. (c.in_ok-ends.ensures.first k d within).open_part)

pub invariant_of-consumer-clause-planned : goal.invariant_of-consumer-clause-planned
invariant_of-consumer-clause-planned c =
    planned_same (λ (end : PartEnd). end.out.plan) _ _ c.begin.ensures.same_ends c.begin.ensures.same_run c.in_ok-roamer.ensures.planned

pub returns : goal.returns
returns c =
    let begun = c.begin.ensures in
    let made = c.in_ok-roamer.ensures in
    let rings = c.in_ok-writers in
    let left = c.in_ok-left in record {
      count = count_left left.left.items rings.writers.items c.args.setup.writers left.ensures.writers rings.ensures.count;
      rings = rings_left c.args.setup.ring (plan_of c.args.dictionary.now c.args.setup.clock.tick) left.left.items rings.writers.items rings.outs.items c.in_ok-ends.ends.items _ left.ensures.writers c.in_ok-ends.ensures.rings c.in_ok-ends.ensures.first (begun.same_ends ∙ made.ends) rings.ensures.rings;
      named = left.ensures.messages;
      lasts = refl;
      known = refl;
      messages_are = begun.same_run.messages ∙ made.run.0;
      version_is = begun.same_run.version ∙ made.run.1;
      clocks_are = begun.same_run.clocks ∙ made.run.2 ∙ c.in_ok-clocks.ensures;
      batch_is = begun.same_run.batch ∙ made.run.3;
      ungiven = stands_after c.in_ok-roamer.roamer c.begin.new.self c.in_ok-backlog.backlog c.begin.new.sink c.in_ok-backlog.ensures.empty begun.wrote [] made.stands;
      first_is_next = refl;
      goes_on = refl;
      open_part = refl;
      first_part = refl;
    }
