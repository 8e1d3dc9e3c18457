use Rattle.std.proofs.Common.{◌≡◌, ◌∙◌, [], sym, arith}
use Rattle.std.proofs.lemmas.Slice.Zip.{AllZip-long}
use Rattle.log_dictionary.specs.Clocks.{first_tick}
use Rattle.ring_core.specs.Plans.{plan_of}
use Rattle.session_options.proofs.lemmas.RunClocks.{first_tick_is}
use Rattle.roaming_consumer.proofs.lemmas.OnePlace.{zip_second}
use Rattle.log_session.proofs.starting.start.Goals as goal

pub make-requires-clause-some_end : goal.make-requires-clause-some_end
make-requires-clause-some_end g c = let same = AllZip-long _ _ _ c.in-Ok.ensures.rings in omega (arith, same, c.in-Ok.ensures.count, c.requires.writers.0)

pub make-requires-clause-few_ends : goal.make-requires-clause-few_ends
make-requires-clause-few_ends g c = let same = AllZip-long _ _ _ c.in-Ok.ensures.rings in omega (arith, same, c.in-Ok.ensures.count, c.requires.writers.1)

pub make-requires-clause-untaken : goal.make-requires-clause-untaken
make-requires-clause-untaken g c = zip_second _ (λ end. g.S.Out.StageOut.got end ≡ []) (λ writer end ring. ring.none_got) _ _ c.in-Ok.ensures.rings

pub make-requires-clause-planned : goal.make-requires-clause-planned
make-requires-clause-planned g c =
    let plan : plan_of c.args.dictionary.now c.first-first.result.tick ≡ plan_of c.args.dictionary.now (first_tick c.args.clocks.now) =
    λ i. plan_of c.args.dictionary.now (sym (first_tick_is c.args.clocks.now c.first-first.result c.first-first.ensures) i) in
    zip_second _ (λ end. g.S.Out.StageOut.plan end ≡ plan_of c.args.dictionary.now (first_tick c.args.clocks.now)) (λ writer end ring. ring.plan_out_is ∙ plan) _ _ c.in-Ok.ensures.rings
