-- How one part ends and the next begins.
use Rattle.std.proofs.Common.{◌≡◌, ℕ, ◌<◌, List, [], ◌∷◌, length, sym, ap, subst, ◌∙◌, length-drop, arith}
use Rattle.std.specs.Prelude.{max}
use Rattle.std.specs.List.{AllZip}
use Rattle.std.proofs.lemmas.List.{drop_all}
use Rattle.std.proofs.lemmas.Slice.Zip.{AllZip-long}
use Rattle.checkpoint_io.specs.Blocks.{Block, all_records}
use Rattle.checkpoint_io.specs.Validity.{IsClosed}
use Rattle.checkpoint_io.specs.Logs.{greatest_stamp}
use Rattle.ring_core.specs.Plans.{Plan, plan_of, AreFramesOf}
use Rattle.word_ring.specs.Ends.{WordRoamerEnd}
use Rattle.roaming_consumer.specs.Roamers.{roamer_messages, roamer_version, roamer_clocks, roamer_batch, roamer_progress, plan_of_roamer, IsSameRun, IsClosedLogOfEnds}
use Rattle.roaming_consumer.proofs.lemmas.OnePlace.{zip_across, zip_turned, zip_weaker}
use Rattle.roaming_consumer.proofs.lemmas.Marking.{same_said_log}
use Rattle.log_ends.specs.declared.consumer.ConsumerEnd.{ConsumerEnd}
use Rattle.log_ends.specs.declared.part_end.PartEnd.{PartEnd}
use Rattle.log_ends.specs.PartEnds.{part_frames, BeginsPart}
use Rattle.log_ends.specs.Consumers.{HasPut, consumer_ends, earlier_stamp, HasGiven, IsAllGiven, EndGoesOn, FoundNone, EndBeginsPart, SameRings}
use Rattle.log_ends.proofs.Seeking.{nothing_more}

-- ends that go on are of the same rings
pub rings_of : (xs ys : List PartEnd) → AllZip EndGoesOn xs ys → SameRings xs ys
rings_of xs ys on = zip_weaker EndGoesOn (λ before after. after.out.pair ≡ before.out.pair) xs ys (λ before after is. is.same_ring) on

pub rings_begin : (xs ys : List PartEnd) → AllZip EndBeginsPart xs ys → SameRings xs ys
rings_begin xs ys begin = zip_weaker EndBeginsPart (λ before after. after.out.pair ≡ before.out.pair) xs ys (λ before after is. is.same_ring) begin

-- an end of which no frame was taken begins a part
begins_behind : (before mid after : PartEnd) → EndGoesOn before mid → FoundNone before mid → BeginsPart mid after → EndBeginsPart before after
begins_behind before mid after on none begins = record {
  same_ring = ap (λ (end : WordRoamerEnd). end.pair) begins.same_out ∙ on.same_ring;
  same_plan = ap (λ (end : WordRoamerEnd). end.plan) begins.same_out ∙ on.same_plan;
  behind = omega (arith, begins.behind, length-drop mid.earlier mid.out.got, mid.taken, on.same_part, ap length none.none);
  none = drop_all after.earlier after.out.got (omega (arith, begins.behind, ap (λ (end : WordRoamerEnd). length end.got) begins.same_out));
  open_part = begins.open_part;
}

pub parts_begin : (xs ys zs : List PartEnd) → AllZip EndGoesOn xs ys → AllZip FoundNone xs ys → AllZip BeginsPart ys zs → AllZip EndBeginsPart xs zs
parts_begin [] [] [] on none begin = tt
parts_begin [] [] (z ∷ zs) on none begin = absurd begin
parts_begin [] (y ∷ ys) zs on none begin = absurd on
parts_begin (x ∷ xs) [] zs on none begin = absurd on
parts_begin (x ∷ xs) (y ∷ ys) [] on none begin = absurd begin
parts_begin (x ∷ xs) (y ∷ ys) (z ∷ zs) on none begin = (begins_behind x y z on.0 none.0 begin.0, parts_begin xs ys zs on.1 none.1 begin.1)

-- all of a part was given, from whose ends no frame was taken since
pub whole_part : (old mid : ConsumerEnd) (stamp : ℕ) → AllZip FoundNone (consumer_ends old) (consumer_ends mid) → IsSameRun old.roamer mid.roamer → IsAllGiven mid → stamp ≡ max (earlier_stamp old) (roamer_progress mid.roamer).latest
    → (given : List ℕ) → HasGiven mid given → (part : IsClosedLogOfEnds part_frames old.roamer given) × (stamp ≡ max (earlier_stamp old) (greatest_stamp (all_records part.log.blocks)))
whole_part old mid stamp none run all is given has =
    let stood : HasPut mid.roamer given = nothing_more given all.1 has in
    let whole = stood.lawful mid.begun mid.unfaulted in
    let taken = whole.taken in
    let blocks = whole.log.log.blocks in
    let closed : (writer : ℕ) → writer < length taken → IsClosed writer blocks = λ writer within. sym (whole.log.closed writer within) ∙ all.0 writer (omega (arith, within, AllZip-long _ _ _ whole.frames)) in
    let plan : plan_of_roamer mid.roamer ≡ plan_of_roamer old.roamer = λ i. plan_of (run.messages i) (run.clock i).tick in
    let Says : List Block → Type 0 =
    λ blocks. ((writer : ℕ) → writer < length taken → IsClosed writer blocks) × (stamp ≡ max (earlier_stamp old) (greatest_stamp (all_records blocks))) in
    let said : Says blocks = (closed, is ∙ ap (max (earlier_stamp old)) whole.log.latest) in
    let (log, says) = same_said_log Says given taken (roamer_messages mid.roamer) (roamer_messages old.roamer) (roamer_version mid.roamer) (roamer_version old.roamer) (roamer_clocks mid.roamer) (roamer_clocks old.roamer) (roamer_batch mid.roamer) (roamer_batch old.roamer) run.messages run.version run.clocks run.batch (whole.log.log, said) in (
      record {
        taken = taken;
        frames =
            zip_across (λ after before. FoundNone before after) (λ end calls. AreFramesOf (plan_of_roamer mid.roamer) (part_frames end) calls) (λ end calls. AreFramesOf (plan_of_roamer old.roamer) (part_frames end) calls)
            (λ after before calls found. subst (λ (x : Plan × List (List ℕ)). AreFramesOf x.0 x.1 calls) (λ i. (plan i, found.none i)))
            (consumer_ends mid) (consumer_ends old) taken (zip_turned FoundNone (consumer_ends old) (consumer_ends mid) none) whole.frames;
        log = log;
        closed = says.0;
      },
      says.1,
    )
