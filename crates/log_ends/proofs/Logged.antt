-- What is logged is in the log.
use Rattle.std.proofs.Common.{◌≡◌, ℕ, zero, suc, ◌<◌, ◌≤◌, Bool, true, false, List, [], ◌∷◌, ◌++◌, length, get_or, Some, refl, sym, ap, subst, ◌∙◌, arith}
use Rattle.std.specs.Prelude.{◌||◌, slice_get, drop}
use Rattle.std.proofs.lemmas.List.{length-append, drop-append-le}
use Rattle.std.proofs.lemmas.Option.{same_Some, slice_get_within, get_or_from_slice_get}
use Rattle.word_ring.specs.Ends.{WordWriterEnd}
use Rattle.arg_records.specs.declared.call.Call.{Call}
use Rattle.ring_core.specs.Plans.{Plan, frames_of, BeginsWith}
use Rattle.roaming_consumer.specs.Roamers.{plan_of_roamer, FramesAreTaken, IsLogOfEnds, roamer_progress}
use Rattle.log_ends.specs.declared.writer.WriterEnd.{WriterEnd}
use Rattle.log_ends.specs.declared.consumer.ConsumerEnd.{ConsumerEnd}
use Rattle.log_ends.specs.declared.part_end.PartEnd.{PartEnd}
use Rattle.log_ends.specs.PartEnds.{part_frames, is_part_over}
use Rattle.log_ends.specs.Writers.{ring_of, logged}
use Rattle.log_ends.specs.Consumers.{consumer_ends, waiting, is_ending, HasGiven, IsAllGiven}
use Rattle.log_ends.specs.Logged.{TakesLogged, IsInLog}
use Rattle.log_ends.proofs.Lists.{of_place}

-- the ends that were brought together are those of the writer and of the consumer
pub takes_logged : (writer : WriterEnd) (consumer : ConsumerEnd) (number : ℕ) (end : PartEnd) (ends : List PartEnd) (w : WordWriterEnd) (r : PartEnd) → slice_get (consumer_ends consumer) number ≡ Some end → ends ≡ consumer_ends consumer → w ≡ ring_of writer → r ≡ get_or ends number r
    → BeginsWith w.sent r.out.got → (r.out.ended ≡ true → (w.closed ≡ true) × (r.out.got ≡ w.sent)) → TakesLogged writer consumer number
takes_logged writer consumer number end ends w r there ends_are w_is r_is front whole =
    let same : r ≡ end = r_is ∙ ap (λ (list : List PartEnd). get_or list number r) ends_are ∙ get_or_from_slice_get (consumer_ends consumer) number end r there in
    let both : (x y : PartEnd) → x ≡ y → x.out.ended ≡ y.out.ended = λ x y is. ap (λ (e : PartEnd). e.out.ended) is in
    record {
      end = end;
      there = there;
      front = subst (λ (pair : WordWriterEnd × PartEnd). BeginsWith pair.0.sent pair.1.out.got) (λ i. (w_is i, same i)) front;
      finished = λ is. ap (λ (x : WordWriterEnd). x.closed) (sym w_is) ∙ (whole (both r end same ∙ is)).0;
      all = λ is. ap (λ (x : PartEnd). x.out.got) (sym same) ∙ (whole (both r end same ∙ is)).1 ∙ ap (λ (x : WordWriterEnd). x.sent) w_is;
    }

calls_of : (plan : Plan) (ends : List PartEnd) (taken : List (List Call)) (number : ℕ) (end : PartEnd) → FramesAreTaken plan part_frames ends taken → slice_get ends number ≡ Some end
    → (calls : List Call) × (slice_get taken number ≡ Some calls) × (part_frames end ≡ frames_of calls)
calls_of plan [] taken number end all there = absurd cc
calls_of plan (e ∷ ends) [] number end all there = absurd all
calls_of plan (e ∷ ends) (calls ∷ taken) zero end all there = (calls, refl, ap part_frames (sym (same_Some e end there)) ∙ all.0.frames_are)
calls_of plan (e ∷ ends) (calls ∷ taken) (suc number) end all there = calls_of plan ends taken number end all.1 there

-- behind the frames of the parts before, those that were logged begin with those of the part
front_behind : (earlier : ℕ) (sent got : List (List ℕ)) → earlier ≤ length got → BeginsWith sent got → BeginsWith (drop earlier sent) (drop earlier got)
front_behind earlier sent got within (rest, joined) = (rest, ap (drop earlier) joined ∙ drop-append-le earlier got rest within)

front_long : (sent got : List (List ℕ)) → BeginsWith sent got → length got ≤ length sent
front_long sent got (rest, joined) = omega (arith, ap length joined, length-append got rest)

module _ (writer : WriterEnd) (consumer : ConsumerEnd) (number : ℕ) (takes : TakesLogged writer consumer number) (given : List ℕ) (has : HasGiven consumer given) where
  log : IsLogOfEnds part_frames is_part_over consumer.roamer (roamer_progress consumer.roamer) (given ++ waiting consumer)
  log = has.lawful consumer.begun consumer.unfaulted

  within : number < length (consumer_ends consumer)
  within = slice_get_within (consumer_ends consumer) number takes.end takes.there

  -- once all is given of the last part, the end has ended
  ended : IsAllGiven consumer → is_ending consumer ≡ false → takes.end.out.ended ≡ true
  ended is going =
      let over = log.closed number takes.end takes.there (is.0 number within) in
      let open_part = of_place (λ (end : PartEnd). end.held ≡ consumer.ending) (consumer_ends consumer) number takes.end consumer.held takes.there ∙ going in
      ap (λ (held : Bool). held || takes.end.out.ended) (sym open_part) ∙ over

  pub in_log : IsInLog writer consumer number given
  in_log =
      let calls = calls_of (plan_of_roamer consumer.roamer) (consumer_ends consumer) log.taken number takes.end log.frames takes.there in
      let behind = front_behind takes.end.earlier (logged writer) takes.end.out.got takes.end.taken takes.front in
      record {
        taken = log.taken;
        log = log.log.log;
        calls = calls.0;
        there = calls.1;
        end = takes.end;
        of_end = takes.there;
        earlier = omega (arith, takes.end.taken, front_long (logged writer) takes.end.out.got takes.front);
        front = (behind.0, behind.1 ∙ ap (λ (front : List (List ℕ)). front ++ behind.0) calls.2);
        closed = λ is. sym (log.log.closed number (slice_get_within log.taken number calls.0 calls.1)) ∙ is.0 number within;
        all = λ is going. ap (drop takes.end.earlier) (sym (takes.all (ended is going))) ∙ calls.2;
        finished = λ is going. takes.finished (ended is going);
      }
