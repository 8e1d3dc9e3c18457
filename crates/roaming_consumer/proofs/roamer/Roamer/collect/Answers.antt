use Rattle.std.proofs.Common.{◌≡◌, ◌-◌, ℕ, List, length, drop, refl, sym, subst, rules, arith}
use Rattle.std.proofs.lemmas.List.{take_at}
use Rattle.std.proofs.lemmas.Option.{slice_get_read}
use Rattle.checkpoint_io.specs.Versions.{most_body}
use Rattle.roaming_consumer.specs.Gathering.{DraftsFrames, StopsTaking}
use Rattle.roaming_consumer.specs.Roamers.{roamer_messages, roamer_clock, roamer_batch}
use Rattle.roaming_consumer.proofs.Fragmenting.{room_for_record}
use Rattle.roaming_consumer.proofs.roamer.Roamer.collect.Goals as goal

pub gather-requires-clause-room : goal.gather-requires-clause-room
gather-requires-clause-room g c =
    let roamer = c.args.self.now in
    omega (arith, c.deref_mut.ensures.len, roamer.body_room, room_for_record roamer.version)

pub returns-clause-gathers : goal.returns-clause-gathers
returns-clause-gathers g c =
    let e = c.gather.ensures in
    let roamer = c.args.self.now in
    let before = c.index_mut-end.result.now in
    let after = c.gather.new.end in
    let draft = c.gather.result.draft in
    let room : length c.gather.new.body ≡ most_body roamer.version = omega (arith, c.gather.auto.body, c.deref_mut.ensures.len, roamer.body_room) in
    record {
      before = before;
      after = after;
      was = slice_get_read _ _ _ _ refl c.requires.known c.index_mut-end.ensures.value;
      now = refl;
      step = (
        subst (λ (b : List ℕ). DraftsFrames (roamer_messages roamer) (roamer_clock roamer).tick (g.S.StageOut.got before) (g.S.StageOut.got after) draft b) (sym (take_at c.gather.new.body (drop (length c.gather.new.body) roamer.body.items) roamer.body.len (omega (arith, room, roamer.body_room)))) e.gathers,
        search rules,
        subst (λ (n : ℕ). StopsTaking g.S.StageOut.got g.S.StageOut.ended g.S.StageOut.loads (roamer_batch roamer) draft.records (n - draft.len) before after) room e.stops,
      );
    }
