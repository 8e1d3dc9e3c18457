use Rattle.std.proofs.Common.{rules, ◌≡◌, ◌<◌, List, take, subst}
use Rattle.std.proofs.lemmas.List.Elements.{All-take}
use Rattle.nibble_pack.specs.Bytes.{AreBytes}
use Rattle.arg_records.specs.declared.call.Call.{Call}
use Rattle.arg_records.specs.Calls.{last_stamp}
use Rattle.buffer_extent.specs.Bodies.{IsBody, BodyBreak}
use Rattle.checkpoint_io.proofs.NextLaws.{body_refused, body_kept}
use Rattle.checkpoint_io.proofs.block_reading.take_body.Goals as goal

pub returns-in-Err-clause-read : goal.returns-in-Err-clause-read
returns-in-Err-clause-read g c =
    let breaks : BodyBreak c.args.dictionary.now c.args.tick c.args.last (take c.args.len c.fill.new.self.bytes) c.in-Err.cause = search rules in
    body_refused c.args.dictionary.now c.args.tick c.args.last c.args.len c.in-Err.cause c.args.pending.now c.fill.new.self _ _ c.in_ok-fill.ensures.same (search rules) breaks

pub returns-clause-read : goal.returns-clause-read
returns-clause-read g c =
    let judged : (records : List Call) × IsBody c.args.dictionary.now c.args.tick c.args.last records (take c.args.len c.fill.new.self.bytes) × (c.in-Ok.stamp ≡ last_stamp c.args.last records) = search rules in
    let small : AreBytes c.fill.new.self.bytes = subst AreBytes c.bytes.ensures.same c.bytes.ensures.small in
    body_kept c.args.dictionary.now c.args.tick c.args.last c.in-Ok.stamp c.args.len _ c.args.pending.now c.fill.new.self c.skip.new.self _ _ (All-take (λ byte. byte < 256) c.args.len c.fill.new.self.bytes small) c.in_ok-fill.ensures.same c.fill.ensures.offset (search rules) (search rules) judged (search rules) c.skip.ensures.bytes c.skip.ensures.offset
