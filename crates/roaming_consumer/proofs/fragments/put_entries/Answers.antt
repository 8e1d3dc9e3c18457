use Rattle.std.proofs.Common.{◌+◌, ap, sym, arith}
use Rattle.roaming_consumer.proofs.Fragmenting.{entry_put}
use Rattle.roaming_consumer.proofs.fragments.put_entries.Goals as goal

pub loop-message-preserved : goal.loop-message-preserved
loop-message-preserved c =
    let was = c.loop-message.invariant in
    record {
      within = omega (arith, was.within, c.entry_len-len.ensures.bound);
      spelled =
          entry_put c.args.messages.now c.loop-message.message-index c.message-item.result c.loop-message.into c.put_entry.new.into _ c.loop-message.end _ _ c.loop-message-test.true (sym c.message-item.is) (omega (arith, was.within, c.requires.room, c.loop-message-test.true)) was.spelled c.put_entry.ensures.spelled c.put_entry.ensures.put
          (ap (λ n. c.loop-message.end + n) c.entry_len-len.ensures.len);
    }
