use Rattle.std.proofs.Common.{rules, ◌≡◌, ℕ, List, length, drop, Ok, Err, subst, arith}
use Rattle.nibble_pack.specs.Bytes.{AreBytes}
use Rattle.log_dictionary.specs.declared.binary_entry.EntryCause.TheVariants as entries
use Rattle.log_dictionary.specs.EntryReading.{entry_at}
use Rattle.checkpoint_io.proofs.EntryLengths.{cut_short}
use Rattle.checkpoint_io.proofs.NextLaws.{message_stands, bad_message, cut_message}
use Rattle.checkpoint_io.proofs.fragment_reading.next_message.Goals as goal

pub returns-in-Ok-clause-read : goal.returns-in-Ok-clause-read
returns-in-Ok-clause-read g c =
    let mid = c.loop-message.pending in
    let small : AreBytes mid.bytes = subst AreBytes c.bytes.ensures.same c.bytes.ensures.small in
    let entry : entry_at mid.bytes ≡ Ok (c.in-Ok.message, drop c.in-Ok.len mid.bytes) = subst (λ (b : List ℕ). entry_at b ≡ Ok (c.in-Ok.message, drop c.in-Ok.len b)) c.bytes.ensures.same c.in-Ok.ensures.read in
    message_stands c.in-Ok.message c.in-Ok.len c.args.pending.now mid c.skip.new.self _ _ small c.loop-message.invariant.same c.loop-message.invariant.offset (search rules) entry c.skip.ensures.bytes c.skip.ensures.offset

pub returns-in-Err-BadEntry-clause-read : goal.returns-in-Err-BadEntry-clause-read
returns-in-Err-BadEntry-clause-read g c =
    let bad : entry_at c.loop-message.pending.bytes ≡ Err entries.BadEntry = subst (λ (b : List ℕ). entry_at b ≡ Err entries.BadEntry) c.bytes.ensures.same (search rules) in
    bad_message c.args.pending.now c.loop-message.pending _ _ c.loop-message.invariant.same bad

pub returns-then-branch-eq0-clause-read : goal.returns-then-branch-eq0-clause-read
returns-then-branch-eq0-clause-read g c =
    let cut : entry_at c.loop-message.pending.bytes ≡ Err entries.Cut = subst (λ (b : List ℕ). entry_at b ≡ Err entries.Cut) c.bytes.ensures.same (search rules) in
    let more = c.in_ok-more-in-Err-Cut.ensures in
    let len : length c.more.new.self.bytes ≡ length c.loop-message.pending.bytes = omega (arith, more.len, c.if-branch-eq0.true) in
    cut_message c.args.pending.now c.loop-message.pending c.more.new.self _ _ _ c.loop-message.invariant.same more.same len (more.end c.if-branch-eq0.true) cut

pub loop-message-smaller : goal.loop-message-smaller
loop-message-smaller g c =
    let cut : entry_at c.loop-message.pending.bytes ≡ Err entries.Cut = subst (λ (b : List ℕ). entry_at b ≡ Err entries.Cut) c.bytes.ensures.same (search rules) in
    omega (arith, cut_short c.loop-message.pending.bytes cut, c.in_ok-more-in-Err-Cut.ensures.len, c.if-branch-eq0.false)
