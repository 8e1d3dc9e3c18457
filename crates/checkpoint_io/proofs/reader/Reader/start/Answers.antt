use Rattle.std.proofs.Common.{rules, IfErr, [], false, refl, sym, subst}
use Rattle.checkpoint_io.specs.declared.fault.BlockFault.TheVariants.{Damaged, ReadFault}
use Rattle.checkpoint_io.specs.Places.{log_place, Refuses}
use Rattle.checkpoint_io.specs.Reading.{header_at}
use Rattle.checkpoint_io.specs.Times.{TimeState, AreTimesOf}
use Rattle.checkpoint_io.proofs.TimeLaws.{times_at_start}
use Rattle.checkpoint_io.proofs.StartLaws.{started, not_started, not_read, told_fault}
use Rattle.checkpoint_io.proofs.reader.Reader.start.Goals as goal

pub returns-clause-ok : goal.returns-clause-ok
returns-clause-ok g c =
    started (record { header = c.in_ok-header.header; messages = c.make-3.result; writers = c.in_ok-writers.writers; times = c.in_ok-times.times; waiting = c.read_header.new.pending; body = c.new.result.items; offset = c.offset-offset.result; failed = false })
    c.none-pending.result _ _ c.none-pending.ensures.bytes c.none-pending.ensures.offset c.make-3.ensures (record { many = c.in_ok-writers.ensures.many; lasts = c.in_ok-writers.ensures.lasts; closed = λ writer known. c.in_ok-writers.ensures.closed writer }) (subst (λ (t : TimeState). AreTimesOf t c.in_ok-header.header []) (sym c.in_ok-times.ensures) (times_at_start c.in_ok-header.header.clock c.in_ok-header.header refl)) c.offset-offset.ensures c.in_ok-header.ensures.read

pub returns-in_err-header-clause-damaged : goal.returns-in_err-header-clause-damaged
returns-in_err-header-clause-damaged g c cause is =
    let from = log_place c.none-pending.result (g.S.Source.left c.args.source.now) in
    let left = g.S.Source.left c.read_header.new.source in
    let refused : IfErr c.from_residual.result (Refuses header_at from left) = search rules in
    not_started c.none-pending.result.bytes _ cause c.none-pending.ensures.bytes (told_fault c.from_residual.result (Refuses header_at from left) (Damaged cause) is refused)

pub returns-in_err-header-clause-cut : goal.returns-in_err-header-clause-cut
returns-in_err-header-clause-cut g c is =
    let from = log_place c.none-pending.result (g.S.Source.left c.args.source.now) in
    let left = g.S.Source.left c.read_header.new.source in
    let refused : IfErr c.from_residual.result (Refuses header_at from left) = search rules in
    not_read c.none-pending.result _ left c.none-pending.ensures.bytes (told_fault c.from_residual.result (Refuses header_at from left) ReadFault is refused)
