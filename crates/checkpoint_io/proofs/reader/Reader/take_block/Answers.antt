use Rattle.std.proofs.Common.{rules, ◌≡◌, ℕ, ◌<◌, ◌≤◌, List, ◌++◌, length, IfErr, Err, refl, subst}
use Rattle.std.specs.Prelude.{IfSome, IsErrOf}
use Rattle.checkpoint_io.specs.declared.cause.Cause.{Cause}
use Rattle.checkpoint_io.specs.declared.cause.Cause.TheVariants as causes
use Rattle.checkpoint_io.specs.declared.fault.BlockFault.TheVariants.{Damaged, ReadFault}
use Rattle.checkpoint_io.specs.Places.{with_front, log_place, TookSuch, Refuses, TookFewer}
use Rattle.checkpoint_io.specs.Reading.{block_at}
use Rattle.checkpoint_io.specs.Fronts.{IsCutAt}
use Rattle.checkpoint_io.specs.Readers.{ReaderState, StandsFor}
use Rattle.checkpoint_io.specs.NextBlocks.{TakesNext, EndsThere, StopsAt}
use Rattle.checkpoint_io.proofs.StartLaws.{told_fault}
use Rattle.checkpoint_io.proofs.ReaderLaws.{ends_there, takes_next, breaks_next, cut_next, none_next, too_large, same_damage}
use Rattle.checkpoint_io.proofs.reader.Reader.take_block.Goals as goal

pub returns-then-not-branch-clause-ok : goal.returns-then-not-branch-clause-ok
returns-then-not-branch-clause-ok g c =
    let inside = c.self.inside in
    let old : ReaderState = record { header = inside.header; messages = inside.dictionary; writers = inside.writers; times = inside.times; waiting = inside.pending; body = inside.body.items; offset = inside.offset; failed = inside.failed } in
    let new : ReaderState = record { header = inside.header; messages = inside.dictionary; writers = inside.writers; times = inside.times; waiting = c.fill.new.self; body = inside.body.items; offset = inside.offset; failed = inside.failed } in
    let left = g.S.Source.left c.args.source.now in
    let behind = g.S.Source.left c.fill.new.source in
    let short : length c.fill.new.self.bytes < 1 = search rules in
    subst (λ (s : ReaderState). (taken : List ℕ) (before : StandsFor s taken) → EndsThere s new taken before left behind) c.self.view_is
    (λ taken before. ends_there old new taken before left behind refl refl refl refl refl c.fill.ensures.offset c.in_ok-fill.ensures.same short (search rules))

pub returns-in_err-block-clause-damaged : goal.returns-in_err-block-clause-damaged
returns-in_err-block-clause-damaged g c =
    let inside = c.self.inside in
    let old : ReaderState = record { header = inside.header; messages = inside.dictionary; writers = inside.writers; times = inside.times; waiting = inside.pending; body = inside.body.items; offset = inside.offset; failed = inside.failed } in
    let left = g.S.Source.left c.args.source.now in
    let between = g.S.Source.left c.fill.new.source in
    let behind = g.S.Source.left c.read_block.new.source in
    let from = log_place c.fill.new.self between in
    let some : 1 ≤ length c.fill.new.self.bytes = search rules in
    subst (λ (s : ReaderState). (taken : List ℕ) (cause : Cause) → StandsFor s taken → c.from_residual-in_err-block.result ≡ Err (Damaged cause) → IfSome (with_front (taken ++ s.waiting.bytes) left) (λ bytes. StopsAt bytes s.offset cause)) c.self.view_is
    (λ taken cause before is.
    let broken = c.in_err-block.ensures.read before.blocks before.messages before.states before.times in
    let refused : IfErr c.from_residual-in_err-block.result (Refuses (block_at inside.header before.blocks) from behind) = search rules in
    breaks_next old taken before c.fill.new.self left between behind cause c.in_ok-fill.ensures.same some (told_fault c.from_residual-in_err-block.result (Refuses (block_at inside.header before.blocks) from behind) (Damaged cause) is refused))

pub returns-in_err-block-clause-cut : goal.returns-in_err-block-clause-cut
returns-in_err-block-clause-cut g c =
    let inside = c.self.inside in
    let old : ReaderState = record { header = inside.header; messages = inside.dictionary; writers = inside.writers; times = inside.times; waiting = inside.pending; body = inside.body.items; offset = inside.offset; failed = inside.failed } in
    let left = g.S.Source.left c.args.source.now in
    let between = g.S.Source.left c.fill.new.source in
    let behind = g.S.Source.left c.read_block.new.source in
    let from = log_place c.fill.new.self between in
    subst (λ (s : ReaderState). (taken : List ℕ) → StandsFor s taken → IsErrOf c.from_residual-in_err-block.result ReadFault → TookSuch (λ bytes. IsCutAt (taken ++ bytes) s.offset) (with_front s.waiting.bytes left) behind) c.self.view_is
    (λ taken before is.
    let broken = c.in_err-block.ensures.read before.blocks before.messages before.states before.times in
    let refused : IfErr c.from_residual-in_err-block.result (Refuses (block_at inside.header before.blocks) from behind) = search rules in
    cut_next old taken before c.fill.new.self left between behind c.in_ok-fill.ensures.same (told_fault c.from_residual-in_err-block.result (Refuses (block_at inside.header before.blocks) from behind) ReadFault is refused))

pub returns-in_err-fill-clause-cut : goal.returns-in_err-fill-clause-cut
returns-in_err-fill-clause-cut g c =
    let inside = c.self.inside in
    let old : ReaderState = record { header = inside.header; messages = inside.dictionary; writers = inside.writers; times = inside.times; waiting = inside.pending; body = inside.body.items; offset = inside.offset; failed = inside.failed } in
    let left = g.S.Source.left c.args.source.now in
    let behind = g.S.Source.left c.fill.new.source in
    subst (λ (s : ReaderState). (taken : List ℕ) → StandsFor s taken → IsErrOf c.from_residual.result ReadFault → TookSuch (λ bytes. IsCutAt (taken ++ bytes) s.offset) (with_front s.waiting.bytes left) behind) c.self.view_is
    (λ taken before is.
    let fewer : TookFewer 1 (log_place inside.pending left) behind = search rules in
    cut_next old taken before inside.pending left left behind refl (none_next inside.header before.blocks (log_place inside.pending left) behind fewer))

pub returns-then-end-gt-MAX_LOG-clause-damaged : goal.returns-then-end-gt-MAX_LOG-clause-damaged
returns-then-end-gt-MAX_LOG-clause-damaged g c taken cause stands is =
    let inside = c.self.inside in
    let old : ReaderState = record { header = inside.header; messages = inside.dictionary; writers = inside.writers; times = inside.times; waiting = inside.pending; body = inside.body.items; offset = inside.offset; failed = inside.failed } in
    let left = g.S.Source.left c.args.source.now in
    let between = g.S.Source.left c.fill.new.source in
    let to = log_place c.read_block.new.pending (g.S.Source.left c.read_block.new.source) in
    let large : 134217728 < c.read_block.new.pending.offset = search rules in
    subst (λ (s : ReaderState). StandsFor s taken → IfSome (with_front (taken ++ s.waiting.bytes) left) (λ bytes. StopsAt bytes s.offset cause)) c.self.view_is
    (λ before.
    subst (λ (k : Cause). IfSome (with_front (taken ++ old.waiting.bytes) left) (λ bytes. StopsAt bytes old.offset k)) (same_damage causes.TooLarge cause is)
    (too_large old taken before c.in_ok-block.block c.fill.new.self left between to c.read_block.new.dictionary c.read_block.new.writers c.read_block.new.times c.read_block.new.body.items c.in_ok-fill.ensures.same c.fill.ensures.offset large (c.in_ok-block.ensures.read before.blocks before.messages before.states before.times)))
    stands

pub returns-clause-ok : goal.returns-clause-ok
returns-clause-ok g c =
    let inside = c.self.inside in
    let old : ReaderState = record { header = inside.header; messages = inside.dictionary; writers = inside.writers; times = inside.times; waiting = inside.pending; body = inside.body.items; offset = inside.offset; failed = inside.failed } in
    let new : ReaderState = record { header = inside.header; messages = c.read_block.new.dictionary; writers = c.read_block.new.writers; times = c.add.new.self; waiting = c.read_block.new.pending; body = c.read_block.new.body.items; offset = c.offset-end.result; failed = inside.failed } in
    let left = g.S.Source.left c.args.source.now in
    let between = g.S.Source.left c.fill.new.source in
    let behind = g.S.Source.left c.read_block.new.source in
    let within : c.read_block.new.pending.offset ≤ 134217728 = search rules in
    subst (λ (s : ReaderState). (taken : List ℕ) (before : StandsFor s taken) → TakesNext s new taken before c.in_ok-block.block left behind) c.self.view_is
    (λ taken before. takes_next old new taken before c.in_ok-block.block c.read_block.new.times c.fill.new.self left between behind c.in_ok-fill.ensures.same c.fill.ensures.offset refl c.add.ensures c.offset-end.ensures within c.read_block.ensures.clocks (c.in_ok-block.ensures.read before.blocks before.messages before.states before.times))
