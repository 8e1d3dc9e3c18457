use Rattle.std.proofs.Common.{rules, ◌≡◌, true}
use Rattle.nibble_pack.proofs.lemmas.Parsing.{handed_on}
use Rattle.checkpoint_io.specs.Versions.{has_clocks}
use Rattle.checkpoint_io.proofs.NextLaws.{fragment_block, extent_block, clock_block, close_block, clock_refused, refused_behind}
use Rattle.checkpoint_io.proofs.TimeLaws.{times_go_on}
use Rattle.checkpoint_io.proofs.block_reading.read_block.Goals as goal

pub returns-then-tag-eq-FRAGMENT-clause-read : goal.returns-then-tag-eq-FRAGMENT-clause-read
returns-then-tag-eq-FRAGMENT-clause-read g c before known are times =
    fragment_block c.read_fragment.result c.args.header.now before c.args.dictionary.now c.read_fragment.new.dictionary c.args.writers.now c.args.times.now c.args.body.now.items c.in_ok-tag.tag _ _ _ _ c.if-tag-eq-FRAGMENT.true known are times c.in_ok-tag.ensures.read c.read_fragment.ensures.read

pub returns-in_err-writer-clause-read : goal.returns-in_err-writer-clause-read
returns-in_err-writer-clause-read g c before known are times =
    handed_on _ _ _ _ c.from_residual-in_err-writer.ensures.1 (refused_behind c.args.header.now before c.in_ok-tag.tag 2 _ _ _ c.in_err-writer.field-0.0 c.if-tag-eq-EXTENT.true c.in_ok-tag.ensures.read (c.in_err-writer.ensures.read before known are))

pub returns-then-tag-eq-EXTENT-clause-read : goal.returns-then-tag-eq-EXTENT-clause-read
returns-then-tag-eq-EXTENT-clause-read g c before known are times =
    let writer = c.in_ok-writer.writer in
    let last = c.in_ok-writer.last in
    let takes = c.in_ok-writer.ensures.read before known are in
    let timed = times_go_on c.args.times.now c.go_on.new.self c.args.header.now before writer takes.last last takes.records c.go_on.ensures.clocks c.go_on.ensures.greatest takes.ends takes.body.rising times in
    extent_block c.args.header.now before c.args.dictionary.now writer last c.read_extent.new.body.items c.read_extent.new.writers c.go_on.new.self c.in_ok-tag.tag _ _ _ c.if-tag-eq-EXTENT.true known c.in_ok-tag.ensures.read takes timed

pub returns-in_err-writer-2-clause-read : goal.returns-in_err-writer-2-clause-read
returns-in_err-writer-2-clause-read g c before known are times =
    handed_on _ _ _ _ c.from_residual-in_err-writer-2.ensures.1 (refused_behind c.args.header.now before c.in_ok-tag.tag 4 _ _ _ c.in_err-writer-2.field-0.0 c.if-tag-eq-CLOSE.true c.in_ok-tag.ensures.read (c.in_err-writer-2.ensures.read before are))

pub returns-then-tag-eq-CLOSE-clause-read : goal.returns-then-tag-eq-CLOSE-clause-read
returns-then-tag-eq-CLOSE-clause-read g c before known are times =
    close_block c.args.header.now before c.args.dictionary.now c.in_ok-writer-2.writer c.read_close.new.writers c.args.times.now c.args.body.now.items c.in_ok-tag.tag _ _ _ c.if-tag-eq-CLOSE.true known times c.in_ok-tag.ensures.read (c.in_ok-writer-2.ensures.read before are)

pub returns-in_err-clock-clause-read : goal.returns-in_err-clock-clause-read
returns-in_err-clock-clause-read g c before known are times =
    let has : has_clocks c.args.header.now.version ≡ true = search rules in
    handed_on _ _ _ _ c.from_residual-in_err-clock.ensures.1 (clock_refused c.args.header.now before c.in_ok-tag.tag _ _ _ c.in_err-clock.field-0.0 c.if-tag-eq-CLOCK.true has c.in_ok-tag.ensures.read (c.in_err-clock.ensures.read c.args.header.now before times))

pub returns-then-has_clocks-clause-read : goal.returns-then-has_clocks-clause-read
returns-then-has_clocks-clause-read g c before known are times =
    let has : has_clocks c.args.header.now.version ≡ true = search rules in
    clock_block c.args.header.now before c.args.dictionary.now c.in_ok-clock.clock c.args.writers.now c.args.times.now c.args.body.now.items c.in_ok-tag.tag _ _ _ c.if-tag-eq-CLOCK.true has known are times c.in_ok-tag.ensures.read (c.in_ok-clock.ensures.read c.args.header.now before times)
