use Rattle.std.proofs.Common.{Err, refl, ap, ◌∙◌, rules}
use Rattle.log_scan.specs.Parts.{log_part}
use Rattle.log_scan.proofs.BlockScans.{some_next, stands_next, on_next, falls, ends_whole, ends_damaged, ends_failed}
use Rattle.log_scan.proofs.scanning.scan_rest.Goals as goal

pub loop-block-init : goal.loop-block-init
loop-block-init g c = record {
  right = c.requires.right;
  header = refl;
  so_far = λ start read folded. record { taken = start; stands = read; folded = folded; same = refl };
  counted = refl;
  others = g.met.S.Source.rest_same _;
  fold_others = g.met.F.BlockFold.rest_same _;
}

pub add-requires : goal.add-requires
add-requires g c =
    let l = c.loop-block in
    let a = c.in-Ok-Some in
    let header = c.next_block.ensures.header in
    let on = l.invariant.so_far c.requires.begun.0 c.requires.begun.1 c.requires.begun.2 in
    let next = some_next g.F.BlockFold.has _ l.reader c.next_block.new.self l.fold _ _ header on a.field-0 a.block a.field-0-is (a.ensures.ok on.taken on.stands) in
    let part = log_part l.reader on.stands.blocks in (
      part,
      next.block,
      stands_next g.F.BlockFold.has _ l.reader c.next_block.new.self l.fold _ _ header on a.block next,
      on.folded,
    )

pub loop-block-smaller : goal.loop-block-smaller
loop-block-smaller g c =
    let l = c.loop-block in
    let a = c.in-Ok-Some in
    let header = c.next_block.ensures.header in
    let on = l.invariant.so_far c.requires.begun.0 c.requires.begun.1 c.requires.begun.2 in
    let next = some_next g.F.BlockFold.has _ l.reader c.next_block.new.self l.fold _ _ header on a.field-0 a.block a.field-0-is (a.ensures.ok on.taken on.stands) in
    falls g.F.BlockFold.has _ l.reader c.next_block.new.self l.fold _ _ header on a.block next

pub loop-block-preserved : goal.loop-block-preserved
loop-block-preserved g c =
    let l = c.loop-block in
    let a = c.in-Ok-Some in
    let header = c.next_block.ensures.header in
    record {
      right = a.ensures.failed.0;
      header = header ∙ l.invariant.header;
      so_far = λ start read folded.
          let on = l.invariant.so_far start read folded in
          let next = some_next g.F.BlockFold.has _ l.reader c.next_block.new.self l.fold _ _ header on a.field-0 a.block a.field-0-is (a.ensures.ok on.taken on.stands) in
          let part = log_part l.reader on.stands.blocks in
          let stands = stands_next g.F.BlockFold.has _ l.reader c.next_block.new.self l.fold _ _ header on a.block next in
          on_next g.F.BlockFold.has _ l.reader c.next_block.new.self l.fold _ _ header on a.block next c.add.new.self (c.in_ok-add-in-Ok-Some.ensures.added part next.block stands on.folded);
      counted = search rules;
      others = g.met.S.Source.rest_then _ _ _ l.invariant.others c.next_block.ensures.others;
      fold_others = g.met.F.BlockFold.rest_then _ _ _ l.invariant.fold_others c.add.ensures.others;
    }

pub returns-in-Ok-None-clause-scanned : goal.returns-in-Ok-None-clause-scanned
returns-in-Ok-None-clause-scanned g c taken read folded =
    let l = c.loop-block in
    let a = c.in-Ok-None in
    let on = l.invariant.so_far taken read folded in
    ends_whole g.F.BlockFold.has _ l.reader c.next_block.new.self l.fold _ _ c.next_block.ensures.header on a.field-0 a.field-0-is (a.ensures.ok on.taken on.stands)

pub returns-in-Err-Damaged-clause-scanned : goal.returns-in-Err-Damaged-clause-scanned
returns-in-Err-Damaged-clause-scanned g c taken read folded =
    let l = c.loop-block in
    let a = c.in-Err-Damaged in
    let on = l.invariant.so_far taken read folded in
    ends_damaged g.F.BlockFold.has _ l.reader c.next_block.new.self l.fold _ (g.S.Source.left c.next_block.new.source) c.next_block.ensures.header on c.offset.result a.cause (c.offset.ensures ∙ a.ensures.kept.0) c.next_block.ensures.defined
    (c.next_block.ensures.damaged on.taken a.cause on.stands (a.is ∙ ap Err a.field-0-is))

pub returns-in-Err-ReadFault-clause-scanned : goal.returns-in-Err-ReadFault-clause-scanned
returns-in-Err-ReadFault-clause-scanned g c taken read folded =
    let l = c.loop-block in
    let a = c.in-Err-ReadFault in
    let on = l.invariant.so_far taken read folded in
    ends_failed g.F.BlockFold.has _ l.reader c.next_block.new.self l.fold _ (g.S.Source.left c.next_block.new.source) c.next_block.ensures.header on c.next_block.ensures.defined (c.next_block.ensures.cut on.taken on.stands (a.is ∙ ap Err a.field-0-is))
