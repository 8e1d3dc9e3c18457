use Rattle.std.proofs.Common.{◌≡◌, [], Err, ap, subst, sym, ◌∙◌, arith}
use Rattle.checkpoint_io.specs.declared.header.Header.{Header}
use Rattle.log_migration.specs.declared.fault.MigrateFault.{MigrateFault}
use Rattle.log_migration.specs.Migrating.{AnswersMigration}
use Rattle.log_migration.proofs.Outcomes.{answers_no_header, not_one, begun, whole_made, answers_damaged, answers_failed}
use Rattle.log_migration.proofs.migrating.migrate.Goals as goal

pub returns-in-Err-clause-answer : goal.returns-in-Err-clause-answer
returns-in-Err-clause-answer g c =
    let left = g.S.Source.left c.args.source.now in
    let behind = g.S.Source.left c.start.new.source in
    subst (λ (fault : MigrateFault). AnswersMigration left behind c.args.into.now.items c.args.into.now.items (Err fault)) (sym c.no_header.ensures)
    (answers_no_header left behind c.args.into.now.items c.args.into.now.items c.in-Err.fault (λ cause is. c.in-Err.ensures.damaged cause (ap Err is)) (λ is. c.in-Err.ensures.cut (ap Err is)))

pub returns-then-header-ne-OLD_VERSION-clause-answer : goal.returns-then-header-ne-OLD_VERSION-clause-answer
returns-then-header-ne-OLD_VERSION-clause-answer g c =
    let (taken, read, none, joined) = c.in-Ok.ensures.ok in
    let same = ap (λ (h : Header). h.version) c.header.ensures in
    not_one _ _ c.in-Ok.reader taken read none joined (λ one. omega (arith, c.if-header-ne-OLD_VERSION.true, same, one))

pub scan_rest-requires-clause-begun : goal.scan_rest-requires-clause-begun
scan_rest-requires-clause-begun g c =
    let (taken, read, none, joined) = c.in-Ok.ensures.ok in
    (taken, read, begun c.in-Ok.reader taken _ c.begin.new.self read none c.header-2.ensures c.in_ok-begin.ensures.begun)

pub returns-in-Whole-clause-answer : goal.returns-in-Whole-clause-answer
returns-in-Whole-clause-answer g c =
    let (taken, read, none, joined) = c.in-Ok.ensures.ok in
    let first = begun c.in-Ok.reader taken _ c.begin.new.self read none c.header-2.ensures c.in_ok-begin.ensures.begun in
    let scanned = c.in_ok-scan_rest.ensures.scanned taken read first in
    let tested : c.header.result.now.version ≡ 1 = omega (arith, c.if-header-ne-OLD_VERSION.false) in
    let one = ap (λ (h : Header). h.version) (c.scan_rest.ensures.header ∙ sym c.header.ensures) ∙ tested in
    c.hand_over.ensures.answer _ _ (whole_made _ _ _ joined c.scan_rest.new.fold c.scan_rest.new.reader one c.in_ok-scan_rest.field-0 scanned c.in-Whole.is)

pub returns-in-Damaged-clause-answer : goal.returns-in-Damaged-clause-answer
returns-in-Damaged-clause-answer g c =
    let (taken, read, none, joined) = c.in-Ok.ensures.ok in
    let first = begun c.in-Ok.reader taken _ c.begin.new.self read none c.header-2.ensures c.in_ok-begin.ensures.begun in
    let scanned = c.in_ok-scan_rest.ensures.scanned taken read first in
    let tested : c.header.result.now.version ≡ 1 = omega (arith, c.if-header-ne-OLD_VERSION.false) in
    let one = ap (λ (h : Header). h.version) (c.scan_rest.ensures.header ∙ sym c.header.ensures) ∙ tested in
    answers_damaged _ _ _ joined c.scan_rest.new.fold c.scan_rest.new.reader one c.in_ok-scan_rest.field-0 scanned [] [] c.in-Damaged.offset c.in-Damaged.cause c.in-Damaged.is

pub returns-clause-answer : goal.returns-clause-answer
returns-clause-answer g c =
    let (taken, read, none, joined) = c.in-Ok.ensures.ok in
    let first = begun c.in-Ok.reader taken _ c.begin.new.self read none c.header-2.ensures c.in_ok-begin.ensures.begun in
    let scanned = c.in_ok-scan_rest.ensures.scanned taken read first in
    let tested : c.header.result.now.version ≡ 1 = omega (arith, c.if-header-ne-OLD_VERSION.false) in
    let one = ap (λ (h : Header). h.version) (c.scan_rest.ensures.header ∙ sym c.header.ensures) ∙ tested in
    answers_failed _ _ _ joined c.scan_rest.new.fold c.scan_rest.new.reader one c.in_ok-scan_rest.field-0 scanned [] [] c.in-ReadFault.is
