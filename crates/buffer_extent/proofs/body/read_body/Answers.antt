use Rattle.std.proofs.Common.{◌≡◌, ◌<◌, ℕ, [], Err, sym, ap, subst, ◌∙◌}
use Rattle.std.proofs.lemmas.List.{nil_from_length}
use Rattle.std.proofs.lemmas.List.Elements.{All-from_get_or}
use Rattle.std.proofs.lemmas.Bool.{eqb-true}
use Rattle.std.proofs.lemmas.Result.{err_from_is_err_and}
use Rattle.buffer_extent.specs.declared.fault.BodyFault.TheVariants.{Damaged}
use Rattle.buffer_extent.specs.Reading.{record_at}
use Rattle.buffer_extent.specs.Bodies.{IsDamage}
use Rattle.nibble_pack.proofs.lemmas.Parsing.{handed_on}
use Rattle.buffer_extent.proofs.Bodies.{some_left, one_read, all_read, body_breaks, untouched, only_memory, one_fault, no_records, read_shorter, started}
use Rattle.buffer_extent.proofs.RecordForms.{not_started}
use Rattle.buffer_extent.proofs.lemmas.BodyLaws.{IsBody-unique, IsBody-not_broken}
use Rattle.buffer_extent.proofs.body.read_body.Goals as goal

pub returns-in_err-call-clause-only : goal.returns-in_err-call-clause-only
returns-in_err-call-clause-only c = λ records is.
    handed_on _ _ _ _ c.from_residual.ensures.1
    (only_memory c.args.dictionary.now c.args.base c.args.last c.args.body.now c.loop-room.records c.loop-room.before c.loop-room.least c.loop-room.rest.now _ c.loop-room.invariant
    (some_left c.loop-room.rest.now c.is_empty.result c.is_empty.ensures c.loop-room-test.true) c.in_err-call.ensures.record records is)

pub returns-in_err-call-clause-damaged : goal.returns-in_err-call-clause-damaged
returns-in_err-call-clause-damaged c = λ cause is.
    let p = err_from_is_err_and c.from_residual.result c.from_residual.ensures.1 in
    let same : Err p.0 ≡ Err (Damaged cause) = sym p.1 ∙ is in
    let fault : p.0 ≡ Damaged cause = cc in
    body_breaks c.args.dictionary.now c.args.base c.args.last c.args.body.now c.loop-room.records c.loop-room.before c.loop-room.least c.loop-room.rest.now cause c.loop-room.invariant
    (some_left c.loop-room.rest.now c.is_empty.result c.is_empty.ensures c.loop-room-test.true)
    (subst (IsDamage (λ cause. record_at c.args.dictionary.now c.loop-room.before c.loop-room.least c.loop-room.rest.now ≡ Err cause)) (sym p.2 ∙ fault) c.in_err-call.ensures.record)

pub returns-in_err-call-clause-broken : goal.returns-in_err-call-clause-broken
returns-in_err-call-clause-broken c = λ cause broken.
    handed_on _ _ _ _ c.from_residual.ensures.1
    (one_fault c.args.dictionary.now c.args.base c.args.last c.args.body.now c.loop-room.records c.loop-room.before c.loop-room.least c.loop-room.rest.now _ c.loop-room.invariant
    (some_left c.loop-room.rest.now c.is_empty.result c.is_empty.ensures c.loop-room-test.true) c.in_err-call.ensures.record cause broken)

pub loop-room-preserved : goal.loop-room-preserved
loop-room-preserved c =
    rw c.in-Ok.ensures.ok (one_read c.args.dictionary.now c.args.base c.args.last c.args.body.now c.loop-room.records c.loop-room.before c.loop-room.least c.loop-room.rest.now c.in_ok-call.call c.in_ok-call.back.now c.loop-room.invariant
    (All-from_get_or (λ (b : ℕ). b < 256) c.args.body.now 0 (λ i _. (c.type_inv.body i).fits)) c.in_ok-call.ensures.record)

pub returns-clause-ok : goal.returns-clause-ok
returns-clause-ok c =
    all_read c.args.dictionary.now c.args.base c.args.last c.args.body.now c.loop-room.records c.loop-room.before c.loop-room.least c.loop-room.rest.now c.loop-room.invariant
    (nil_from_length c.loop-room.rest.now (eqb-true _ _ (sym c.is_empty.ensures ∙ c.loop-room-test.false)))

pub returns-clause-only : goal.returns-clause-only
returns-clause-only c = λ records is. IsBody-unique c.args.dictionary.now c.args.base c.args.last c.loop-room.records records c.args.body.now (returns-clause-ok c) is

pub returns-clause-broken : goal.returns-clause-broken
returns-clause-broken c = λ cause broken. IsBody-not_broken c.args.dictionary.now c.args.base c.args.last c.loop-room.records cause c.args.body.now (returns-clause-ok c) broken

pub returns-in_err-call-clause-no_start : goal.returns-in_err-call-clause-no_start
returns-in_err-call-clause-no_start c = λ cause some none.
    let p = err_from_is_err_and c.from_residual.result c.from_residual.ensures.1 in
    let q = c.in_err-call.ensures.broken cause (not_started c.args.dictionary.now c.loop-room.before c.loop-room.least c.loop-room.rest.now cause (untouched c.args.dictionary.now c.args.base c.args.last c.args.body.now c.loop-room.records c.loop-room.before c.loop-room.least c.loop-room.rest.now cause c.loop-room.invariant none).1) in
    let fault : c.in_err-call.field-0.0 ≡ Damaged cause = cc in
    p.1 ∙ ap Err (p.2 ∙ fault)

pub returns-in_default-clause-no_start : goal.returns-in_default-clause-no_start
returns-in_default-clause-no_start c = λ cause some none.
    absurd (started c.args.dictionary.now c.loop-room.before c.loop-room.least c.loop-room.rest.now _ _ cause c.in_ok-call.ensures.record
    (untouched c.args.dictionary.now c.args.base c.args.last c.args.body.now c.loop-room.records c.loop-room.before c.loop-room.least c.loop-room.rest.now cause c.loop-room.invariant none).1)

pub loop-room-smaller : goal.loop-room-smaller
loop-room-smaller c =
    read_shorter c.args.dictionary.now c.args.base c.args.last c.args.body.now c.loop-room.records c.loop-room.before c.loop-room.least c.loop-room.rest.now _ _ c.loop-room.invariant
    (All-from_get_or (λ (b : ℕ). b < 256) c.args.body.now 0 (λ i _. (c.type_inv.body i).fits)) c.in_ok-call.ensures.record

pub returns-clause-empty : goal.returns-clause-empty
returns-clause-empty c = λ empty.
    let none = IsBody-unique c.args.dictionary.now c.args.base c.args.last c.loop-room.records [] c.args.body.now (returns-clause-ok c) (no_records c.args.dictionary.now c.args.base c.args.last c.args.body.now empty) in
    cc

pub returns-clause-no_start : goal.returns-clause-no_start
returns-clause-no_start c = λ cause some none.
    let same = (untouched c.args.dictionary.now c.args.base c.args.last c.args.body.now c.loop-room.records c.loop-room.before c.loop-room.least c.loop-room.rest.now cause c.loop-room.invariant none).0 in
    absurd (some (sym same ∙ nil_from_length c.loop-room.rest.now (eqb-true _ _ (sym c.is_empty.ensures ∙ c.loop-room-test.false))))
