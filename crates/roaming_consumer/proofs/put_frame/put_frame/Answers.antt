use Rattle.std.proofs.Common.{◌≡◌, ◌+◌, ℕ, [], ◌∷◌, ◌++◌, subst, sym}
use Rattle.roaming_consumer.specs.Drafts.{IsDraft}
use Rattle.roaming_consumer.proofs.Drafting.{draft_goes_on}
use Rattle.roaming_consumer.proofs.put_frame.put_frame.Goals as goal

pub returns-clause-goes_on : goal.returns-clause-goes_on
returns-clause-goes_on c = λ call tick records is was.
    let id : c.frame_id-id.result ≡ call.id = c.frame_id-id.ensures call.id call.stamp call.args is.staged is.is in
    let stamp : c.frame_stamp.result ≡ call.stamp = c.frame_stamp.ensures call.id call.stamp call.args is.staged is.is in
    subst (λ (n : ℕ). IsDraft c.args.dictionary.now tick (records ++ call ∷ []) (record { records = c.args.draft.records + 1; len = c.put_record.result; ids = c.counted.result; last = n }) c.put_record.new.body) (sym stamp)
    (draft_goes_on c.args.dictionary.now tick records c.args.draft c.args.frame.now call c.frame_id-id.result c.message.result.now c.types-types.result.now c.args.body.now c.put_record.new.body c.put_record.result c.counted.result is was id c.message.ensures c.types-types.ensures.types c.counted.ensures
    (λ fits. let put = c.put_record.ensures.written call.id call.stamp call.args fits is.bytes is.is in (put.0, put.1, put.3, put.4)))
