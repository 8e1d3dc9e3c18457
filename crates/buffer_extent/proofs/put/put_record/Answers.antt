use Rattle.std.proofs.Common.{◌+◌, ◌-◌, ◌/◌, ◌<◌, ◌^◌, Fits, w64, ℕ, List, length, get_or, refl, sym, ap, subst, arith}
use Rattle.arg_records.specs.Places.{with_words}
use Rattle.buffer_extent.specs.Records.{code_bytes, codes_of}
use Rattle.buffer_extent.specs.Writing.{HeadBytes}
use Rattle.buffer_extent.proofs.Packing.{codes_room}
use Rattle.buffer_extent.proofs.Putting.{is_staged, is_frame, frame_arguments, frame_length, numbers_room, record_short, record_written}
use Rattle.buffer_extent.proofs.put.put_record.Goals as goal

in_range : (frame : List ℕ) → ((i : ℕ) → Fits w64 (get_or frame i 0)) → (i : ℕ) → get_or frame i 0 < 2 ^ 64
in_range frame fits i = (fits i).fits

pub put_numbers-end-requires-clause-words : goal.put_numbers-end-requires-clause-words
put_numbers-end-requires-clause-words c = let since = c.requires.frame in (since.args, frame_arguments c.args.types.now c.args.frame.now since.id since.stamp since.args since.fits since.bytes since.is)

pub frame_stamp-requires : goal.frame_stamp-requires
frame_stamp-requires c = is_frame c.args.types.now c.args.before c.args.frame.now c.requires.frame c.requires.few (in_range c.args.frame.now c.type_inv.frame)

pub frame_id-requires : goal.frame_id-requires
frame_id-requires c = is_frame c.args.types.now c.args.before c.args.frame.now c.requires.frame c.requires.few (in_range c.args.frame.now c.type_inv.frame)

pub overflow_sub-step : goal.overflow_sub-step
overflow_sub-step c =
    let since = c.requires.frame in
    let staged = is_staged c.args.types.now c.args.before c.args.frame.now since c.requires.few (in_range c.args.frame.now c.type_inv.frame) since.id since.stamp since.args since.fits since.is in
    let is = c.frame_stamp.ensures since.id since.stamp since.args staged.0 since.is in
    omega (arith, is, staged.1)

pub put_head-end-requires-clause-id : goal.put_head-end-requires-clause-id
put_head-end-requires-clause-id c =
    let since = c.requires.frame in
    let staged = is_staged c.args.types.now c.args.before c.args.frame.now since c.requires.few (in_range c.args.frame.now c.type_inv.frame) since.id since.stamp since.args since.fits since.is in
    let is = c.frame_id.ensures since.id since.stamp since.args staged.0 since.is in
    omega (arith, is, staged.2)

pub put_texts-requires : goal.put_texts-requires
put_texts-requires c =
    let since = c.requires.frame in
    let are = frame_arguments c.args.types.now c.args.frame.now since.id since.stamp since.args since.fits since.bytes since.is in
    let numbers = c.put_numbers-end.ensures.written since.args are in
    let room = numbers_room c.args.types.now since.args numbers.numbers since.fits numbers.packed in
    let short = record_short c.args.types.now since.args since.fits c.requires.few in
    record {
      room = (
        since.args,
        are,
        omega (arith, room, short, since.within, numbers.behind, c.put_numbers-end.auto.body, c.put_head-end.auto.body, c.put_head-end.ensures.bound, c.requires.few, c.requires.room),
      );
    }

pub returns-clause-written : goal.returns-clause-written
returns-clause-written c = λ id stamp args fits bytes is.
    let staged = is_staged c.args.types.now c.args.before c.args.frame.now c.requires.frame c.requires.few (in_range c.args.frame.now c.type_inv.frame) id stamp args fits is in
    let are = frame_arguments c.args.types.now c.args.frame.now id stamp args fits bytes is in
    let id_is = c.frame_id.ensures id stamp args staged.0 is in
    let stamp_is = c.frame_stamp.ensures id stamp args staged.0 is in
    let numbers = c.put_numbers-end.ensures.written args are in
    let long = codes_room c.args.types.now args numbers.numbers numbers.packed in
    let (head, head_bytes, head_written, head_end) = c.put_head-end.ensures.written in
    let head_is : HeadBytes id (stamp - c.args.before) head = subst (λ (n : ℕ). HeadBytes n (stamp - c.args.before) head) id_is (subst (λ (s : ℕ). HeadBytes c.frame_id.result (s - c.args.before) head) stamp_is head_bytes) in
    record_written c.args.types.now id stamp c.args.before args numbers.numbers head c.args.body.now c.put_head-end.new.body (with_words c.put_head-end.new.body c.put_head-end.result (code_bytes (codes_of numbers.numbers))) c.put_numbers-end.new.body c.put_texts.new.body
    c.args.at c.put_head-end.result (c.put_head-end.result + (length c.args.types.now + 1) / 2) c.put_numbers-end.result c.put_texts.result fits numbers.packed head_is staged.1 staged.0.stamp_in_range (omega arith) (omega (arith, head_end, c.put_head-end.ensures.bound)) c.requires.few
    (omega (arith, long)) head_written head_end refl (ap (λ (n : ℕ). c.put_head-end.result + n) (sym long)) numbers.written numbers.behind (c.put_texts.ensures.written args are) (c.put_texts.ensures.end args are)

pub returns-clause-within : goal.returns-clause-within
returns-clause-within c =
    let since = c.requires.frame in
    let long = frame_length c.args.types.now c.args.before c.args.frame.now since in
    let whole = returns-clause-written c since.id since.stamp since.args since.fits since.bytes since.is in
    let short = record_short c.args.types.now since.args since.fits c.requires.few in
    let are = frame_arguments c.args.types.now c.args.frame.now since.id since.stamp since.args since.fits since.bytes since.is in
    (omega (arith, c.put_texts.ensures.end since.args are, (c.put_numbers-end.ensures.written since.args are).behind, c.put_head-end.ensures.bound), omega (arith, whole.2, whole.4, short, long))
