use Rattle.std.proofs.Common.{◌<◌, ◌^◌, ℕ, rules, arith}
use Rattle.std.proofs.lemmas.List.{take_rest}
use Rattle.std.proofs.lemmas.List.Elements.{All-from_get_or}
use Rattle.arg_records.proofs.Reading.{frame_parts, frame_made}
use Rattle.arg_records.proofs.read.is_frame.Goals as goal
use Rattle.arg_records.proofs.read.is_frame.Goals.{then-frame-lt-HEAD_WORDS-via-then-frame-lt-HEAD_WORDS, then-frame-lt-HEAD_WORDS-via-else-frame-lt-HEAD_WORDS+then-frame-gt-MAX_FRAME_WORDS}
use Rattle.arg_records.proofs.read.is_frame.Goals.{then-id-via-then-id, then-id-via-else-id+then-len-frame}

pub returns-then-frame-lt-HEAD_WORDS : goal.returns-then-frame-lt-HEAD_WORDS
returns-then-frame-lt-HEAD_WORDS c = (
  λ h. absurd (search rules),
  λ is.
      let parts = frame_parts c.args.types.now is.0 c.args.frame.now is.1 in
      absurd (elim c.then-frame-lt-HEAD_WORDS.branch [
        | then-frame-lt-HEAD_WORDS-via-then-frame-lt-HEAD_WORDS w ↦ omega (arith, parts.some)
        | then-frame-lt-HEAD_WORDS-via-else-frame-lt-HEAD_WORDS+then-frame-gt-MAX_FRAME_WORDS w ↦ omega (arith, parts.within)
      ]),
)

pub returns-then-id : goal.returns-then-id
returns-then-id c = (
  λ h. absurd (search rules),
  λ is.
      let parts = frame_parts c.args.types.now is.0 c.args.frame.now is.1 in
      absurd (elim c.then-id.branch [
        | then-id-via-then-id w ↦ omega (arith, parts.id_in_range)
        | then-id-via-else-id+then-len-frame w ↦ omega (arith, parts.len_is)
      ]),
)

pub returns : goal.returns
returns c =
    let types = c.args.types.now in
    let frame = c.args.frame.now in
    let below = All-from_get_or (λ (w : ℕ). w < 2 ^ 64) frame 0 (λ i _. (c.type_inv.frame i).fits) in
    let told = rw (take_rest frame 2) at c.are_arguments.ensures in (
      λ yes.
          let it = told.0 yes in (
            it.0,
            frame_made types it.0 frame c.requires below
                (record {
                  some = omega arith;
                  within = omega arith;
                  id_in_range = omega arith;
                  len_is = omega arith;
                  spelled = it.1;
                }),
          ),
      λ is. told.1 (is.0, (frame_parts types is.0 frame is.1).spelled),
    )
