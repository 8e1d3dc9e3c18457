use Rattle.std.proofs.Common.{rules, ◌<◌, ◌≤◌, length, ap, subst, ⊎_elim, arith}
use Rattle.std.proofs.lemmas.Bool.{cases_lt}
use Rattle.printf_grammar.specs.Types.{values_of, Fits}
use Rattle.log_dictionary.specs.declared.dictionary.TheConstants.{MAX_MESSAGES}
use Rattle.arg_records.specs.Frames.{FrameLen}
use Rattle.arg_records.proofs.lemmas.Fitted.{AreArguments-from_Fits}
use Rattle.ring_core.proofs.lemmas.DictionaryCalls.{IsPlanned-message}
use Rattle.ring_core.proofs.planned.planned_frame.Goals as goal

pub frame_words-requires-clause-arguments : goal.frame_words-requires-clause-arguments
frame_words-requires-clause-arguments c =
    let fit : Fits (values_of c.args.args.now) c.types-types.result.now = search rules in
    let few : length c.types-types.result.now ≤ 64 = omega (arith, ap length c.types-types.ensures.types, c.types-types.ensures.spelled.few) in
    AreArguments-from_Fits (values_of c.args.args.now) c.types-types.result.now fit few

pub returns-clause-some : goal.returns-clause-some
returns-clause-some c =
    let args = values_of c.args.args.now in
    let fit : Fits args c.types-types.result.now = search rules in
    let few : length c.types-types.result.now ≤ 64 = omega (arith, ap length c.types-types.ensures.types, c.types-types.ensures.spelled.few) in
    let short : FrameLen args ≤ 512 = ⊎_elim (λ (h : 512 < FrameLen args). let e = c.in-Ok.ensures.too_long.1 h in absurd (cc e)) (λ (h : FrameLen args ≤ 512). h) (cases_lt 512 (FrameLen args)) in
    let known_id : c.args.id < MAX_MESSAGES = omega (arith, c.len.ensures.bound, c.if-id-len.false) in (
      omega (arith, c.in-Ok.ensures.ok.0, short),
      c.in-Ok.ensures.ok.1,
      IsPlanned-message c.args.dictionary.now c.message.result.now c.args.stamp c.args.id args c.message.ensures known_id c.ranges.stamp.fits
          (subst (Fits args) c.types-types.ensures.types fit) (AreArguments-from_Fits args c.types-types.result.now fit few) c.in-Ok.ensures.bytes short,
    )
