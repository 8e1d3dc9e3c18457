use Rattle.std.proofs.Common.{◌≡◌, ◌∷◌, length, get_or, ap, arith}
use Rattle.source_tokens.proofs.lemmas.Texts.{reads-none}
use Rattle.source_tokens.proofs.lemmas.Prefixes.{letter-more, letter-missing, letter-other, behind-prefix}
use Rattle.source_tokens.proofs.raw_string.past_mark.Goals as goal

pub loop-letter-init : goal.loop-letter-init
loop-letter-init c = reads-none c.args.bytes.now

pub returns-in_default : goal.returns-in_default
returns-in_default c = λ raw whole. letter-missing c.args.bytes.now c.args.prefix.now c.loop-letter.rest.now (34 ∷ raw) c.loop-letter.letter-index (omega arith) c.loop-letter.invariant c.in_default.len_below whole

pub returns-then-first-letter : goal.returns-then-first-letter
returns-then-first-letter c = λ raw whole.
    letter-other c.args.bytes.now c.args.prefix.now c.loop-letter.rest.now (34 ∷ raw) c.loop-letter.letter-index (omega arith) c.loop-letter.invariant c.in-len1-up.len_at_least c.if-first-letter.true whole

pub loop-letter-preserved : goal.loop-letter-preserved
loop-letter-preserved c =
    rw c.past_splices-rest.ensures.after (letter-more c.args.bytes.now c.args.prefix.now c.loop-letter.rest.now c.loop-letter.letter-index (omega arith) c.loop-letter.invariant c.in-len1-up.len_at_least c.if-first-letter.false)

pub returns-in_default-rest : goal.returns-in_default-rest
returns-in_default-rest c = λ raw whole.
    let same : c.loop-letter.rest.now ≡ 34 ∷ raw = behind-prefix c.args.bytes.now c.args.prefix.now c.loop-letter.rest.now (34 ∷ raw) c.loop-letter.letter-index (omega arith) c.loop-letter.invariant whole in
    omega (arith, ap length same)

pub returns-then-mark-ne34 : goal.returns-then-mark-ne34
returns-then-mark-ne34 c = λ raw whole.
    let same : c.loop-letter.rest.now ≡ 34 ∷ raw = behind-prefix c.args.bytes.now c.args.prefix.now c.loop-letter.rest.now (34 ∷ raw) c.loop-letter.letter-index (omega arith) c.loop-letter.invariant whole in
    c.if-mark-ne34.true (ap (λ bytes. get_or bytes 0 0) same)
