use Rattle.std.proofs.Common.{◌≡◌, None, drop, refl, sym, arith}
use Rattle.std.proofs.lemmas.Grind.{common_steps}
use Rattle.std.proofs.lemmas.List.{drop_all}
use Rattle.memchr.specs.Find.{FindsNeedle}
use Rattle.source_tokens.specs.RawStrings.{past_delimiter, closing_of}
use Rattle.source_tokens.proofs.raw_string.raw_end.Goals as goal

pub returns-in-None-clause-ends : goal.returns-in-None-clause-ends
returns-in-None-clause-ends c =
    let content : c.split_at-2.result.1.now ≡ drop 1 (past_delimiter c.args.raw.now) = grind (arith, common_steps) in
    let closing : c.as_slice.result.now ≡ closing_of c.args.raw.now = grind (arith, common_steps) in
    let first : FindsNeedle c.split_at-2.result.1.now c.as_slice.result.now 0 None = c.in-None.ensures in
    record { place = None; first = rw (sym content, sym closing) first; ends = (refl, grind (arith, common_steps, drop_all)) }
