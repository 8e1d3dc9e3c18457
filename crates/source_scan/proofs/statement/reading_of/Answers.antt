use Rattle.std.proofs.lemmas.List.{get_or_default}
use Rattle.std.proofs.Common.{◌≡◌, ℕ, ◌+◌, ◌<◌, Fits, w64, List, length, take, drop, get_or, ap, ◌∙◌, arith}
use Rattle.source_tokens.specs.declared.kind.TokenKind.TheVariants.{Space}
use Rattle.source_tokens.specs.declared.token.Token.{Token}
use Rattle.source_scan.specs.declared.statement.TheConstants.{MAX_SOURCE}
use Rattle.source_scan.specs.Arguments.{parted_from}
use Rattle.source_scan.specs.Rising.{RiseFrom}
use Rattle.source_scan.proofs.Heads.{head_within}
use Rattle.source_scan.proofs.Rises.{rise-at, others-below}
use Rattle.source_scan.proofs.statement.reading_of.Goals as goal

-- the place behind the first byte of a token fits
begin-fits : (inside : List Token) (place : ℕ) (d : Token) → place < length inside → RiseFrom 0 inside MAX_SOURCE → Fits w64 ((get_or inside place d).start + 1)
begin-fits inside place d within rise = omega (arith, (rise-at 0 MAX_SOURCE place inside d within rise).1)

pub overflow_cast-result : goal.overflow_cast-result
overflow_cast-result c =
    let others : c.arguments_of-arguments.result.others ≡ length (drop 2 (parted_from 0 (take c.args.place c.args.inside.now))) =
    c.arguments_of-arguments.ensures.others ∙ ap (λ tokens. length (drop 2 (parted_from 0 tokens))) c.split_at.ensures.front
    in
    omega (arith, others, others-below MAX_SOURCE c.args.place c.args.inside.now c.requires.place c.requires.rise)

pub overflow_add-result : goal.overflow_add-result
overflow_add-result c = begin-fits c.args.inside.now c.args.place _ c.requires.place c.requires.rise

pub returns : goal.returns
returns c =
    let inside = c.args.inside.now in
    let arguments = c.arguments_of-arguments in
    let near : arguments.result.head < length inside = grind (arith, head_within, arguments.ensures.head, c.split_at.ensures, c.requires.place) in
    let none : Token = record { kind = Space; start = 0; end = 0 } in
    let head = get_or_default inside arguments.result.head none c.args.token.now near in
    let end = get_or_default inside c.args.place none c.args.token.now c.requires.place in
    rw (← c.split_at.ensures.front, ← arguments.ensures.first, ← arguments.ensures.second, ← arguments.ensures.others, ← arguments.ensures.head, ← head, ← end) (grind arith)
