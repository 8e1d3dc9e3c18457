use Rattle.std.proofs.Common.{◌≡◌, ◌<◌, ◌≤◌, ◌*◌, ℕ, List, length, get_or, take, Ok, subst, sym, ◌∙◌, arith}
use Rattle.std.proofs.lemmas.List.{length-set}
use Rattle.printf_grammar.specs.declared.arg_type.ArgType.{ArgType}
use Rattle.printf_grammar.specs.declared.arg_type.ArgType.TheVariants.{Int}
use Rattle.buffer_extent.specs.declared.fault.BodyCause.TheVariants as causes
use Rattle.buffer_extent.specs.Reading.{argument_at, numbers_at, codes_in}
use Rattle.buffer_extent.proofs.lemmas.Codes.{length-codes_in}
use Rattle.nibble_pack.proofs.lemmas.Parsing.{StandsAt, stands_at, one_broken, one_kept, all_read, handed_on}
use Rattle.buffer_extent.proofs.numbers.take_numbers.Goals as goal

stands : (types : List ArgType) (codes : List ℕ) (place code : ℕ) → place < length types → length types ≤ 2 * length codes → code ≡ get_or (codes_in codes) place 0
    → StandsAt causes.RecordCut argument_at types (codes_in codes) place (get_or types place Int) code
stands types codes place code within room is =
    subst (StandsAt causes.RecordCut argument_at types (codes_in codes) place (get_or types place Int)) (sym is)
    (stands_at causes.RecordCut argument_at types (codes_in codes) place Int 0 within (omega (arith, length-codes_in codes)))

pub returns-in_err-number : goal.returns-in_err-number
returns-in_err-number c =
    handed_on _ _ _ _ c.from_residual.ensures.1
    (one_broken causes.RecordCut argument_at c.args.types.now (codes_in c.args.codes.now) c.args.bytes.now (take c.loop-place.place c.loop-place.numbers) c.loop-place.place c.loop-place.rest.now _ c.code_at.result _ c.loop-place.invariant.read
    (stands c.args.types.now c.args.codes.now c.loop-place.place c.code_at.result c.loop-place-test.true c.requires.codes c.code_at.ensures.code) c.in_err-number.ensures)

pub loop-place-preserved : goal.loop-place-preserved
loop-place-preserved c = record {
  room = length-set _ _ _ ∙ c.loop-place.invariant.room;
  read = one_kept causes.RecordCut argument_at c.args.types.now (codes_in c.args.codes.now) c.args.bytes.now c.loop-place.numbers c.loop-place.place c.loop-place.rest.now _ c.code_at.result c.in_ok-number.number c.in_ok-number.back.now c.loop-place.invariant.read
      (stands c.args.types.now c.args.codes.now c.loop-place.place c.code_at.result c.loop-place-test.true c.requires.codes c.code_at.ensures.code)
      (omega (arith, c.loop-place.invariant.room, c.requires.few, c.loop-place-test.true)) c.in_ok-number.ensures;
}

pub returns : goal.returns
returns c =
    let all : c.loop-place.place ≡ length c.args.types.now = omega (arith, c.loop-place-test.false, c.loop-place.auto.place-end) in
    subst (λ (n : ℕ). numbers_at c.args.types.now (codes_in c.args.codes.now) c.args.bytes.now ≡ Ok (take n c.loop-place.numbers, c.loop-place.rest.now)) all
    (all_read causes.RecordCut argument_at c.args.types.now (codes_in c.args.codes.now) c.args.bytes.now (take c.loop-place.place c.loop-place.numbers) c.loop-place.place c.loop-place.rest.now c.loop-place.invariant.read (omega arith))
