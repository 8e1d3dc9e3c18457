use Rattle.std.proofs.Common.{◌<◌, ◌^◌, ◌+◌, ◌/◌, ◌≡◌, ℕ, refl, arith}
use Rattle.std.proofs.lemmas.List.Elements.{All-from_get_or, All-rest}
use Rattle.arg_records.proofs.Reading.{text_room, text_holds, text_made}
use Rattle.arg_records.proofs.read.behind_text.Goals as goal

pub returns-then-rest-count : goal.returns-then-rest-count
returns-then-rest-count c = λ value back begins.
    let room = text_room c.args.words.now c.in_ok-first.rest.now c.in_ok-first.first.now value back begins c.in_ok-first.ensures.cases.0 in
    omega (arith, room.1, c.div_ceil-count.ensures, c.if-rest-count.true)

pub returns-then-not-holds_text : goal.returns-then-not-holds_text
returns-then-not-holds_text c = λ value back begins.
    let is = c.in_ok-first.ensures.cases.0 in
    let below = All-rest (λ (w : ℕ). w < 2 ^ 64) _ _ _ is (All-from_get_or (λ (w : ℕ). w < 2 ^ 64) c.args.words.now 0 (λ i _. (c.type_inv.words i).fits)) in
    let count_is : c.div_ceil-count.result ≡ (c.in_ok-first.first.now + 7) / 8 = omega (arith, c.div_ceil-count.ensures) in
    let told = c.if-not-holds_text.ensures.1 (text_holds c.args.words.now c.in_ok-first.rest.now c.split_at.result.0.now c.in_ok-first.first.now c.div_ceil-count.result value back below begins is count_is c.split_at.ensures.front) in
    cc

pub returns : goal.returns
returns c =
    let is = c.in_ok-first.ensures.cases.0 in
    let below = All-rest (λ (w : ℕ). w < 2 ^ 64) _ _ _ is (All-from_get_or (λ (w : ℕ). w < 2 ^ 64) c.args.words.now 0 (λ i _. (c.type_inv.words i).fits)) in
    let count_is : c.div_ceil-count.result ≡ (c.in_ok-first.first.now + 7) / 8 = omega (arith, c.div_ceil-count.ensures) in (
      _,
      text_made c.args.words.now c.in_ok-first.rest.now c.split_at.result.0.now c.split_at.result.1.now c.in_ok-first.first.now c.div_ceil-count.result below is c.if-first.false count_is c.if-rest-count.false c.split_at.ensures.front c.split_at.ensures.back
          (c.if-not-holds_text.ensures.0 refl),
    )
