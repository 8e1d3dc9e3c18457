-- The first of eight bytes, and the others of eight more.
use Rattle.std.proofs.Common.{◌≡◌, ℕ, ◌+◌, ◌-◌, ◌*◌, ◌/◌, ◌^◌, ◌<◌, ◌≤◌, List, ◌++◌, length, take, drop, sym, ap, ◌∙◌, append_assoc, arith}
use Rattle.std.proofs.lemmas.List.{append-nil, length-append, length-take-le, length-drop, take-append-drop, take_rest, drop_all, drop-append-le, drop-drop}
use Rattle.std.proofs.lemmas.List.Elements.{All-take, All-drop, All-append}
use Rattle.std.specs.Int.{w64, to_le_bytes, bytes_low_first}
use Rattle.nibble_pack.specs.Bytes.{AreBytes, number_of_bytes, length-bytes_low_first, bytes_low_first-below, number_of_bytes-low_first, number_of_bytes-lt, low_first-number_of_bytes}
use Rattle.nibble_pack.proofs.lemmas.Counts.{pow256}
use Rattle.nibble_pack.proofs.lemmas.Fronts.{number_of_bytes-append, bytes_cut}
use Rattle.arg_records.specs.Places.{with_words}

-- the first bytes of the one word, and the others of the other
joined_number : (front back len : ℕ) → front < 2 ^ 64 → back < 2 ^ 64 → len ≤ 8
    → number_of_bytes (take len (to_le_bytes w64 front) ++ drop len (to_le_bytes w64 back)) ≡ front - front / 2 ^ (8 * len) * 2 ^ (8 * len) + back / 2 ^ (8 * len) * 2 ^ (8 * len)
joined_number front back len fits fits_too few =
    let xs : List ℕ = to_le_bytes w64 front in
    let ys : List ℕ = to_le_bytes w64 back in
    let eight : length xs ≡ 8 = length-bytes_low_first 0 8 front in
    let eight_too : length ys ≡ 8 = length-bytes_low_first 0 8 back in
    let of_front : number_of_bytes xs ≡ front = number_of_bytes-low_first 8 front (omega arith) in
    let of_back : number_of_bytes ys ≡ back = number_of_bytes-low_first 8 back (omega arith) in
    let power : 256 ^ length (take len xs) ≡ 2 ^ (8 * len) = ap (λ (n : ℕ). 256 ^ n) (length-take-le len xs (omega arith)) ∙ pow256 len in
    let whole = number_of_bytes-append (take len xs) (drop len ys) ∙ ap (λ (p : ℕ). number_of_bytes (take len xs) + p * number_of_bytes (drop len ys)) power in
    let cut = bytes_cut xs len (bytes_low_first-below 0 8 front) (omega arith) in
    let cut_too = bytes_cut ys len (bytes_low_first-below 0 8 back) (omega arith) in
    omega (arith, whole, rw of_front at cut.whole, rw of_front at cut.high, rw of_back at cut_too.high)

joined_are : (front back len : ℕ) → AreBytes (take len (to_le_bytes w64 front) ++ drop len (to_le_bytes w64 back))
joined_are front back len =
    All-append (λ (b : ℕ). b < 256) (take len (to_le_bytes w64 front)) (drop len (to_le_bytes w64 back))
    (All-take (λ (b : ℕ). b < 256) len (to_le_bytes w64 front) (bytes_low_first-below 0 8 front)) (All-drop (λ (b : ℕ). b < 256) len (to_le_bytes w64 back) (bytes_low_first-below 0 8 back))

joined_length : (front back len : ℕ) → len ≤ 8 → length (take len (to_le_bytes w64 front) ++ drop len (to_le_bytes w64 back)) ≡ 8
joined_length front back len few =
    omega (arith, length-append (take len (to_le_bytes w64 front)) (drop len (to_le_bytes w64 back)), length-take-le len (to_le_bytes w64 front) few, length-drop len (to_le_bytes w64 back))

pub joined_fits : (front back len : ℕ) → front < 2 ^ 64 → back < 2 ^ 64 → len ≤ 8
    → front - front / 2 ^ (8 * len) * 2 ^ (8 * len) + back / 2 ^ (8 * len) * 2 ^ (8 * len) < 2 ^ 64
joined_fits front back len fits fits_too few =
    let xs : List ℕ = take len (to_le_bytes w64 front) in
    let ys : List ℕ = drop len (to_le_bytes w64 back) in
    omega (arith, joined_number front back len fits fits_too few, number_of_bytes-lt (xs ++ ys) (joined_are front back len), ap (λ (n : ℕ). 256 ^ n) (joined_length front back len few))

pub joined_bytes : (front back len : ℕ) → front < 2 ^ 64 → back < 2 ^ 64 → len ≤ 8
    → to_le_bytes w64 (front - front / 2 ^ (8 * len) * 2 ^ (8 * len) + back / 2 ^ (8 * len) * 2 ^ (8 * len)) ≡ take len (to_le_bytes w64 front) ++ drop len (to_le_bytes w64 back)
joined_bytes front back len fits fits_too few =
    let bytes : List ℕ = take len (to_le_bytes w64 front) ++ drop len (to_le_bytes w64 back) in
    ap (to_le_bytes w64) (sym (joined_number front back len fits fits_too few))
    ∙ ap (λ (n : ℕ). bytes_low_first 0 n (number_of_bytes bytes)) (sym (joined_length front back len few)) ∙ low_first-number_of_bytes bytes (joined_are front back len)

-- eight bytes, and those behind them
pub eight_put : (front bytes : List ℕ) (len : ℕ) → len ≤ 8 → 8 ≤ length bytes → (front ++ drop len (take 8 bytes)) ++ drop 8 bytes ≡ front ++ drop len bytes
eight_put front bytes len few room =
    append_assoc front (drop len (take 8 bytes)) (drop 8 bytes)
    ∙ ap (λ (b : List ℕ). front ++ b) (sym (drop-append-le len (take 8 bytes) (drop 8 bytes) (omega (arith, length-take-le 8 bytes room))) ∙ ap (drop len) (take-append-drop 8 bytes))

-- what is in front of the rest of a list stands at a place of the list
pub front_put : (body front : List ℕ) (at : ℕ) → at ≤ length body
    → take at body ++ ((front ++ drop (length front) (take (length body - at) (drop at body))) ++ drop (length body - at) (drop at body)) ≡ with_words body at front
front_put body front at within =
    ap (λ (b : List ℕ). take at body ++ ((front ++ drop (length front) b) ++ drop (length body - at) (drop at body))) (take_rest body at)
    ∙ ap (λ (b : List ℕ). take at body ++ ((front ++ drop (length front) (drop at body)) ++ b)) (drop_all (length body - at) (drop at body) (omega (arith, length-drop at body)))
    ∙ ap (λ (b : List ℕ). take at body ++ b) (append-nil (front ++ drop (length front) (drop at body)))
    ∙ ap (λ (b : List ℕ). take at body ++ (front ++ b)) (drop-drop (length front) at body)
