-- Numbers in bytes, the low byte first.
use Rattle.std.proofs.Common.{◌≡◌, ℕ, ◌-◌, ◌≤◌, true, List, [], ◌∷◌, length, get_or, take, drop, Ok, refl, sym, arith}
use Rattle.std.specs.Prelude.{nat_le}
use Rattle.std.specs.Int.{w16, w32, to_le_bytes, from_le_bytes}
use Rattle.std.specs.Hash.{le_bytes}
use Rattle.std.proofs.lemmas.Bool.{le-leb}
use Rattle.std.proofs.lemmas.List.{take_all}
use Rattle.nibble_pack.specs.Bytes.{number_of_bytes}
use Rattle.nibble_pack.specs.Parsing.{low_first}
use Rattle.log_dictionary.specs.declared.binary_entry.EntryCause.TheVariants.{Cut}

pub two_bytes : (n : ℕ) → le_bytes 2 n ≡ to_le_bytes w16 n
unfolding le_bytes
two_bytes n = refl

pub four_bytes : (n : ℕ) → le_bytes 4 n ≡ to_le_bytes w32 n
unfolding le_bytes
four_bytes n = refl

pub two_long : (n : ℕ) → length (le_bytes 2 n) ≡ 2
unfolding le_bytes
two_long n = refl

pub four_long : (n : ℕ) → length (le_bytes 4 n) ≡ 4
unfolding le_bytes
four_long n = refl

-- a number is read from the first bytes
pub two_read : (bytes : List ℕ) (n : ℕ) → 2 ≤ length bytes → n ≡ from_le_bytes w16 (get_or bytes 0 0 ∷ get_or bytes 1 0 ∷ []) → low_first 2 Cut bytes ≡ Ok (n, take (length bytes - 2) (drop 2 bytes))
two_read [] n long e = absurd (omega (arith, long))
two_read (a ∷ []) n long e = absurd (omega (arith, long))
two_read (a ∷ b ∷ rest) n long e =
    let enough : nat_le 2 (length (a ∷ b ∷ rest)) ≡ true = le-leb 2 (length (a ∷ b ∷ rest)) long in
    let number : number_of_bytes (a ∷ b ∷ []) ≡ n = omega (arith, e) in
    let behind : rest ≡ take (length (a ∷ b ∷ rest) - 2) rest = sym (take_all (length (a ∷ b ∷ rest) - 2) rest (omega arith)) in
    rw enough (λ t. Ok (number t, behind t))

pub four_read : (bytes : List ℕ) (n : ℕ) → 4 ≤ length bytes → n ≡ from_le_bytes w32 (get_or bytes 0 0 ∷ get_or bytes 1 0 ∷ get_or bytes 2 0 ∷ get_or bytes 3 0 ∷ []) → low_first 4 Cut bytes ≡ Ok (n, take (length bytes - 4) (drop 4 bytes))
four_read [] n long e = absurd (omega (arith, long))
four_read (a ∷ []) n long e = absurd (omega (arith, long))
four_read (a ∷ b ∷ []) n long e = absurd (omega (arith, long))
four_read (a ∷ b ∷ c ∷ []) n long e = absurd (omega (arith, long))
four_read (a ∷ b ∷ c ∷ d ∷ rest) n long e =
    let enough : nat_le 4 (length (a ∷ b ∷ c ∷ d ∷ rest)) ≡ true = le-leb 4 (length (a ∷ b ∷ c ∷ d ∷ rest)) long in
    let number : number_of_bytes (a ∷ b ∷ c ∷ d ∷ []) ≡ n = omega (arith, e) in
    let behind : rest ≡ take (length (a ∷ b ∷ c ∷ d ∷ rest) - 4) rest = sym (take_all (length (a ∷ b ∷ c ∷ d ∷ rest) - 4) rest (omega arith)) in
    rw enough (λ t. Ok (number t, behind t))
