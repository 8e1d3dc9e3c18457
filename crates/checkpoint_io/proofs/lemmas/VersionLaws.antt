-- What the numbers of each version have in common.
use Rattle.std.proofs.Common.{ℕ, ◌<◌, ◌≤◌, ◌^◌, Bool, true, false, eqb, lit<, lit≤}
use Rattle.std.specs.Prelude.{if◌then◌else◌}
use Rattle.checkpoint_io.specs.Versions.{writer_len, most_writers, most_body}

pub some_len : (version : ℕ) → 1 ≤ writer_len version
some_len version = by_test (eqb version 1)
  where
    by_test : (one : Bool) → 1 ≤ (if one then 1 else 2)
    by_test true = lit≤ tt
    by_test false = lit≤ tt

pub few_len : (version : ℕ) → writer_len version ≤ 2
few_len version = by_test (eqb version 1)
  where
    by_test : (one : Bool) → (if one then 1 else 2) ≤ 2
    by_test true = lit≤ tt
    by_test false = lit≤ tt

-- the bytes of a writer hold each of them, and their number
pub writers_fit : (version : ℕ) → most_writers version < 256 ^ writer_len version
writers_fit version = by_test (eqb version 1)
  where
    by_test : (one : Bool) → (if one then 64 else 1024) < 256 ^ (if one then 1 else 2)
    by_test true = lit< tt
    by_test false = lit< tt

-- no version has longer bodies
pub short_bodies : (version : ℕ) → most_body version ≤ 1048576
short_bodies version = by_test (eqb version 1)
  where
    by_test : (one : Bool) → (if one then 65536 else 1048576) ≤ 1048576
    by_test true = lit≤ tt
    by_test false = lit≤ tt

-- four bytes hold the length of a body
pub bodies_fit : (version : ℕ) → most_body version < 2 ^ 32
bodies_fit version = by_test (eqb version 1)
  where
    by_test : (one : Bool) → (if one then 65536 else 1048576) < 2 ^ 32
    by_test true = lit< tt
    by_test false = lit< tt
