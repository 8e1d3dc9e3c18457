-- A log has no more calls than bytes.
use Rattle.std.proofs.Common.{◌≡◌, ℕ, zero, suc, ◌+◌, ◌<◌, ◌≤◌, Bool, cond, List, [], ◌∷◌, ◌++◌, length, refl, ap, inl, inr, arith}
use Rattle.std.specs.List.{flat_map, range_with_len}
use Rattle.std.proofs.lemmas.Bool.Decides.{eqb_tells}
use Rattle.std.proofs.lemmas.List.{length-append}
use Rattle.arg_records.specs.declared.call.Call.{Call}
use Rattle.checkpoint_io.specs.declared.header.Header.{Header}
use Rattle.checkpoint_io.specs.Blocks.{Block, Fragment, Extent, NewClock, Close, FileOf, block_calls, all_records}
use Rattle.checkpoint_io.specs.Validity.{block_records, records_of, Valid}
use Rattle.log_scan.proofs.lemmas.Records.{file_short}
use Rattle.decompressor.specs.Decompression.{CallsOf, all_calls}
use Rattle.decompressor.proofs.Turns.{no_more_calls}

-- lists that are as long, one by one, are as long together
as_long : {X Y : Type 0} (f : ℕ → List X) (g : ℕ → List Y) (ks : List ℕ) → ((k : ℕ) → length (f k) ≡ length (g k)) → length (flat_map f ks) ≡ length (flat_map g ks)
as_long f g [] same = refl
as_long f g (k ∷ ks) same = omega (arith, length-append (f k) (flat_map f ks), length-append (g k) (flat_map g ks), same k, as_long f g ks same)

both_long : {X : Type 0} (f g : ℕ → List X) (ks : List ℕ) → length (flat_map (λ k. f k ++ g k) ks) ≡ length (flat_map f ks) + length (flat_map g ks)
both_long f g [] = refl
both_long f g (k ∷ ks) =
    omega (
      arith,
      length-append (f k ++ g k) (flat_map (λ j. f j ++ g j) ks),
      length-append (f k) (g k),
      length-append (f k) (flat_map f ks),
      length-append (g k) (flat_map g ks),
      both_long f g ks,
    )

abbrev in_block : Block → ℕ → ℕ → List Call
in_block block from n = flat_map (λ w. block_records w block) (range_with_len from n)

no_records : (block : Block) (from n : ℕ) → ((w : ℕ) → block_records w block ≡ []) → length (in_block block from n) ≡ 0
no_records block from zero none = refl
no_records block from (suc n) none = omega (arith, length-append (block_records from block) (in_block block (from + 1) n), ap length (none from), no_records block (from + 1) n none)

-- an extent's records are those of one writer
past_writer : (v : ℕ) (records : List Call) (from n : ℕ) → v < from → length (in_block (Extent v records) from n) ≡ 0
past_writer v records from zero past = refl
past_writer v records from (suc n) past =
    elim (eqb_tells v from) [
      | inl same ↦ absurd (omega (arith, past, same.1))
      | inr apart ↦
          omega (
            arith,
            length-append (block_records from (Extent v records)) (in_block (Extent v records) (from + 1) n),
            ap (λ (b : Bool). length (cond b records [])) apart.0,
            past_writer v records (from + 1) n (omega (arith, past)),
          )
    ]

one_writer : (v : ℕ) (records : List Call) (from n : ℕ) → length (in_block (Extent v records) from n) ≤ length records
one_writer v records from zero = omega arith
one_writer v records from (suc n) =
    elim (eqb_tells v from) [
      | inl same ↦
          omega (
            arith,
            length-append (block_records from (Extent v records)) (in_block (Extent v records) (from + 1) n),
            ap (λ (b : Bool). length (cond b records [])) same.0,
            past_writer v records (from + 1) n (omega (arith, same.1)),
          )
      | inr apart ↦
          omega (
            arith,
            length-append (block_records from (Extent v records)) (in_block (Extent v records) (from + 1) n),
            ap (λ (b : Bool). length (cond b records [])) apart.0,
            one_writer v records (from + 1) n,
          )
    ]

block_few : (block : Block) (n : ℕ) → length (in_block block 0 n) ≤ length (block_calls block)
block_few (Fragment first messages) n = omega (arith, no_records (Fragment first messages) 0 n (λ w. refl))
block_few (Extent v records) n = one_writer v records 0 n
block_few (NewClock clock) n = omega (arith, no_records (NewClock clock) 0 n (λ w. refl))
block_few (Close v) n = omega (arith, no_records (Close v) 0 n (λ w. refl))

records_few : (blocks : List Block) (n : ℕ) → length (flat_map (λ w. records_of w blocks) (range_with_len 0 n)) ≤ length (all_records blocks)
records_few [] n = none 0 n
  where
    none : (from k : ℕ) → length (flat_map (λ w. records_of w []) (range_with_len from k)) ≤ 0
    none from zero = omega arith
    none from (suc k) = none (from + 1) k
records_few (block ∷ blocks) n =
    omega (
      arith,
      both_long (λ w. block_records w block) (λ w. records_of w blocks) (range_with_len 0 n),
      block_few block n,
      records_few blocks n,
      length-append (block_calls block) (all_records blocks),
    )

pub few_calls : (header : Header) (blocks : List Block) (bytes : List ℕ) → FileOf header blocks bytes → Valid header blocks → length bytes ≤ 134217728 → length (all_calls header blocks) ≤ 134217728
few_calls header blocks bytes file valid short =
    omega (
      arith,
      as_long (CallsOf blocks) (λ w. records_of w blocks) (range_with_len 0 header.writers) (no_more_calls valid),
      records_few blocks header.writers,
      file_short header blocks bytes file,
      short,
    )
