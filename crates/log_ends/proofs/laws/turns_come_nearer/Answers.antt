use Rattle.std.proofs.Common.{◌≢◌, ℕ, ◌+◌, ◌<◌, ◌≤◌, length, sym, subst, inl, inr, arith}
use Rattle.std.proofs.lemmas.Bool.{cases_lt}
use Rattle.std.proofs.lemmas.Bool.Decides.{eqb_tells, nat_tests}
use Rattle.std.proofs.lemmas.Option.{slice_get_within}
use Rattle.log_ends.specs.Consumers.{consumer_ends, next_writer, turns_before, ComesSooner}
use Rattle.log_ends.proofs.laws.turns_come_nearer.Goals as goal

-- a writer that the search didn't come by before the one that it served is nearer to the next search's begin
nearer : (count first served writer : ℕ) → served < count → writer < count → first ≤ count → writer ≢ served → ¬ (ComesSooner first writer served) → turns_before count (served + 1) writer < turns_before count first writer
nearer count first served writer here there within apart not_before =
    elim (cases_lt served first) [
      | inl before ↦
          elim (cases_lt writer served) [
            | inl below ↦ absurd (not_before (inr (before, inr below)))
            | inr above ↦
                elim (cases_lt writer first) [
                  | inl under ↦ grind (arith, nat_tests)
                  | inr over ↦ absurd (not_before (inr (before, inl over)))
                ]
          ]
      | inr behind ↦
          elim (cases_lt writer first) [
            | inl under ↦ grind (arith, nat_tests)
            | inr over ↦
                elim (cases_lt writer served) [
                  | inl below ↦ absurd (not_before (inl (over, below)))
                  | inr above ↦ grind (arith, nat_tests)
                ]
          ]
    ]

pub returns-clause-nearer : goal.returns-clause-nearer
returns-clause-nearer c = λ old new serves writer before after was now within some.
    let count = length (consumer_ends new) in
    elim (eqb_tells writer serves.writer) [
      | inl same ↦ inl same.1
      | inr apart ↦
          inr (subst (λ (n : ℕ). turns_before count n writer < turns_before count (next_writer old) writer) (sym serves.next)
          (nearer count (next_writer old) serves.writer writer serves.there (slice_get_within (consumer_ends new) writer after now) within apart.1 (λ comes. some (serves.passed writer before after comes was now))))
    ]

pub returns-clause-begins : goal.returns-clause-begins
returns-clause-begins c = λ old new serves. omega (arith, serves.next, serves.there)
