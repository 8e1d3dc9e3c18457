use Rattle.std.proofs.Common.{◌≡◌, ◌⊎◌, ℕ, ◌||◌, Bool, true, false, nat_eq, refl, inl, inr, arith}
use Rattle.std.proofs.lemmas.Bool.{eqb-true}
use Rattle.session_options.proofs.lemmas.VersionLimits.{few_writers}
use Rattle.checkpoint_io.proofs.lemmas.VersionLaws.{few_len, short_bodies, writers_fit, bodies_fit}
use Rattle.checkpoint_io.proofs.laws.versions_have_a_table.Goals as goal

pub returns-clause-known : goal.returns-clause-known
returns-clause-known c = (refl, refl, λ version known. by_test version (nat_eq version 1) refl known)
  where
    by_test : (version : ℕ) (one : Bool) → nat_eq version 1 ≡ one → (one || nat_eq version 2) ≡ true → (version ≡ 1) ⊎ (version ≡ 2)
    by_test version true is known = inl (eqb-true version 1 is)
    by_test version false is known = inr (eqb-true version 2 known)

pub returns-clause-within : goal.returns-clause-within
returns-clause-within c version =
    let few = few_len version in
    (omega (arith, few), omega (arith, few), omega (arith, few))

pub returns-clause-writers_fit : goal.returns-clause-writers_fit
returns-clause-writers_fit c = writers_fit

pub returns-clause-greatest : goal.returns-clause-greatest
returns-clause-greatest c version = (few_writers version, short_bodies version)

pub returns-clause-bodies_fit : goal.returns-clause-bodies_fit
returns-clause-bodies_fit c = bodies_fit
