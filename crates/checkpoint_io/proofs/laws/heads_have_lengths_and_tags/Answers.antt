use Rattle.std.proofs.Common.{◌≡◌, ℕ, List, [], ◌∷◌, ◌++◌, take, refl, sym, ap, subst, arith}
use Rattle.std.specs.Prelude.{codes}
use Rattle.std.specs.Hash.{le_bytes}
use Rattle.checkpoint_io.specs.Versions.{writer_len}
use Rattle.checkpoint_io.specs.Blocks.{writer_bytes}
use Rattle.checkpoint_io.proofs.lemmas.BlockLaws.{le_length, one_byte, length-header_bytes, length-extent_head_bytes}
use Rattle.checkpoint_io.proofs.laws.heads_have_lengths_and_tags.Goals as goal

pub returns-clause-header : goal.returns-clause-header
returns-clause-header c = length-header_bytes

pub returns-clause-front : goal.returns-clause-front
returns-clause-front c header is few =
    let clock : List ℕ → List ℕ = λ front. front ++ le_bytes 8 header.clock.tick ++ le_bytes 8 header.clock.nanos ++ le_bytes 8 header.clock.rate in
    let writers : List ℕ = header.writers ∷ [] in
    subst (λ (v : ℕ). take 6 (clock (codes "NLOG" ++ v ∷ writer_bytes v header.writers)) ≡ codes "NLOG" ++ 1 ∷ writers) (sym is)
    (ap (λ (w : List ℕ). take 6 (clock (codes "NLOG" ++ 1 ∷ w))) (one_byte header.writers (omega (arith, few))))

pub returns-clause-fragment : goal.returns-clause-fragment
unfolding le_bytes
returns-clause-fragment c first count = refl

pub returns-clause-extent : goal.returns-clause-extent
returns-clause-extent c = length-extent_head_bytes

pub returns-clause-extent_writer : goal.returns-clause-extent_writer
returns-clause-extent_writer c writer len small = ap (λ (w : List ℕ). take 2 (2 ∷ w ++ le_bytes 4 len)) (one_byte writer small)

pub returns-clause-clock : goal.returns-clause-clock
unfolding le_bytes
returns-clause-clock c clock = refl

pub returns-clause-close : goal.returns-clause-close
returns-clause-close c version writer = omega (arith, le_length (writer_len version) writer)

pub returns-clause-close_writer : goal.returns-clause-close_writer
returns-clause-close_writer c writer small = ap (λ (w : List ℕ). 4 ∷ w) (one_byte writer small)
