use Rattle.std.proofs.Common.{◌≡◌}
use Rattle.trace_generator.specs.Generated.{generator_at, Generated}
use Rattle.trace_generator.proofs.generating.generate.Given as goal

abbrev pub invariant-loop-k : goal.invariant-loop-k
invariant-loop-k l = record {
  trace : l.trace ≡ Generated l.seed l.k l.writers;
  generator : l.generator ≡ generator_at l.seed l.k;
}
