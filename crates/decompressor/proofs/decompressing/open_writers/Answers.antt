use Rattle.std.proofs.Common.{◌≡◌, ℕ, ◌∙◌, Bool, true, false, ap, sym, rules, arith}
use Rattle.std.specs.Prelude.{filter, not}
use Rattle.std.specs.List.{list_any, range_with_len}
use Rattle.checkpoint_io.specs.declared.header.Header.{Header}
use Rattle.checkpoint_io.specs.Validity.{closes}
use Rattle.decompressor.proofs.Unclosed.{one_passes, one_fails}
use Rattle.decompressor.proofs.decompressing.open_writers.Goals as goal
use Rattle.decompressor.proofs.decompressing.open_writers.Goals.{then-not-is_closed+in_ok-push, else-not-is_closed}

pub loop-writer-preserved : goal.loop-writer-preserved
loop-writer-preserved c taken read =
    let test : ℕ → Bool = λ writer. not (list_any (closes writer) read.blocks) in
    let so_far = c.loop-writer.invariant taken read in
    let told = c.is_closed.ensures.closed taken read in
    elim c.if-not-is_closed.branch [
      | then-not-is_closed+in_ok-push w ↦
          let unclosed : c.is_closed.result ≡ false = search rules in
          one_passes test c.loop-writer.writer c.loop-writer.unclosed c.if-not-is_closed.unclosed so_far (ap not (sym told ∙ unclosed)) (search rules)
      | else-not-is_closed w ↦
          let closed : c.is_closed.result ≡ true = search rules in
          one_fails test c.loop-writer.writer c.loop-writer.unclosed c.if-not-is_closed.unclosed so_far (ap not (sym told ∙ closed)) (search rules)
    ]

pub returns : goal.returns
returns c taken read =
    let all : c.loop-writer.writer ≡ c.args.reader.now.header.writers = omega (arith, c.loop-writer-test.false, c.loop-writer.auto.writer-end, ap (λ (h : Header). h.writers) c.header.ensures) in
    c.loop-writer.invariant taken read ∙ ap (λ (n : ℕ). filter (λ writer. not (list_any (closes writer) read.blocks)) (range_with_len 0 n)) all
