-- The parts of a step: what is printed in it.
use Rattle.std.proofs.Common.{◌≡◌, ℕ, ◌+◌, ◌≤◌, Bool, true, false, cond, List, [], ◌∷◌, ◌++◌, length, Result, Ok, Err, refl, ap, sym, subst, ◌∙◌, arith}
use Rattle.std.specs.Prelude.{filter, ⊤}
use Rattle.std.specs.Result.{IsErrAnd}
use Rattle.nl_io.specs.Content.{Told}
use Rattle.nl_io.proofs.lemmas.Contents.{with_end-none}
use Rattle.checkpoint_io.specs.declared.header.Header.{Header}
use Rattle.checkpoint_io.specs.Blocks.{Block}
use Rattle.checkpoint_io.specs.Validity.{Valid}
use Rattle.checkpoint_io.specs.Readers.{ReaderState}
use Rattle.stamp_merge.specs.declared.merger.ListState.{ListState}
use Rattle.decompressor.specs.declared.fault.DecodeFault.{DecodeFault}
use Rattle.decompressor.specs.declared.fault.DecodeFault.TheVariants.{NoMemory}
use Rattle.decompressor.specs.Decompression.{all_calls}
use Rattle.decompressor.specs.Settling.{is_settled, settled_calls}
use Rattle.decompressor.specs.Waiting.{QueueState, AreShown}
use Rattle.decompressor.specs.Decompressors.{PrinterState, no_more_come, ready_calls, HasMore, CutsMore, PrintsOn, PrintsTo}
use Rattle.decompressor.proofs.Growing.{settled_more}

kept_few : {X : Type 0} (test : X → Bool) (xs : List X) → length (filter test xs) ≤ length xs
kept_few test [] = omega arith
kept_few test (x ∷ xs) = at (test x) (kept_few test xs)
  where
    at : (b : Bool) → length (filter test xs) ≤ length xs → length (cond b (x ∷ filter test xs) (filter test xs)) ≤ length (x ∷ xs)
    at true few = omega (arith, few)
    at false few = omega (arith, few)

ready_few : (ended : Bool) (header : Header) (all : List Block) → length (ready_calls ended header all) ≤ length (all_calls header all)
ready_few true header all = omega arith
ready_few false header all = kept_few (is_settled header all) (all_calls header all)

-- the count of lines fits
pub lines_fit : {ended : Bool} {reader : ReaderState} {first all : List Block} {count lines : ℕ} {was is : Told} {waiting : List QueueState} {lists : List ListState} → count ≡ length (settled_calls reader.header first) → HasMore ended reader first all lines was is waiting lists → length (all_calls reader.header all) ≤ 134217728 → count + lines ≤ 134217728
lines_fit {ended} {reader} {first} {all} counted more few = omega (arith, counted, more.lines_are, ready_few ended reader.header all, few)

pub prints_on : {ended : Bool} {state : PrinterState} {first all : List Block} {lines : ℕ} {was is : Told} {waiting changed : List QueueState} {lists : List ListState} → state.lines ≡ length (settled_calls state.reader.header first)
    → HasMore ended state.reader first all lines was is waiting lists → changed ≡ waiting → PrintsOn ended state (record { reader = state.reader; waiting = changed; lists = lists; lines = state.lines + lines }) first all was is
prints_on {ended} {state} {first} {all} {lines} {lists = lists} counted more same = record {
  text = more.text;
  put = more.put;
  joined = more.joined;
  lines = ap (λ (n : ℕ). n + lines) counted ∙ more.lines_are;
  records = more.records;
  are_waiting = more.are_waiting;
  shown = subst (λ (queues : List QueueState). AreShown (no_more_come ended all) state.reader queues lists more.records) (sym same) more.shown;
}

pub prints_cut : {ended : Bool} (state new : PrinterState) {first all : List Block} {was is : Told} {before after : ℕ} (result : Result ⊤ DecodeFault) {fault : DecodeFault} → IsErrAnd result (λ e. e ≡ fault) → CutsMore ended state.reader.header first all was is before after fault → PrintsTo ended state new first all was is before after result
prints_cut state new (Ok done) err cut = absurd err
prints_cut {ended} state new {first} {all} {was} {is} {before} {after} (Err e) err cut = subst (CutsMore ended state.reader.header first all was is before after) (sym err) cut

-- memory was wanting before anything was printed
pub none_put : {header : Header} (first : List Block) (block : Block) {was : Told} {before : ℕ} → Valid header (first ++ block ∷ []) → CutsMore false header first (first ++ block ∷ []) was was before before NoMemory
none_put {header} first block {was} valid =
    let on = settled_more header first (block ∷ []) valid in
    record { rest = on.0; joined = on.1; cut = ((0, omega arith, with_end-none on.0 was), refl) }
