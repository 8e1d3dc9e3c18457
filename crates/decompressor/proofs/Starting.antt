-- Behind the header nothing is printed, and nothing waits.
use Rattle.std.proofs.Common.{◌≡◌, ℕ, zero, suc, ◌+◌, ◌<◌, false, List, [], ◌∷◌, length, drop, replicate, refl, ap, sym, subst, ◌∙◌, arith}
use Rattle.std.specs.Prelude.{filter}
use Rattle.std.specs.List.{flat_map, range_with_len}
use Rattle.std.proofs.lemmas.List.{length-replicate, get_or-replicate}
use Rattle.log_dictionary.specs.declared.message.Message.{Message}
use Rattle.log_dictionary.specs.Calls.{LogCall}
use Rattle.arg_records.specs.declared.call.Call.{Call}
use Rattle.checkpoint_io.specs.declared.header.Header.{Header}
use Rattle.checkpoint_io.specs.Blocks.{Block}
use Rattle.checkpoint_io.specs.Readers.{ReaderState, StandsFor}
use Rattle.stamp_merge.specs.declared.merger.ListState.{ListState}
use Rattle.stamp_merge.specs.Ordering.{in_order_by}
use Rattle.stamp_merge.specs.Mergers.{fresh_list, no_list}
use Rattle.direct_printf.specs.Lines.{in_order, Direct}
use Rattle.decompressor.specs.Decompression.{CallsOf, lines_of}
use Rattle.decompressor.specs.Settling.{closed_by, is_settled, settled_calls, settled_text}
use Rattle.decompressor.specs.Waiting.{QueueState, HoldsRecords, list_of, HasHeads, no_queue, queue_at, AreHeld}
use Rattle.decompressor.specs.Decompressors.{AreWaiting, HasPrinted}

no_calls : (from n : ℕ) → flat_map (CallsOf []) (range_with_len from n) ≡ []
no_calls from zero = refl
no_calls from (suc n) = no_calls (from + 1) n

none_settled : (header : Header) → settled_calls header [] ≡ []
none_settled header = ap (filter (is_settled header [])) (no_calls 0 header.writers)

no_text : (header : Header) → lines_of header [] [] ≡ []
unfolding in_order_by Direct
no_text header = refl

nothing_behind : {A : Type 0} (n : ℕ) (xs : List A) → xs ≡ [] → drop n xs ≡ []
nothing_behind zero xs none = none
nothing_behind (suc n) [] none = refl
nothing_behind (suc n) (x ∷ xs) none = cc

none_wait : (header : Header) (printed : List LogCall) → AreWaiting header [] printed (replicate header.writers [])
none_wait header printed = record {
  count = length-replicate header.writers [];
  each = λ w known. get_or-replicate header.writers w [] [] known ∙ sym (nothing_behind _ _ refl);
}

fresh_heads : (n : ℕ) → HasHeads (closed_by []) (replicate n fresh_list) (replicate n [])
fresh_heads n = record {
  many = length-replicate n fresh_list ∙ sym (length-replicate n []);
  each = λ w known.
      let below : w < n = omega (arith, known, length-replicate {A = List Call} n []) in
      get_or-replicate n w fresh_list no_list below ∙ ap (list_of false) (sym (get_or-replicate {A = List Call} n w [] [] below));
}

none_held : (messages : List Message) (tick n : ℕ) → AreHeld messages tick (replicate n no_queue) (replicate n [])
none_held messages tick n = record {
  many = length-replicate n no_queue ∙ sym (length-replicate n []);
  each = λ w known.
      let below : w < n = omega (arith, known, length-replicate {A = List Call} n []) in
      subst (HoldsRecords messages tick (queue_at (replicate n no_queue) w)) (sym (get_or-replicate {A = List Call} n w [] [] below)) (ap (λ (q : QueueState). q.bodies) (get_or-replicate n w no_queue no_queue below));
}

pub started : (reader : ReaderState) (taken : List ℕ) (waiting : List QueueState) (lists : List ListState) → reader.failed ≡ false → (read : StandsFor reader taken) → read.blocks ≡ [] → waiting ≡ replicate reader.header.writers no_queue → lists ≡ replicate reader.header.writers fresh_list
    → (printed : HasPrinted (record { reader = reader; waiting = waiting; lists = lists; lines = 0 }) taken []) × (printed.read.blocks ≡ [])
started reader taken waiting lists right read none waiting_is lists_is = (
  record {
    right = right;
    read = read;
    text_is = sym (ap (λ (bs : List Block). settled_text reader.header bs) none ∙ ap (lines_of reader.header []) (none_settled reader.header) ∙ no_text reader.header);
    lines = sym (ap (λ (bs : List Block). length (settled_calls reader.header bs)) none ∙ ap length (none_settled reader.header));
    records = replicate reader.header.writers [];
    are_waiting = subst (λ (bs : List Block). AreWaiting reader.header bs (in_order (settled_calls reader.header bs)) (replicate reader.header.writers [])) (sym none) (none_wait reader.header (in_order (settled_calls reader.header [])));
    shown = record {
      held = subst (λ (queues : List QueueState). AreHeld reader.messages reader.header.clock.tick queues (replicate reader.header.writers [])) (sym waiting_is) (none_held reader.messages reader.header.clock.tick reader.header.writers);
      heads = subst (λ (bs : List Block). HasHeads (closed_by bs) lists (replicate reader.header.writers [])) (sym none)
          (subst (λ (ls : List ListState). HasHeads (closed_by []) ls (replicate reader.header.writers [])) (sym lists_is) (fresh_heads reader.header.writers));
    };
  },
  none,
)
