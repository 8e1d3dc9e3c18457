-- What a word of the table that changes does to the ring that the words lay out.
use Rattle.std.proofs.Common.{◌≡◌, ℕ, ◌+◌, ◌<◌, List, length, get_or, set, sym, ap, ◌∙◌, inl, inr, get_or-set_same, get_or-set_other, arith}
use Rattle.std.proofs.lemmas.Bool.{cases_eq}
use Rattle.std.proofs.lemmas.List.{length-set}
use Rattle.ring_machine.specs.RingStates.{RingState}
use Rattle.word_ring.specs.declared.places.TheConstants.{PRODUCER, CONSUMER, DATA}
use Rattle.word_ring.specs.Rule.{producer_word, LaysOut}

-- the producer word is stored
pub produced : (size : ℕ) (words : List ℕ) (ring next : RingState) (word : ℕ) → LaysOut size words ring
    → next.size ≡ ring.size → next.released ≡ ring.released → next.words ≡ ring.words → word ≡ producer_word next
    → LaysOut size (set words PRODUCER word) next
produced size words ring next word h size_same released_same words_same is =
    let within : PRODUCER < length words = omega (arith, h.long) in
    record {
      size_is = size_same ∙ h.size_is;
      long = length-set words PRODUCER word ∙ h.long;
      producer = get_or-set_same words PRODUCER word 0 within ∙ is;
      consumer = get_or-set_other words PRODUCER CONSUMER word 0 (λ e. omega (arith, e)) ∙ h.consumer ∙ sym released_same;
      stored = λ place in_ring. get_or-set_other words PRODUCER (DATA + place) word 0 (λ e. omega (arith, e)) ∙ h.stored place in_ring
          ∙ ap (λ (ws : List ℕ). get_or ws place 0) (sym words_same);
    }

-- the consumer word is stored
pub consumed : (size : ℕ) (words : List ℕ) (ring next : RingState) (word : ℕ) → LaysOut size words ring
    → next.size ≡ ring.size → producer_word next ≡ producer_word ring → next.words ≡ ring.words → word ≡ next.released
    → LaysOut size (set words CONSUMER word) next
consumed size words ring next word h size_same producer_same words_same is =
    let within : CONSUMER < length words = omega (arith, h.long) in
    record {
      size_is = size_same ∙ h.size_is;
      long = length-set words CONSUMER word ∙ h.long;
      producer = get_or-set_other words CONSUMER PRODUCER word 0 (λ e. omega (arith, e)) ∙ h.producer ∙ sym producer_same;
      consumer = get_or-set_same words CONSUMER word 0 within ∙ is;
      stored = λ place in_ring. get_or-set_other words CONSUMER (DATA + place) word 0 (λ e. omega (arith, e)) ∙ h.stored place in_ring
          ∙ ap (λ (ws : List ℕ). get_or ws place 0) (sym words_same);
    }

-- a data word is stored
pub data_stored : (size : ℕ) (words : List ℕ) (ring next : RingState) (at word : ℕ) → LaysOut size words ring → at < size
    → length ring.words ≡ ring.size → next.size ≡ ring.size → producer_word next ≡ producer_word ring → next.released ≡ ring.released
    → next.words ≡ set ring.words at word → LaysOut size (set words (DATA + at) word) next
data_stored size words ring next at word h in_ring long size_same producer_same released_same is =
    let within : DATA + at < length words = omega (arith, h.long, in_ring) in
    let there : at < length ring.words = omega (arith, long, h.size_is, in_ring) in
    record {
      size_is = size_same ∙ h.size_is;
      long = length-set words (DATA + at) word ∙ h.long;
      producer = get_or-set_other words (DATA + at) PRODUCER word 0 (λ e. omega (arith, e)) ∙ h.producer ∙ sym producer_same;
      consumer = get_or-set_other words (DATA + at) CONSUMER word 0 (λ e. omega (arith, e)) ∙ h.consumer ∙ sym released_same;
      stored = λ place inside. elim (cases_eq place at) [
        | inl same ↦
            let here : DATA + place ≡ DATA + at = omega (arith, same) in
            ap (λ (i : ℕ). get_or (set words (DATA + at) word) i 0) here ∙ get_or-set_same words (DATA + at) word 0 within
            ∙ sym (ap (λ (i : ℕ). get_or (set ring.words at word) i 0) same ∙ get_or-set_same ring.words at word 0 there)
            ∙ ap (λ (ws : List ℕ). get_or ws place 0) (sym is)
        | inr apart ↦
            get_or-set_other words (DATA + at) (DATA + place) word 0 (λ e. apart (omega (arith, e))) ∙ h.stored place inside
            ∙ sym (get_or-set_other ring.words at place word 0 (λ e. apart (omega (arith, e))))
            ∙ ap (λ (ws : List ℕ). get_or ws place 0) (sym is)
      ];
    }
