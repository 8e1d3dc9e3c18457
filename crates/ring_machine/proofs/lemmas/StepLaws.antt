-- What each step leaves of what holds of a ring.
use Rattle.std.proofs.Common.{◌≡◌, ◌≢◌, ℕ, ◌+◌, ◌%◌, ◌<◌, ◌≤◌, true, false, List, [], ◌∷◌, ◌++◌, length, get_or, set, refl, sym, ap, ◌∙◌, subst, append_assoc, append-nil, length-append, get_or-set_same, get_or-set_other, true≢false, inl, inr, arith}
use Rattle.std.proofs.lemmas.List.{length-set, length-replicate}
use Rattle.ring_machine.specs.declared.steps.StepKind.TheVariants as steps
use Rattle.ring_machine.specs.Streams.{Walk, start, walk_from, walk, onward, FitsWithin, IsStream, IsBegun, FrameEndsAt}
use Rattle.ring_machine.specs.RingStates.{RingState, new_ring, written, taken, HoldsUnreleased, RingOk}
use Rattle.ring_machine.specs.Steps.{stored, next_word, after_step}
use Rattle.ring_machine.proofs.lemmas.Walks.{FitsWithin-may, FitsWithin-behind, IsWithin, onward-at, onward-within, walk-push, walk_from-append, walk_from-at_more, front_before, AllMayCome-push, AllMayCome-at}
use Rattle.ring_machine.proofs.Places.{places_apart, among_more}

-- a frame that was begun, where the limit rises
begun_further : (size limit further : ℕ) (w : Walk) → IsBegun size limit w → limit ≤ further → IsBegun size further w
begun_further size limit further w b more = record { begin = b.begin; at_is = b.at_is; short = b.short; inside = b.inside; room = omega (arith, b.room, more) }

-- an end of a stream is one of the longer stream
end_further : (size : ℕ) (words more : List ℕ) (position : ℕ) → FrameEndsAt size words position → FrameEndsAt size (words ++ more) position
end_further size words more position e = record {
  front = e.front;
  back = e.back ++ more;
  words_are = ap (λ (ws : List ℕ). ws ++ more) e.words_are ∙ append_assoc e.front e.back more;
  at_is = e.at_is;
  whole = e.whole;
}

-- ---- a new ring

pub RingOk-new : (size : ℕ) → 1 ≤ size → RingOk (new_ring size)
RingOk-new size some =
    let end : FrameEndsAt size [] 0 = record { front = []; back = []; words_are = refl; at_is = refl; whole = refl } in record {
      size = some;
      words = length-replicate size 0;
      order = record { seen_released = omega arith; released_read = omega arith; read_loaded = omega arith; loaded_published = omega arith; published_written = omega arith; room = omega arith };
      producer = refl;
      producer_bit = refl;
      consumer = refl;
      read_front = record { rest = []; words_are = refl };
      frames = tt;
      storing = λ part. absurd (part refl);
      reading = λ part. absurd (part refl);
      published_end = end;
      loaded_end = end;
      released_end = end;
      holds = λ front back word e _. absurd (omega (arith, length-append front (word ∷ back), ap (λ (ws : List ℕ). length ws) e));
      bits = record { closed_written = λ e. absurd (true≢false (sym e)); learnt_closed = λ e. absurd (true≢false (sym e)); learnt_loaded = λ e. absurd (true≢false (sym e)) };
    }

-- ---- the writer's steps

pub RingOk-look : (s : RingState) → RingOk s → RingOk (after_step s steps.Look)
RingOk-look s h =
    let o = h.order in record {
      size = h.size;
      words = h.words;
      order = record { seen_released = omega arith; released_read = o.released_read; read_loaded = o.read_loaded; loaded_published = o.loaded_published; published_written = o.published_written; room = omega (arith, o.room, o.seen_released) };
      producer = h.producer;
      producer_bit = h.producer_bit;
      consumer = h.consumer;
      read_front = h.read_front;
      frames = h.frames;
      storing = λ part. begun_further s.size (s.writer.seen + s.size) (s.released + s.size) (written s) (h.storing part) (omega (arith, o.seen_released));
      reading = h.reading;
      published_end = h.published_end;
      loaded_end = h.loaded_end;
      released_end = h.released_end;
      holds = h.holds;
      bits = h.bits;
    }

-- the word that is stored takes a place that no word holds that isn't released
holds_stored : (s : RingState) (word : ℕ) → RingOk s → (written s).at < s.writer.seen + s.size → HoldsUnreleased (stored s word)
holds_stored s word h room front back held e low =
    let o = h.order in
    let place : ℕ = (written s).at % s.size in
    let within : place < length s.words = omega (arith, h.words, h.size) in
    elim (among_more s.writer.stream word front back held e) [
      | inl last ↦ subst (λ (f : List ℕ). get_or (set s.words place word) ((walk s.size f).at % s.size) 0 ≡ held) last.0 (get_or-set_same s.words place word 0 within ∙ last.1)
      | inr other ↦
          let before : (walk s.size front).at < (written s).at =
          omega (arith, walk_from-at_more s.size (walk s.size front) held other.0 h.size, ap (λ (v : Walk). v.at) (ap (walk s.size) other.1 ∙ walk_from-append s.size start front (held ∷ other.0))) in
          let apart = places_apart (walk s.size front).at (written s).at s.size before (omega (arith, room, o.seen_released, low)) in
          get_or-set_other s.words place ((walk s.size front).at % s.size) word 0 apart ∙ h.holds front other.0 held other.1 low
    ]

pub RingOk-stored : (s : RingState) (word : ℕ) → RingOk s → s.writer.closed ≡ false → FitsWithin s.size (s.writer.seen + s.size) (written s) word → RingOk (stored s word)
RingOk-stored s word h unbarred fits =
    let o = h.order in
    let limit : ℕ = s.writer.seen + s.size in
    let push = walk-push s.size s.writer.stream word in
    let further = onward-at s.size (written s) word h.size in
    let within : IsWithin s.size limit (written (stored s word)) = subst (IsWithin s.size limit) (sym push) (onward-within s.size limit (written s) word fits h.storing) in
    let at : (written (stored s word)).at ≡ (onward s.size (written s) word).at = ap (λ (v : Walk). v.at) push in
    let not_closed : s.closed ≡ true → ⊥ = λ e. true≢false (sym e ∙ sym h.producer_bit ∙ unbarred) in
    let room : (written s).at < limit = omega (arith, further, at, within.at) in record {
      size = h.size;
      words = length-set s.words ((written s).at % s.size) word ∙ h.words;
      order = record { seen_released = o.seen_released; released_read = o.released_read; read_loaded = o.read_loaded; loaded_published = o.loaded_published; published_written = omega (arith, o.published_written, further, at); room = within.at };
      producer = h.producer;
      producer_bit = h.producer_bit;
      consumer = h.consumer;
      read_front = record {
        rest = h.read_front.rest ++ word ∷ [];
        words_are = ap (λ (ws : List ℕ). ws ++ word ∷ []) h.read_front.words_are ∙ append_assoc s.roamer.stream h.read_front.rest (word ∷ []);
      };
      frames = AllMayCome-push s.size start s.writer.stream word h.frames (FitsWithin-may s.size limit (written s) word fits);
      storing = within.begun;
      reading = h.reading;
      published_end = end_further s.size s.writer.stream (word ∷ []) s.published h.published_end;
      loaded_end = end_further s.size s.writer.stream (word ∷ []) s.roamer.loaded h.loaded_end;
      released_end = end_further s.size s.writer.stream (word ∷ []) s.released h.released_end;
      holds = holds_stored s word h room;
      bits = record { closed_written = λ e. absurd (not_closed e); learnt_closed = h.bits.learnt_closed; learnt_loaded = h.bits.learnt_loaded };
    }

pub RingOk-publish : (s : RingState) → RingOk s → s.writer.closed ≡ false → (written s).part ≡ [] → RingOk (after_step s steps.Publish)
RingOk-publish s h unbarred whole =
    let o = h.order in
    let not_closed : s.closed ≡ true → ⊥ = λ e. true≢false (sym e ∙ sym h.producer_bit ∙ unbarred) in record {
      size = h.size;
      words = h.words;
      order = record { seen_released = o.seen_released; released_read = o.released_read; read_loaded = o.read_loaded; loaded_published = omega (arith, o.loaded_published, o.published_written); published_written = omega arith; room = o.room };
      producer = refl;
      producer_bit = h.producer_bit;
      consumer = h.consumer;
      read_front = h.read_front;
      frames = h.frames;
      storing = h.storing;
      reading = h.reading;
      published_end = record { front = s.writer.stream; back = []; words_are = sym (append-nil s.writer.stream); at_is = refl; whole = whole };
      loaded_end = h.loaded_end;
      released_end = h.released_end;
      holds = h.holds;
      bits = record { closed_written = λ e. refl; learnt_closed = h.bits.learnt_closed; learnt_loaded = λ e. absurd (not_closed (h.bits.learnt_closed e)) };
    }

pub RingOk-close : (s : RingState) → RingOk s → s.writer.closed ≡ false → s.writer.published ≡ (written s).at → RingOk (after_step s steps.Close)
RingOk-close s h unbarred all = record {
  size = h.size;
  words = h.words;
  order = h.order;
  producer = h.producer;
  producer_bit = refl;
  consumer = h.consumer;
  read_front = h.read_front;
  frames = h.frames;
  storing = h.storing;
  reading = h.reading;
  published_end = h.published_end;
  loaded_end = h.loaded_end;
  released_end = h.released_end;
  holds = h.holds;
  bits = record { closed_written = λ _. sym all ∙ h.producer; learnt_closed = λ _. refl; learnt_loaded = h.bits.learnt_loaded };
}

-- ---- the roamer's steps

pub RingOk-load : (s : RingState) → RingOk s → RingOk (after_step s steps.Load)
RingOk-load s h =
    let o = h.order in record {
      size = h.size;
      words = h.words;
      order = record { seen_released = o.seen_released; released_read = o.released_read; read_loaded = omega (arith, o.read_loaded, o.loaded_published); loaded_published = omega arith; published_written = o.published_written; room = o.room };
      producer = h.producer;
      producer_bit = h.producer_bit;
      consumer = h.consumer;
      read_front = h.read_front;
      frames = h.frames;
      storing = h.storing;
      reading = λ part. begun_further s.size s.roamer.loaded s.published (taken s) (h.reading part) o.loaded_published;
      published_end = h.published_end;
      loaded_end = h.published_end;
      released_end = h.released_end;
      holds = h.holds;
      bits = record { closed_written = h.bits.closed_written; learnt_closed = λ e. e; learnt_loaded = λ _. refl };
    }

-- the word that is read is the next one of the writer's stream, and what it begins is loaded whole
pub record ReadsNext (s : RingState) (word : ℕ) : Type 0 where
  pub behind : List ℕ
  pub words_are : s.writer.stream ≡ s.roamer.stream ++ word ∷ behind
  pub is : next_word s ≡ word
  pub fits : FitsWithin s.size s.roamer.loaded (taken s) word

pub reads_next : (s : RingState) → RingOk s → s.roamer.loaded ≢ (taken s).at → (word : ℕ) × ReadsNext s word
reads_next s h left =
    let o = h.order in
    let e = h.loaded_end in
    let more = front_before s.size s.roamer.stream h.read_front.rest e.front e.back h.size (sym h.read_front.words_are ∙ e.words_are) (omega (arith, o.read_loaded, left, e.at_is)) in
    let word : ℕ = more.0 in
    let mid : List ℕ = more.1 in
    let words : s.writer.stream ≡ s.roamer.stream ++ word ∷ (mid ++ e.back) = h.read_front.words_are ∙ ap (λ (ws : List ℕ). s.roamer.stream ++ ws) more.3 in
    let whole : walk s.size e.front ≡ walk_from s.size (onward s.size (taken s) word) mid = ap (walk s.size) more.2 ∙ walk_from-append s.size start s.roamer.stream (word ∷ mid) in
    let may = AllMayCome-at s.size start s.roamer.stream word (mid ++ e.back) (subst (IsStream s.size) words h.frames) in
    let fits = FitsWithin-behind s.size (taken s) word mid h.size may (sym (ap (λ (v : Walk). v.part) whole) ∙ e.whole) in (
      word,
      record {
        behind = mid ++ e.back;
        words_are = words;
        is = h.holds s.roamer.stream (mid ++ e.back) word words o.released_read;
        fits = subst (λ (limit : ℕ). FitsWithin s.size limit (taken s) word) (sym (ap (λ (v : Walk). v.at) whole) ∙ e.at_is) fits;
      },
    )

pub RingOk-read : (s : RingState) → RingOk s → s.roamer.loaded ≢ (taken s).at → RingOk (after_step s steps.Read)
RingOk-read s h left =
    let o = h.order in
    let next = reads_next s h left in
    let word : ℕ = next_word s in
    let fits : FitsWithin s.size s.roamer.loaded (taken s) word = subst (FitsWithin s.size s.roamer.loaded (taken s)) (sym next.1.is) next.1.fits in
    let push = walk-push s.size s.roamer.stream word in
    let further = onward-at s.size (taken s) word h.size in
    let within : IsWithin s.size s.roamer.loaded (walk s.size (s.roamer.stream ++ word ∷ [])) =
    subst (IsWithin s.size s.roamer.loaded) (sym push) (onward-within s.size s.roamer.loaded (taken s) word fits h.reading) in
    let at : (walk s.size (s.roamer.stream ++ word ∷ [])).at ≡ (onward s.size (taken s) word).at = ap (λ (v : Walk). v.at) push in record {
      size = h.size;
      words = h.words;
      order = record { seen_released = o.seen_released; released_read = omega (arith, o.released_read, further, at); read_loaded = within.at; loaded_published = o.loaded_published; published_written = o.published_written; room = o.room };
      producer = h.producer;
      producer_bit = h.producer_bit;
      consumer = h.consumer;
      read_front = record {
        rest = next.1.behind;
        words_are = next.1.words_are ∙ ap (λ (n : ℕ). s.roamer.stream ++ n ∷ next.1.behind) (sym next.1.is) ∙ sym (append_assoc s.roamer.stream (word ∷ []) next.1.behind);
      };
      frames = h.frames;
      storing = h.storing;
      reading = within.begun;
      published_end = h.published_end;
      loaded_end = h.loaded_end;
      released_end = h.released_end;
      holds = h.holds;
      bits = h.bits;
    }

pub RingOk-release : (s : RingState) → RingOk s → (taken s).part ≡ [] → RingOk (after_step s steps.Release)
RingOk-release s h whole =
    let o = h.order in record {
      size = h.size;
      words = h.words;
      order = record { seen_released = omega (arith, o.seen_released, o.released_read); released_read = omega arith; read_loaded = o.read_loaded; loaded_published = o.loaded_published; published_written = o.published_written; room = o.room };
      producer = h.producer;
      producer_bit = h.producer_bit;
      consumer = refl;
      read_front = h.read_front;
      frames = h.frames;
      storing = h.storing;
      reading = h.reading;
      published_end = h.published_end;
      loaded_end = h.loaded_end;
      released_end = record { front = s.roamer.stream; back = h.read_front.rest; words_are = h.read_front.words_are; at_is = refl; whole = whole };
      holds = λ front back word e low. h.holds front back word e (omega (arith, o.released_read, low));
      bits = h.bits;
    }
