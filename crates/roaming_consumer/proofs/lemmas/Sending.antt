-- What a sink took in several calls, one after another.
use Rattle.std.proofs.Common.{◌≡◌, ℕ, ◌≤◌, List, ◌++◌, length, take, drop, refl, sym, ap, subst, ◌∙◌, append_assoc, arith}
use Rattle.std.proofs.lemmas.List.{take_at}
use Rattle.std.specs.Prelude.{Result, Ok, Err, IsErr, is_err, OnOk, OnErr, true, false}
use Rattle.nl_io.specs.Count.{Rose}
use Rattle.nl_io.specs.Content.{Told, with_end, PutsFront}
use Rattle.nl_io.proofs.lemmas.Contents.{with_end-both, front-first, front-second}
use Rattle.log_dictionary.specs.declared.clock.Clock.{Clock}
use Rattle.log_dictionary.specs.declared.message.Message.{Message}
use Rattle.checkpoint_io.specs.Blocks.{extent_head_bytes}
use Rattle.roaming_consumer.specs.Growth.{clocks_bytes, FragmentsFor}
use Rattle.roaming_consumer.specs.Sinks.{Sends, SendsFragments, SendsExtent}

-- what was put in front of a buffer
pub put_front : (bytes rest into : List ℕ) (len size : ℕ) → into ≡ bytes ++ rest → len ≡ size → length bytes ≡ size → take len into ≡ bytes
put_front bytes rest into len size put is long = ap (take len) put ∙ take_at bytes rest len (long ∙ sym is)

-- behind bytes that went out
pub sends_then : {T E : Type 0} (r : Result T E) (front back : List ℕ) (p q s : Told) (f g h : ℕ) → q ≡ with_end front p → g ≡ f → Sends r back q s g h → Sends r (front ++ back) p s f h
sends_then (Ok x) front back p q s f g h first same sent = record {
  ok = sent.ok ∙ ap (with_end back) first ∙ with_end-both front back p;
  counted = sent.counted ∙ same;
  err = tt;
  cause = tt;
  count = omega (arith, same, sent.count);
}
sends_then (Err e) front back p q s f g h first same sent = record {
  ok = tt;
  counted = tt;
  err = front-second front back p q s first sent.err;
  cause = subst (λ (n : ℕ). Rose n h) same sent.cause;
  count = omega (arith, same, sent.count);
}

-- where a call failed nothing more is written
pub sends_stop : {T E : Type 0} (r : Result T E) (front back : List ℕ) (p q : Told) (f g : ℕ) → IsErr r → PutsFront front p q → Rose f g → f ≤ g → Sends r (front ++ back) p q f g
sends_stop (Ok x) front back p q f g failed puts rose count = absurd cc
sends_stop (Err e) front back p q f g failed puts rose count = record {
  ok = tt;
  counted = tt;
  err = front-first front back p q puts;
  cause = rose;
  count = count;
}

-- what one call of `write_all` does
pub sends_all : {T E : Type 0} (r : Result T E) (bytes : List ℕ) (p q : Told) (f g : ℕ) → OnOk r (q ≡ with_end bytes p) → OnOk r (g ≡ f) → OnErr r (PutsFront bytes p q) → OnErr r (Rose f g) → f ≤ g → Sends r bytes p q f g
sends_all r bytes p q f g ok counted err cause count = record { ok = ok; counted = counted; err = err; cause = cause; count = count }

-- what a call that failed did
pub sends_err : {T E : Type 0} (r : Result T E) (bytes : List ℕ) (p q : Told) (f g : ℕ) → IsErr r → PutsFront bytes p q → Rose f g → f ≤ g → Sends r bytes p q f g
sends_err (Ok x) bytes p q f g failed puts rose count = absurd cc
sends_err (Err e) bytes p q f g failed puts rose count = record { ok = tt; counted = tt; err = puts; cause = rose; count = count }

-- ---- an extent, and its preface in front

-- the clocks, the fragments and the extent
pub extent_of : {T E : Type 0} (r : Result T E) (clocks : List Clock) (dictionary : List Message) (version first end writer : ℕ) (body fragments : List ℕ) (p q : Told) (f g : ℕ) → FragmentsFor first (drop first (take end dictionary)) fragments → Sends r (clocks_bytes clocks ++ (fragments ++ (extent_head_bytes version writer (length body) ++ body))) p q f g
    → SendsExtent r clocks dictionary version first end writer body p q f g
extent_of r clocks dictionary version first end writer body fragments p q f g defining sent = record {
  preface = clocks_bytes clocks ++ fragments;
  spelled = record { fragments = fragments; defining = defining; joined = refl };
  sent = subst (λ (l : List ℕ). Sends r l p q f g) (sym (append_assoc (clocks_bytes clocks) fragments (extent_head_bytes version writer (length body) ++ body))) sent;
}

-- the clocks failed
pub clocks_stop : {T E U F : Type 0} (r : Result T E) (e : F) (clocks : List Clock) (dictionary : List Message) (version first end writer : ℕ) (body fragments : List ℕ) (p q : Told) (f g : ℕ) → IsErr r → FragmentsFor first (drop first (take end dictionary)) fragments → Sends {T = U} (Err e) (clocks_bytes clocks) p q f g
    → SendsExtent r clocks dictionary version first end writer body p q f g
clocks_stop r e clocks dictionary version first end writer body fragments p q f g failed defining sent =
    extent_of r clocks dictionary version first end writer body fragments p q f g defining
    (sends_stop r (clocks_bytes clocks) (fragments ++ (extent_head_bytes version writer (length body) ++ body)) p q f g failed sent.err sent.cause sent.count)

-- the clocks went out, and the fragments failed
pub fragments_stop : {T E U F : Type 0} (r : Result T E) (e : F) (clocks : List Clock) (dictionary : List Message) (version first end writer : ℕ) (body : List ℕ) (p q s : Told) (f g h : ℕ) → IsErr r → q ≡ with_end (clocks_bytes clocks) p → g ≡ f → SendsFragments {T = U} (Err e) dictionary first end q s g h
    → SendsExtent r clocks dictionary version first end writer body p s f h
fragments_stop r e clocks dictionary version first end writer body p q s f g h failed clocks_out same sent =
    let extent = extent_head_bytes version writer (length body) ++ body in
    extent_of r clocks dictionary version first end writer body sent.bytes p s f h sent.spelled
    (sends_then r (clocks_bytes clocks) (sent.bytes ++ extent) p q s f g h clocks_out same (sends_stop r sent.bytes extent q s g h failed sent.sent.err sent.sent.cause sent.sent.count))

-- the clocks and the fragments went out
pub extent_behind : {T E U F : Type 0} (r : Result T E) (x : U) (clocks : List Clock) (dictionary : List Message) (version first end writer : ℕ) (body : List ℕ) (p q s t : Told) (f g h i : ℕ) → q ≡ with_end (clocks_bytes clocks) p → g ≡ f → SendsFragments {E = F} (Ok x) dictionary first end q s g h → Sends r (extent_head_bytes version writer (length body) ++ body) s t h i
    → SendsExtent r clocks dictionary version first end writer body p t f i
extent_behind r x clocks dictionary version first end writer body p q s t f g h i clocks_out same sent put =
    let extent = extent_head_bytes version writer (length body) ++ body in
    extent_of r clocks dictionary version first end writer body sent.bytes p t f i sent.spelled
    (sends_then r (clocks_bytes clocks) (sent.bytes ++ extent) p q t f g i clocks_out same (sends_then r sent.bytes extent q s t g h i sent.sent.ok sent.sent.counted put))

-- a call that didn't fail
pub sent_whole : {T E : Type 0} (r : Result T E) (bytes : List ℕ) (p q : Told) (f g : ℕ) → false ≡ is_err r → Sends r bytes p q f g → q ≡ with_end bytes p
sent_whole (Ok x) bytes p q f g passed sent = sent.ok
sent_whole (Err e) bytes p q f g passed sent = absurd cc

-- what holds of an answer that is Ok
pub ok_of : {T E P : Type 0} (r : Result T E) → false ≡ is_err r → OnOk r P → P
ok_of (Ok x) passed holds = holds
ok_of (Err e) passed holds = absurd cc

-- what holds of an answer that is Err
pub err_of : {T E P : Type 0} (r : Result T E) → true ≡ is_err r → OnErr r P → P
err_of (Ok x) failed holds = absurd cc
err_of (Err e) failed holds = holds
