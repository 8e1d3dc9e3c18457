-- A text on its way grows, is cut off, or is put whole.
use Rattle.std.proofs.Common.{◌≡◌, ◌≢◌, ℕ, ◌+◌, ◌<◌, ◌≤◌, List, [], ◌∷◌, ◌++◌, length, get_or, take, drop, Result, Ok, Err, refl, sym, ap, subst, ◌∙◌, append_assoc}
use Rattle.std.specs.Prelude.{OnOk, OnErr}
use Rattle.std.specs.Borrow.{Bor}
use Rattle.std.proofs.lemmas.List.{append-nil, take_more, take-append-drop}
use Rattle.std.proofs.lemmas.Grind.{flat_map-append}
use Rattle.nl_io.specs.declared.failed.Failed.{Failed}
use Rattle.nl_io.specs.Count.{Rose}
use Rattle.nl_io.specs.Content.{Told, with_end, PutsFront}
use Rattle.nl_io.specs.TextWriters.{Carries, IsCutOff, text_of_pieces}
use Rattle.nl_io.proofs.lemmas.Contents.{with_end-none, with_end-both, front-first, front-second, front-whole}

-- ---- texts in which there is something

pub filled-left : (a b : List ℕ) → a ≢ [] → a ++ b ≢ []
filled-left [] b some = absurd (some refl)
filled-left (x ∷ a) b some = λ none. cc

filled-right : (a b : List ℕ) → b ≢ [] → a ++ b ≢ []
filled-right [] b some = some
filled-right (x ∷ a) b some = λ none. cc

-- where something was held back, there is something in the text
text_filled : (whole text more front held : List ℕ) → whole ≡ text ++ more → front ++ held ≡ text → held ≢ [] → whole ≢ []
text_filled whole text more front held joined is some = λ none. filled-left (front ++ held) more (filled-right front held some) (ap (λ (t : List ℕ). t ++ more) is ∙ sym joined ∙ none)

-- ---- a text that grows

-- all of the text is held back
pub carries_held : (text held : List ℕ) (was : Told) → held ≡ text → Carries text was was held
carries_held text held was is = record { front = []; put = with_end-none [] was; joined = is }

-- the bytes were put behind the text, or are held back
pub carries_more : (whole text bytes held left : List ℕ) (was mid is : Told) → whole ≡ text ++ bytes → Carries text was mid held → Carries (held ++ bytes) mid is left → Carries whole was is left
carries_more whole text bytes held left was mid is joined before more = record {
  front = before.front ++ more.front;
  put = more.put ∙ ap (with_end more.front) before.put ∙ with_end-both before.front more.front was;
  joined =
      append_assoc before.front more.front left
      ∙ ap (λ (b : List ℕ). before.front ++ b) more.joined
      ∙ sym (append_assoc before.front held bytes)
      ∙ ap (λ (b : List ℕ). b ++ bytes) before.joined
      ∙ sym joined;
}

-- ---- a text that is put whole

-- what was held back was put
pub carries_all : (text held : List ℕ) (was mid is : Told) → Carries text was mid held → is ≡ with_end held mid → is ≡ with_end text was
carries_all text held was mid is before put =
    put ∙ ap (with_end held) before.put ∙ with_end-both before.front held was ∙ ap (λ (b : List ℕ). with_end b was) before.joined

-- ---- a text that is cut off

-- what was put is a front of the text, and of any that goes on so
pub carries_front : (whole text more held : List ℕ) (was is : Told) → whole ≡ text ++ more → Carries text was is held → PutsFront whole was is
carries_front whole text more held was is joined before =
    let front = front-first before.front held was is (front-whole before.front was is before.put) in
    let here : PutsFront text was is = subst (λ (b : List ℕ). PutsFront b was is) before.joined front in
    subst (λ (b : List ℕ). PutsFront b was is) (sym joined) (front-first text more was is here)

-- a front of what was held back was put
pub front_held : (whole text more held : List ℕ) (was mid is : Told) → whole ≡ text ++ more → Carries text was mid held → PutsFront held mid is → PutsFront whole was is
front_held whole text more held was mid is joined carried front =
    let here : PutsFront text was is = subst (λ (b : List ℕ). PutsFront b was is) carried.joined (front-second carried.front held was mid is carried.put front) in
    subst (λ (b : List ℕ). PutsFront b was is) (sym joined) (front-first text more was is here)

-- the text with bytes that are to be put behind it
carries_with : (text bytes held : List ℕ) (was is : Told) → Carries text was is held → Carries (text ++ bytes) was is (held ++ bytes)
carries_with text bytes held was is carried = record {
  front = carried.front;
  put = carried.put;
  joined = sym (append_assoc carried.front held bytes) ∙ ap (λ (b : List ℕ). b ++ bytes) carried.joined;
}

-- a front of what was held back and of the bytes behind it was put
pub front_more : (whole text bytes more held : List ℕ) (was mid is : Told) → whole ≡ text ++ bytes ++ more → Carries text was mid held → PutsFront (held ++ bytes) mid is → PutsFront whole was is
front_more whole text bytes more held was mid is joined carried front = front_held whole (text ++ bytes) more (held ++ bytes) was mid is joined (carries_with text bytes held was mid carried) front

-- what was held back was cut off
pub cut_held : (whole text more held : List ℕ) (was mid is : Told) (before now after : ℕ) → whole ≡ text ++ more → Carries text was mid held → now ≡ before → IsCutOff held mid is now after → IsCutOff whole was is before after
cut_held whole text more held was mid is before now after joined carried same cut =
    subst (λ (n : ℕ). IsCutOff whole was is n after) same
    (record { some = text_filled whole text more carried.front held joined carried.joined cut.some; put = front_held whole text more held was mid is joined carried cut.put; rose = cut.rose; count = cut.count })

-- what was held back and the bytes behind it were cut off
pub cut_more : (whole text bytes more held : List ℕ) (was mid is : Told) (before now after : ℕ) → whole ≡ text ++ bytes ++ more → Carries text was mid held → now ≡ before → IsCutOff (held ++ bytes) mid is now after → IsCutOff whole was is before after
cut_more whole text bytes more held was mid is before now after joined carried same cut =
    cut_held whole (text ++ bytes) more (held ++ bytes) was mid is before now after joined (carries_with text bytes held was mid carried) same cut

-- ---- what is put behind what was held back

-- what was held back was put, and the bytes are held back
pub behind_put : (held bytes left : List ℕ) (was is : Told) → is ≡ with_end held was → left ≡ bytes → Carries (held ++ bytes) was is left
behind_put held bytes left was is put same = record { front = held; put = put; joined = ap (λ (b : List ℕ). held ++ b) same }

-- the bytes were put too
behind_all : (held bytes left : List ℕ) (was mid is : Told) → mid ≡ with_end held was → is ≡ with_end bytes mid → left ≡ [] → Carries (held ++ bytes) was is left
behind_all held bytes left was mid is put more none = record {
  front = held ++ bytes;
  put = more ∙ ap (with_end bytes) put ∙ with_end-both held bytes was;
  joined = ap (λ (b : List ℕ). (held ++ bytes) ++ b) none ∙ append-nil (held ++ bytes);
}

-- what was held back was cut off in front of the bytes
pub cut_before : (held bytes : List ℕ) (was is : Told) (before after : ℕ) → IsCutOff held was is before after → IsCutOff (held ++ bytes) was is before after
cut_before held bytes was is before after cut = record { some = filled-left held bytes cut.some; put = front-first held bytes was is cut.put; rose = cut.rose; count = cut.count }

-- the bytes were cut off
cut_behind : (held bytes : List ℕ) (was mid is : Told) (before now after : ℕ) → mid ≡ with_end held was → now ≡ before → bytes ≢ [] → PutsFront bytes mid is → Rose now after → now ≤ after → IsCutOff (held ++ bytes) was is before after
cut_behind held bytes was mid is before now after put same some front rose count =
    subst (λ (n : ℕ). IsCutOff (held ++ bytes) was is n after) same (record { some = filled-right held bytes some; put = front-second held bytes was mid is put front; rose = rose; count = count })

-- where the bytes were given to the sink
pub all_told : (r : Result (Unit {0}) Failed) (held bytes left : List ℕ) (was mid is : Told) → mid ≡ with_end held was → left ≡ [] → OnOk r (is ≡ with_end bytes mid) → OnOk r (Carries (held ++ bytes) was is left)
all_told (Ok done) held bytes left was mid is put none more = behind_all held bytes left was mid is put more none
all_told (Err e) held bytes left was mid is put none more = tt

pub cut_told : (r : Result (Unit {0}) Failed) (held bytes : List ℕ) (was mid is : Told) (before now after : ℕ) → mid ≡ with_end held was → now ≡ before → OnErr r (bytes ≢ []) → OnErr r (PutsFront bytes mid is) → OnErr r (Rose now after) → now ≤ after
    → OnErr r (IsCutOff (held ++ bytes) was is before after)
cut_told (Ok done) held bytes was mid is before now after put same some front rose count = tt
cut_told (Err e) held bytes was mid is before now after put same some front rose count = cut_behind held bytes was mid is before now after put same some front rose count

-- ---- pieces

text_of_pieces-append : (a b : List (Bor (List ℕ))) → text_of_pieces (a ++ b) ≡ text_of_pieces a ++ text_of_pieces b
text_of_pieces-append a b = flat_map-append (λ (piece : Bor (List ℕ)). piece.now) a b

-- a text that goes on with the pieces up to one, and with that one
pub pieces_more : (text : List ℕ) (pieces : List (Bor (List ℕ))) (i : ℕ) (d : Bor (List ℕ)) → i < length pieces
    → text ++ text_of_pieces (take (i + 1) pieces) ≡ text ++ text_of_pieces (take i pieces) ++ (get_or pieces i d).now
pieces_more text pieces i d within =
    ap (λ (ps : List (Bor (List ℕ))). text ++ text_of_pieces ps) (take_more pieces i d within)
    ∙ ap (λ (b : List ℕ). text ++ b) (text_of_pieces-append (take i pieces) (get_or pieces i d ∷ []) ∙ ap (λ (b : List ℕ). text_of_pieces (take i pieces) ++ b) (append-nil (get_or pieces i d).now))
    ∙ sym (append_assoc text (text_of_pieces (take i pieces)) (get_or pieces i d).now)

-- a text that goes on with all pieces, cut in front of one and behind it
pub pieces_cut : (text : List ℕ) (pieces : List (Bor (List ℕ))) (i : ℕ) (d : Bor (List ℕ)) → i < length pieces
    → text ++ text_of_pieces pieces ≡ text ++ text_of_pieces (take i pieces) ++ (get_or pieces i d).now ++ text_of_pieces (drop (i + 1) pieces)
pieces_cut text pieces i d within =
    ap (λ (ps : List (Bor (List ℕ))). text ++ text_of_pieces ps) (sym (take-append-drop (i + 1) pieces))
    ∙ ap (λ (b : List ℕ). text ++ b) (text_of_pieces-append (take (i + 1) pieces) (drop (i + 1) pieces))
    ∙ sym (append_assoc text (text_of_pieces (take (i + 1) pieces)) (text_of_pieces (drop (i + 1) pieces)))
    ∙ ap (λ (b : List ℕ). b ++ text_of_pieces (drop (i + 1) pieces)) (pieces_more text pieces i d within)
