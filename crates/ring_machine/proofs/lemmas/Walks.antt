-- Where streams of words come to.
use Rattle.std.proofs.Common.{◌≡◌, ◌≢◌, ℕ, ◌+◌, ◌-◌, ◌%◌, ◌<◌, ◌≤◌, true, false, List, [], ◌∷◌, ◌++◌, length, refl, sym, ap, ◌∙◌, subst, append_assoc, append-nil, length-append, eqb-true, le-leb, true≢false, ⊎_elim, inl, inr, arith}
use Rattle.std.specs.Prelude.{◌⊎◌, nat_le, if◌then◌else◌}
use Rattle.std.proofs.lemmas.Bool.{cond_both, cond-true, cond-false, lt-leb, eqb-false}
use Rattle.ring_machine.specs.Streams.{Walk, start, is_whole_frame, is_wrap_mark, next_lap, skipped, framed, parted, onward, walk_from, walk, Begins, Wraps, MayCome, FitsWithin, AllMayCome, IsBegun, frames_up_to}

-- ---- a word more

-- what holds of each of the three walks with a word more holds of theirs
pub onward_cases : (P : Walk → Type 0) (size : ℕ) (w : Walk) (word : ℕ) → (is_wrap_mark w.part word ≡ true → P (skipped size w))
    → (is_wrap_mark w.part word ≡ false → is_whole_frame (w.part ++ word ∷ []) ≡ true → P (framed w (w.part ++ word ∷ [])))
    → (is_wrap_mark w.part word ≡ false → is_whole_frame (w.part ++ word ∷ []) ≡ false → P (parted w (w.part ++ word ∷ []))) → P (onward size w word)
unfolding onward
onward_cases P size w word mark whole part =
    let words = w.part ++ word ∷ [] in
    cond_both (is_wrap_mark w.part word) (skipped size w) (if is_whole_frame words then framed w words else parted w words) P mark
    (λ none. cond_both (is_whole_frame words) (framed w words) (parted w words) P (whole none) (part none))

pub onward-skipped : (size : ℕ) (w : Walk) (word : ℕ) → is_wrap_mark w.part word ≡ true → onward size w word ≡ skipped size w
onward-skipped size w word mark = onward_cases (λ v. v ≡ skipped size w) size w word (λ _. refl) (λ none _. absurd (true≢false (sym mark ∙ none))) (λ none _. absurd (true≢false (sym mark ∙ none)))

-- a walk goes on with each word
pub onward-at : (size : ℕ) (w : Walk) (word : ℕ) → 1 ≤ size → w.at < (onward size w word).at
onward-at size w word some = onward_cases (λ v. w.at < v.at) size w word (λ _. omega arith) (λ _ _. omega arith) (λ _ _. omega arith)

-- and keeps its frames
pub onward-frames : (size : ℕ) (w : Walk) (word : ℕ) → (more : List (List ℕ)) × ((onward size w word).frames ≡ w.frames ++ more)
onward-frames size w word =
    onward_cases (λ v. (more : List (List ℕ)) × (v.frames ≡ w.frames ++ more)) size w word (λ _. ([], sym (append-nil w.frames))) (λ _ _. ((w.part ++ word ∷ []) ∷ [], refl))
    (λ _ _. ([], sym (append-nil w.frames)))

-- ---- words more

pub walk_from-append : (size : ℕ) (w : Walk) (xs ys : List ℕ) → walk_from size w (xs ++ ys) ≡ walk_from size (walk_from size w xs) ys
walk_from-append size w [] ys = refl
walk_from-append size w (x ∷ xs) ys = walk_from-append size (onward size w x) xs ys

pub walk-push : (size : ℕ) (words : List ℕ) (word : ℕ) → walk size (words ++ word ∷ []) ≡ onward size (walk size words) word
walk-push size words word = walk_from-append size start words (word ∷ [])

pub walk_from-at : (size : ℕ) (w : Walk) (words : List ℕ) → 1 ≤ size → w.at ≤ (walk_from size w words).at
walk_from-at size w [] some = omega arith
walk_from-at size w (word ∷ words) some = omega (arith, onward-at size w word some, walk_from-at size (onward size w word) words some)

pub walk_from-at_more : (size : ℕ) (w : Walk) (word : ℕ) (words : List ℕ) → 1 ≤ size → w.at < (walk_from size w (word ∷ words)).at
walk_from-at_more size w word words some = omega (arith, onward-at size w word some, walk_from-at size (onward size w word) words some)

pub walk_from-frames : (size : ℕ) (w : Walk) (words : List ℕ) → (more : List (List ℕ)) × ((walk_from size w words).frames ≡ w.frames ++ more)
walk_from-frames size w [] = ([], sym (append-nil w.frames))
walk_from-frames size w (word ∷ words) =
    let first = onward-frames size w word in
    let others = walk_from-frames size (onward size w word) words in
    (first.0 ++ others.0, others.1 ∙ ap (λ (fs : List (List ℕ)). fs ++ others.0) first.1 ∙ append_assoc w.frames first.0 others.0)

-- ---- fronts of a stream

-- of two fronts of one list, one is a front of the other
pub two_fronts : (f b g c : List ℕ) → f ++ b ≡ g ++ c
    → ((mid : List ℕ) × (g ≡ f ++ mid) × (b ≡ mid ++ c)) ⊎ ((mid : List ℕ) × (f ≡ g ++ mid) × (c ≡ mid ++ b))
two_fronts [] b g c e = inl (g, refl, e)
two_fronts (x ∷ f) b [] c e = inr (x ∷ f, refl, sym e)
two_fronts (x ∷ f) b (y ∷ g) c e =
    let head : x ≡ y = cc e in
    let others : f ++ b ≡ g ++ c = cc e in
    ⊎_elim
    (λ (h : (mid : List ℕ) × (g ≡ f ++ mid) × (b ≡ mid ++ c)). inl (h.0, cc (head, h.1), h.2))
    (λ (h : (mid : List ℕ) × (f ≡ g ++ mid) × (c ≡ mid ++ b)). inr (h.0, cc (head, h.1), h.2))
    (two_fronts f b g c others)

-- a front that ends before another is a front of it
pub front_before : (size : ℕ) (f b g c : List ℕ) → 1 ≤ size → f ++ b ≡ g ++ c → (walk size f).at < (walk size g).at
    → (word : ℕ) × (mid : List ℕ) × (g ≡ f ++ word ∷ mid) × (b ≡ word ∷ (mid ++ c))
front_before size f b g c some e before =
    ⊎_elim
    (λ (h : (mid : List ℕ) × (g ≡ f ++ mid) × (b ≡ mid ++ c)). goes_on h.0 h.1 h.2)
    (λ (h : (mid : List ℕ) × (f ≡ g ++ mid) × (c ≡ mid ++ b)).
    absurd omega (arith, before, walk_from-at size (walk size g) h.0 some, ap (λ (v : Walk). v.at) (ap (walk size) h.1 ∙ walk_from-append size start g h.0)))
    (two_fronts f b g c e)
  where
    goes_on : (mid : List ℕ) → g ≡ f ++ mid → b ≡ mid ++ c → (word : ℕ) × (mid : List ℕ) × (g ≡ f ++ word ∷ mid) × (b ≡ word ∷ (mid ++ c))
    goes_on [] is rest = absurd omega (arith, before, ap (λ (v : Walk). v.at) (ap (walk size) (is ∙ append-nil f)))
    goes_on (word ∷ mid) is rest = (word, mid, is, rest)

-- fronts that end at one position are the same
pub front_same : (size : ℕ) (f b g c : List ℕ) → 1 ≤ size → f ++ b ≡ g ++ c → (walk size f).at ≡ (walk size g).at → f ≡ g
front_same size f b g c some e same =
    ⊎_elim
    (λ (h : (mid : List ℕ) × (g ≡ f ++ mid) × (b ≡ mid ++ c)). sym (no_more f g h.0 h.1 (sym same)))
    (λ (h : (mid : List ℕ) × (f ≡ g ++ mid) × (c ≡ mid ++ b)). no_more g f h.0 h.1 same)
    (two_fronts f b g c e)
  where
    no_more : (short long mid : List ℕ) → long ≡ short ++ mid → (walk size long).at ≡ (walk size short).at → long ≡ short
    no_more short long [] is at = is ∙ append-nil short
    no_more short long (word ∷ mid) is at =
        absurd omega (arith, at, walk_from-at_more size (walk size short) word mid some, ap (λ (v : Walk). v.at) (ap (walk size) is ∙ walk_from-append size start short (word ∷ mid)))

-- the frames up to a front's end are those of the front
pub frames_up_to-front : (size position : ℕ) (w : Walk) (front back : List ℕ) → 1 ≤ size → (walk_from size w front).at ≡ position
    → frames_up_to size position w (front ++ back) ≡ (walk_from size w front).frames
frames_up_to-front size position w [] [] some at = refl
frames_up_to-front size position w [] (word ∷ back) some at =
    cond-false (nat_le (onward size w word).at position) (frames_up_to size position (onward size w word) back) w.frames
    (lt-leb (onward size w word).at position (omega (arith, at, onward-at size w word some)))
frames_up_to-front size position w (word ∷ front) back some at =
    cond-true (nat_le (onward size w word).at position) (frames_up_to size position (onward size w word) (front ++ back)) w.frames
    (le-leb (onward size w word).at position (omega (arith, at, walk_from-at size (onward size w word) front some)))
    ∙ frames_up_to-front size position (onward size w word) front back some at

-- ---- words that may come

pub AllMayCome-push : (size : ℕ) (w : Walk) (words : List ℕ) (word : ℕ) → AllMayCome size w words → MayCome size (walk_from size w words) word → AllMayCome size w (words ++ word ∷ [])
AllMayCome-push size w [] word all may = (may, tt)
AllMayCome-push size w (first ∷ words) word all may = (all.0, AllMayCome-push size (onward size w first) words word all.1 may)

pub AllMayCome-at : (size : ℕ) (w : Walk) (front : List ℕ) (word : ℕ) (back : List ℕ) → AllMayCome size w (front ++ word ∷ back) → MayCome size (walk_from size w front) word
AllMayCome-at size w [] word back all = all.0
AllMayCome-at size w (first ∷ front) word back all = AllMayCome-at size (onward size w first) front word back all.1

pub AllMayCome-front : (size : ℕ) (w : Walk) (front back : List ℕ) → AllMayCome size w (front ++ back) → AllMayCome size w front
AllMayCome-front size w [] back all = tt
AllMayCome-front size w (word ∷ front) back all = (all.0, AllMayCome-front size (onward size w word) front back all.1)

pub FitsWithin-may : (size limit : ℕ) (w : Walk) (word : ℕ) → FitsWithin size limit w word → MayCome size w word
FitsWithin-may size limit w word fits none =
    ⊎_elim
    (λ (h : Wraps size w.at word × (next_lap size w.at ≤ limit)). inl h.0)
    (λ (h : Begins size w.at word × (w.at + word % 65536 ≤ limit)). inr h.0)
    (fits none)

-- a walk with a word that fits ends at the limit or before it, and so does the frame that it is in
pub record IsWithin (size limit : ℕ) (w : Walk) : Type 0 where
  pub at : w.at ≤ limit
  pub begun : w.part ≢ [] → IsBegun size limit w

first_word : (size limit at : ℕ) (frames : List (List ℕ)) (word : ℕ)
    → (Wraps size at word × (next_lap size at ≤ limit)) ⊎ (Begins size at word × (at + word % 65536 ≤ limit))
    → IsWithin size limit (onward size (record { at = at; frames = frames; part = [] }) word)
first_word size limit at frames word fits =
    let w : Walk = record { at = at; frames = frames; part = [] } in
    ⊎_elim
    (λ (h : Wraps size at word × (next_lap size at ≤ limit)).
    onward_cases (IsWithin size limit) size w word
    (λ _. record { at = h.1; begun = λ some. absurd (some refl) })
    (λ none _. absurd (eqb-false word 0 none h.0.mark))
    (λ none _. absurd (eqb-false word 0 none h.0.mark)))
    (λ (h : Begins size at word × (at + word % 65536 ≤ limit)).
    let least = h.0.least in
    let inside = h.0.inside in
    onward_cases (IsWithin size limit) size w word
    (λ mark. absurd (omega (arith, eqb-true word 0 mark, least)))
    (λ _ whole. record { at = omega (arith, h.1, least); begun = λ some. absurd (some refl) })
    (λ _ _. record {
      at = omega (arith, h.1, least);
      begun = λ _. record { begin = at; at_is = omega arith; short = omega (arith, least); inside = inside; room = h.1 };
    }))
    fits

next_word : (size limit at : ℕ) (frames : List (List ℕ)) (head : ℕ) (words : List ℕ) (word : ℕ)
    → IsBegun size limit (record { at = at; frames = frames; part = head ∷ words }) → IsWithin size limit (onward size (record { at = at; frames = frames; part = head ∷ words }) word)
next_word size limit at frames head words word b =
    let w : Walk = record { at = at; frames = frames; part = head ∷ words } in
    let at_is = b.at_is in
    let short = b.short in
    let room = b.room in
    let long = length-append words (word ∷ []) in
    onward_cases (IsWithin size limit) size w word
    (λ mark. absurd (true≢false (sym mark)))
    (λ _ whole. record { at = omega (arith, at_is, short, room); begun = λ some. absurd (some refl) })
    (λ _ part. record {
      at = omega (arith, at_is, short, room);
      begun = λ _. record {
        begin = b.begin;
        at_is = omega (arith, at_is, long);
        short = omega (arith, short, long, eqb-false (head % 65536) (length (head ∷ (words ++ word ∷ []))) part);
        inside = b.inside;
        room = room;
      };
    })

any_word : (size limit at : ℕ) (frames : List (List ℕ)) (part : List ℕ) (word : ℕ) → FitsWithin size limit (record { at = at; frames = frames; part = part }) word
    → (part ≢ [] → IsBegun size limit (record { at = at; frames = frames; part = part })) → IsWithin size limit (onward size (record { at = at; frames = frames; part = part }) word)
any_word size limit at frames [] word fits begun = first_word size limit at frames word (fits refl)
any_word size limit at frames (head ∷ words) word fits begun = next_word size limit at frames head words word (begun (λ e. absurd cc))

pub onward-within : (size limit : ℕ) (w : Walk) (word : ℕ) → FitsWithin size limit w word → (w.part ≢ [] → IsBegun size limit w) → IsWithin size limit (onward size w word)
onward-within size limit w word = any_word size limit w.at w.frames w.part word

-- ---- what is behind the beginning of a frame

-- a walk that is in a frame comes to no end before the frame's
in_frame : (size at : ℕ) (frames : List (List ℕ)) (head : ℕ) (words more : List ℕ) → 1 ≤ size → length (head ∷ words) < head % 65536
    → (walk_from size (record { at = at; frames = frames; part = head ∷ words }) more).part ≡ []
    → at + (head % 65536 - length (head ∷ words)) ≤ (walk_from size (record { at = at; frames = frames; part = head ∷ words }) more).at
in_frame size at frames head words [] some short end = absurd cc
in_frame size at frames head words (word ∷ more) some short end =
    let w : Walk = record { at = at; frames = frames; part = head ∷ words } in
    let long = length-append words (word ∷ []) in
    onward_cases (λ v. (walk_from size v more).part ≡ [] → at + (head % 65536 - length (head ∷ words)) ≤ (walk_from size v more).at) size w word
    (λ mark. absurd (true≢false (sym mark)))
    (λ _ whole _.
    omega (arith, short, long, eqb-true (head % 65536) (length (head ∷ (words ++ word ∷ []))) whole, walk_from-at size (framed w (head ∷ (words ++ word ∷ []))) more some))
    (λ _ part last.
    let apart = eqb-false (head % 65536) (length (head ∷ (words ++ word ∷ []))) part in
    let further = in_frame size (at + 1) frames head (words ++ word ∷ []) more some (omega (arith, short, long, apart)) last in
    omega (arith, short, long, further))
    end

behind_first : (size at : ℕ) (frames : List (List ℕ)) (word : ℕ) (more : List ℕ) → 1 ≤ size → Wraps size at word ⊎ Begins size at word
    → (walk_from size (onward size (record { at = at; frames = frames; part = [] }) word) more).part ≡ []
    → (Wraps size at word × (next_lap size at ≤ (walk_from size (onward size (record { at = at; frames = frames; part = [] }) word) more).at))
    ⊎ (Begins size at word × (at + word % 65536 ≤ (walk_from size (onward size (record { at = at; frames = frames; part = [] }) word) more).at))
behind_first size at frames word more some may =
    let w : Walk = record { at = at; frames = frames; part = [] } in
    ⊎_elim
    (λ (h : Wraps size at word).
    onward_cases
    (λ v. (walk_from size v more).part ≡ []
    → (Wraps size at word × (next_lap size at ≤ (walk_from size v more).at)) ⊎ (Begins size at word × (at + word % 65536 ≤ (walk_from size v more).at))) size w word
    (λ _ _. inl (h, walk_from-at size (skipped size w) more some))
    (λ none _ _. absurd (eqb-false word 0 none h.mark))
    (λ none _ _. absurd (eqb-false word 0 none h.mark)))
    (λ (h : Begins size at word).
    let least = h.least in
    onward_cases
    (λ v. (walk_from size v more).part ≡ []
    → (Wraps size at word × (next_lap size at ≤ (walk_from size v more).at)) ⊎ (Begins size at word × (at + word % 65536 ≤ (walk_from size v more).at))) size w word
    (λ mark _. absurd (omega (arith, eqb-true word 0 mark, least)))
    (λ _ whole _. absurd (omega (arith, eqb-true (word % 65536) 1 whole, least)))
    (λ _ _ end. let further = in_frame size (at + 1) frames word [] more some (omega (arith, least)) end in inr (h, omega (arith, least, further))))
    may

-- what a word begins has ended where the walk comes to an end
pub FitsWithin-behind : (size : ℕ) (w : Walk) (word : ℕ) (more : List ℕ) → 1 ≤ size → MayCome size w word → (walk_from size (onward size w word) more).part ≡ []
    → FitsWithin size (walk_from size (onward size w word) more).at w word
FitsWithin-behind size w word more some may end none =
    let w' : Walk = record { at = w.at; frames = w.frames; part = [] } in
    let same : w ≡ w' = λ i. record { at = w.at; frames = w.frames; part = none i } in
    let end' : (walk_from size (onward size w' word) more).part ≡ [] = ap (λ (v : Walk). (walk_from size (onward size v word) more).part) (sym same) ∙ end in
    subst
    (λ (v : Walk).
    (Wraps size w.at word × (next_lap size w.at ≤ (walk_from size (onward size v word) more).at)) ⊎ (Begins size w.at word × (w.at + word % 65536 ≤ (walk_from size (onward size v word) more).at)))
    (sym same) (behind_first size w.at w.frames word more some (may none) end')
