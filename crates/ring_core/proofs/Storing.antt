-- Frames that are stored one behind the other, with pauses between them.
use Rattle.std.proofs.Common.{◌≡◌, ℕ, ◌+◌, ◌<◌, ◌≤◌, List, [], ◌∷◌, ◌++◌, length, take, drop, map, get_or, refl, sym, ap, ◌∙◌, subst}
use Rattle.std.specs.Prelude.{Option, None, Some, option_to_list, All}
use Rattle.std.proofs.lemmas.List.{map-append, take_more, drop_more, take-append-drop, append-nil}
use Rattle.std.proofs.lemmas.List.Elements.{filter_map-append, All-contains, Contains-push}
use Rattle.arg_records.specs.declared.frame.TheConstants.{MAX_FRAME_WORDS}
use Rattle.ring_core.specs.declared.stored_out.StoredAnswer.{StoredAnswer}
use Rattle.ring_core.specs.Plans.{Plan, Lawful}
use Rattle.nl_io.specs.Count.{counted}
use Rattle.ring_core.specs.declared.stored_out.StoredOut.TheInside.{Inside}
use Rattle.ring_core.specs.Stored.{stored_frames, end_after}
use Rattle.ring_core.specs.StoredInside.{answer_words, end_of}
use Rattle.ring_core.proofs.lemmas.Frames.{Lawful-front, Lawful-lengths}

-- the frames of one list behind those of another
pub stored_frames-append : (xs ys : List (Option (List ℕ))) → stored_frames (xs ++ ys) ≡ stored_frames xs ++ stored_frames ys
stored_frames-append xs ys = filter_map-append (λ (o : Option (List ℕ)). o) xs ys

stored_frames-one : (o : Option (List ℕ)) → stored_frames (o ∷ []) ≡ option_to_list o
stored_frames-one None = refl
stored_frames-one (Some words) = refl

-- the frames of answers, with one answer more
pub frames-push : (answers : List StoredAnswer) (answer : StoredAnswer) → stored_frames (map answer_words (answers ++ answer ∷ [])) ≡ stored_frames (map answer_words answers) ++ option_to_list (answer_words answer)
frames-push answers answer =
    ap stored_frames (map-append answer_words answers (answer ∷ [])) ∙ stored_frames-append (map answer_words answers) (answer_words answer ∷ [])
    ∙ ap (λ (fs : List (List ℕ)). stored_frames (map answer_words answers) ++ fs) (stored_frames-one (answer_words answer))

-- what is ahead begins with this answer
pub ahead-next : (answers : List StoredAnswer) (next : ℕ) (d : StoredAnswer) → next < length answers → map answer_words (drop next answers) ≡ answer_words (get_or answers next d) ∷ map answer_words (drop (next + 1) answers)
ahead-next answers next d within = ap (map answer_words) (drop_more answers next d within)

-- and its frame comes behind those before it
pub got-next : (answers : List StoredAnswer) (next : ℕ) (d : StoredAnswer) → next < length answers
    → stored_frames (map answer_words (take (next + 1) answers)) ≡ stored_frames (map answer_words (take next answers)) ++ option_to_list (answer_words (get_or answers next d))
got-next answers next d within = ap (λ (es : List StoredAnswer). stored_frames (map answer_words es)) (take_more answers next d within) ∙ frames-push (take next answers) (get_or answers next d)

-- the first of lawful frames are lawful
pub taken_lawful : (plan : Plan) (answers : List StoredAnswer) (n : ℕ) → Lawful plan (stored_frames (map answer_words answers)) → Lawful plan (stored_frames (map answer_words (take n answers)))
taken_lawful plan answers n h =
    let front = stored_frames (map answer_words (take n answers)) in
    let back = stored_frames (map answer_words (drop n answers)) in
    let parts : stored_frames (map answer_words answers) ≡ front ++ back =
    ap (λ (es : List StoredAnswer). stored_frames (map answer_words es)) (sym (take-append-drop n answers))
    ∙ ap stored_frames (map-append answer_words (take n answers) (drop n answers)) ∙ stored_frames-append (map answer_words (take n answers)) (map answer_words (drop n answers)) in
    Lawful-front plan front back (subst (Lawful plan) parts h)

-- no frame among them is too long
pub next_short : (plan : Plan) (answers : List StoredAnswer) (next : ℕ) (d : StoredAnswer) (words : List ℕ) → Lawful plan (stored_frames (map answer_words answers)) → next < length answers
    → answer_words (get_or answers next d) ≡ Some words → length words ≤ MAX_FRAME_WORDS
next_short plan answers next d words h within is =
    let front = stored_frames (map answer_words (take next answers)) in
    let P : List ℕ → Type 0 = λ frame. (2 ≤ length frame) × (length frame ≤ MAX_FRAME_WORDS) in
    let grown : stored_frames (map answer_words (take (next + 1) answers)) ≡ front ++ words ∷ [] = got-next answers next d within ∙ ap (λ (o : Option (List ℕ)). front ++ option_to_list o) is in
    let all : All P (front ++ words ∷ []) = subst (All P) grown (Lawful-lengths plan (stored_frames (map answer_words (take (next + 1) answers))) (taken_lawful plan answers (next + 1) h)) in
    (All-contains P (front ++ words ∷ []) words all (Contains-push front words)).1

-- ---- what contracts see once the next answer was answered

pub after_frame : (s : Inside) (d : StoredAnswer) (words : List ℕ) → s.next < length s.answers.items → answer_words (get_or s.answers.items s.next d) ≡ Some words
    → end_of (record s { next = s.next + 1 }) ≡ end_after (end_of s).ahead (end_of s)
after_frame s d words within is =
    let answers = s.answers.items in
    let ahead = map answer_words (drop (s.next + 1) answers) in
    let front = stored_frames (map answer_words (take s.next answers)) in
    let grown : stored_frames (map answer_words (take (s.next + 1) answers)) ≡ front ++ words ∷ [] = got-next answers s.next d within ∙ ap (λ (o : Option (List ℕ)). front ++ option_to_list o) is in
    let next : map answer_words (drop s.next answers) ≡ Some words ∷ ahead = ahead-next answers s.next d within ∙ ap (λ (o : Option (List ℕ)). o ∷ ahead) is in
    ap (λ (got : List (List ℕ)). record (end_of s) { got = got; ahead = ahead }) grown ∙ sym (ap (λ (stored : List (Option (List ℕ))). end_after stored (end_of s)) next)

pub after_pause : (s : Inside) (d : StoredAnswer) (loads : ℕ) → s.next < length s.answers.items → answer_words (get_or s.answers.items s.next d) ≡ None → loads ≡ counted s.loads
    → end_of (record s { next = s.next + 1; loads = loads }) ≡ end_after (end_of s).ahead (end_of s)
after_pause s d loads within is looked =
    let answers = s.answers.items in
    let ahead = map answer_words (drop (s.next + 1) answers) in
    let front = stored_frames (map answer_words (take s.next answers)) in
    let grown : stored_frames (map answer_words (take (s.next + 1) answers)) ≡ front = got-next answers s.next d within ∙ ap (λ (o : Option (List ℕ)). front ++ option_to_list o) is ∙ append-nil front in
    let next : map answer_words (drop s.next answers) ≡ None ∷ ahead = ahead-next answers s.next d within ∙ ap (λ (o : Option (List ℕ)). o ∷ ahead) is in
    ap (λ (got : List (List ℕ)). record (end_of s) { got = got; ahead = ahead; loads = loads }) grown
    ∙ ap (λ (n : ℕ). record (end_of s) { ahead = ahead; loads = n }) looked
    ∙ sym (ap (λ (stored : List (Option (List ℕ))). end_after stored (end_of s)) next)
