-- Which calls are taken where one more is made, or one more is dropped.
use Rattle.std.proofs.Common.{◌≡◌, ◌≢◌, ℕ, suc, ◌+◌, ◌-◌, ◌<◌, ◌≤◌, Bool, true, false, cond, not, ◌==◌, ◌&&◌, ◌||◌, List, [], ◌∷◌, ◌++◌, length, get_or, take, Option, Some, None, if◌then◌else◌, refl, sym, ap, ◌∙◌, subst, subst₂, inl, inr, arith}
use Rattle.std.specs.Prelude.{All, AllPairs, filter}
use Rattle.std.specs.List.{cons_option, filter_map, enumerate_from}
use Rattle.std.proofs.lemmas.Bool.{and_right, and_left, ne_eqb, eq-eqb, and_from, or_right}
use Rattle.std.proofs.lemmas.List.{append-nil, length-take}
use Rattle.std.proofs.lemmas.List.Elements.{All-push, All-append, All-head, All-tail, All-weaker, filter_map-append}
use Rattle.std.proofs.lemmas.List.Folds.{list_any-append, list_any_none}
use Rattle.std.proofs.lemmas.List.Kept.{AllPairs-cons}
use Rattle.std.proofs.lemmas.List.Quantifiers.{all_pairs_push}
use Rattle.log_dictionary.specs.declared.severity.Severity.{Severity}
use Rattle.log_dictionary.specs.declared.message.Message.{Message}
use Rattle.arg_records.specs.declared.call.Call.{Call}
use Rattle.arg_records.specs.Frames.{FrameLen}
use Rattle.ring_core.specs.Positions.{Position}
use Rattle.trace_text.specs.Recordings.{Recording}
use Rattle.trace_session.specs.declared.drops.Dropped.{Dropped}
use Rattle.trace_session.specs.Levels.{keeps}
use Rattle.trace_session.specs.Drops.{is_listed, taken_call, taken_calls, taken_of, calls_at, position_at, released_at, IsDrop, ComesBefore, LacksRoom, LawfulDrops}

-- ---- numbered calls

-- one more gets the next number
pub numbered_push : {X : Type 0} (from : ℕ) (items : List X) (item : X) → enumerate_from from (items ++ item ∷ []) ≡ enumerate_from from items ++ (from + length items, item) ∷ []
numbered_push from [] item = let same : from ≡ from + 0 = omega arith in λ i. (same i, item) ∷ []
numbered_push {X} from (first ∷ items) item =
    let next : from + 1 + length items ≡ from + suc (length items) = omega arith in
    ap (λ (l : List (ℕ × X)). (from, first) ∷ l)
    (numbered_push (from + 1) items item ∙ ap (λ (n : ℕ). enumerate_from (from + 1) items ++ (n, item) ∷ []) next)

module _ (dictionary : List Message) (level : Severity) where
  -- what becomes of one call
  one_taken : (listed : ℕ → Bool) (ordinal : ℕ) (call : Call) (kept drops : Bool) → keeps dictionary level call ≡ kept → listed ordinal ≡ drops
      → taken_call dictionary level listed (ordinal, call) ≡ (if kept && not drops then Some call else None)
  one_taken listed ordinal call kept drops is_kept is_listed = λ i. if is_kept i && not (is_listed i) then Some call else None

  -- one call more, with the next number
  taken_push : (listed : ℕ → Bool) (calls : List Call) (call : Call) (answer : Option Call) → taken_call dictionary level listed (length calls, call) ≡ answer
      → taken_calls dictionary level listed (calls ++ call ∷ []) ≡ taken_calls dictionary level listed calls ++ cons_option answer []
  taken_push listed calls call answer is =
      let h = taken_call dictionary level listed in
      let number : 0 + length calls ≡ length calls = omega arith in
      ap (filter_map h) (numbered_push 0 calls call)
      ∙ filter_map-append h (enumerate_from 0 calls) ((0 + length calls, call) ∷ [])
      ∙ ap (λ (n : ℕ). taken_calls dictionary level listed calls ++ filter_map h ((n, call) ∷ [])) number
      ∙ ap (λ (o : Option Call). taken_calls dictionary level listed calls ++ cons_option o []) is

  -- a call that the level doesn't keep
  pub taken_calls-passed : (listed : ℕ → Bool) (calls : List Call) (call : Call) → keeps dictionary level call ≡ false → taken_calls dictionary level listed (calls ++ call ∷ []) ≡ taken_calls dictionary level listed calls
  taken_calls-passed listed calls call passed =
      taken_push listed calls call None (one_taken listed (length calls) call false (listed (length calls)) passed refl) ∙ append-nil (taken_calls dictionary level listed calls)

  -- one that it keeps, and that isn't listed
  pub taken_calls-accepted : (listed : ℕ → Bool) (calls : List Call) (call : Call) → keeps dictionary level call ≡ true → listed (length calls) ≡ false
      → taken_calls dictionary level listed (calls ++ call ∷ []) ≡ taken_calls dictionary level listed calls ++ call ∷ []
  taken_calls-accepted listed calls call kept unlisted = taken_push listed calls call (Some call) (one_taken listed (length calls) call true false kept unlisted)

  -- one that is listed
  pub taken_calls-dropped : (listed : ℕ → Bool) (calls : List Call) (call : Call) → listed (length calls) ≡ true → taken_calls dictionary level listed (calls ++ call ∷ []) ≡ taken_calls dictionary level listed calls
  taken_calls-dropped listed calls call is_listed =
      let never : (if keeps dictionary level call && not true then Some call else None) ≡ None = ap (λ (b : Bool). if b then Some call else None) (and_right (keeps dictionary level call) false refl) in
      taken_push listed calls call None (one_taken listed (length calls) call (keeps dictionary level call) true refl is_listed ∙ never) ∙ append-nil (taken_calls dictionary level listed calls)

  same_from : (listed other : ℕ → Bool) (from : ℕ) (calls : List Call) → ((k : ℕ) → k < length calls → listed (from + k) ≡ other (from + k))
      → filter_map (taken_call dictionary level listed) (enumerate_from from calls) ≡ filter_map (taken_call dictionary level other) (enumerate_from from calls)
  same_from listed other from [] same = refl
  same_from listed other from (call ∷ calls) same =
      let here : listed from ≡ other from = let at : from + 0 ≡ from = omega arith in subst (λ (n : ℕ). listed n ≡ other n) at (same 0 (omega arith)) in
      let others = same_from listed other (from + 1) calls
      (λ k below. let at : from + suc k ≡ from + 1 + k = omega arith in subst (λ (n : ℕ). listed n ≡ other n) at (same (suc k) (omega (arith, below)))) in
      λ i. cons_option (if keeps dictionary level call && not (here i) then Some call else None) (others i)

  -- lists of drops that list the same of the calls
  pub taken_calls-same : (listed other : ℕ → Bool) (calls : List Call) → ((k : ℕ) → k < length calls → listed k ≡ other k) → taken_calls dictionary level listed calls ≡ taken_calls dictionary level other calls
  taken_calls-same listed other calls same =
      same_from listed other 0 calls (λ k below. let at : k ≡ 0 + k = omega arith in subst (λ (n : ℕ). listed n ≡ other n) at (same k below))

  one_unlisted : (kept : Bool) (call : Call) (calls : List Call) → cons_option (if kept && true then Some call else None) calls ≡ cond kept (call ∷ calls) calls
  one_unlisted true call calls = refl
  one_unlisted false call calls = refl

  none_from : (from : ℕ) (calls : List Call) → filter_map (taken_call dictionary level (λ k. false)) (enumerate_from from calls) ≡ filter (keeps dictionary level) calls
  none_from from [] = refl
  none_from from (call ∷ calls) =
      let others = none_from (from + 1) calls in
      one_unlisted (keeps dictionary level call) call (filter_map (taken_call dictionary level (λ k. false)) (enumerate_from (from + 1) calls))
      ∙ ap (λ (l : List Call). cond (keeps dictionary level call) (call ∷ l) l) others

-- ---- what drops list

pub is_listed-append : (drops more : List Dropped) (writer ordinal : ℕ) → is_listed (drops ++ more) writer ordinal ≡ (is_listed drops writer ordinal || is_listed more writer ordinal)
is_listed-append drops more writer ordinal = list_any-append (λ (d : Dropped). (d.writer == writer) && (d.ordinal == ordinal)) drops more

-- drops of others
pub is_listed-others : (drops : List Dropped) (writer ordinal : ℕ) → All (λ one. one.writer ≢ writer) drops → is_listed drops writer ordinal ≡ false
is_listed-others drops writer ordinal others =
    let test = λ (d : Dropped). (d.writer == writer) && (d.ordinal == ordinal) in
    list_any_none test drops
    (All-weaker (λ (d : Dropped). d.writer ≢ writer) (λ (d : Dropped). test d ≡ false)
    (λ d other. and_left (d.writer == writer) (d.ordinal == ordinal) (ne_eqb d.writer writer other)) drops others)

-- drops of calls with lower ordinals
pub is_listed-below : (drops : List Dropped) (writer ordinal : ℕ) → All (λ one. one.ordinal < ordinal) drops → is_listed drops writer ordinal ≡ false
is_listed-below drops writer ordinal below =
    let test = λ (d : Dropped). (d.writer == writer) && (d.ordinal == ordinal) in
    list_any_none test drops
    (All-weaker (λ (d : Dropped). d.ordinal < ordinal) (λ (d : Dropped). test d ≡ false)
    (λ d lower. and_right (d.writer == writer) (d.ordinal == ordinal) (ne_eqb d.ordinal ordinal (λ same. omega (arith, lower, same)))) drops below)

one_listed : (d : Dropped) (writer ordinal : ℕ) (answer : Bool) → ((d.writer == writer) && (d.ordinal == ordinal)) ≡ answer → is_listed (d ∷ []) writer ordinal ≡ answer
one_listed d writer ordinal true is = ap (λ (b : Bool). b || false) is
one_listed d writer ordinal false is = ap (λ (b : Bool). b || false) is

-- a drop lists its own call
pub is_listed-one : (d : Dropped) → is_listed (d ∷ []) d.writer d.ordinal ≡ true
is_listed-one d = one_listed d d.writer d.ordinal true (and_from (d.writer == d.writer) (d.ordinal == d.ordinal) (eq-eqb d.writer d.writer refl) (eq-eqb d.ordinal d.ordinal refl))

-- and no other
pub is_listed-one_other : (d : Dropped) (writer ordinal : ℕ) → d.ordinal ≢ ordinal → is_listed (d ∷ []) writer ordinal ≡ false
is_listed-one_other d writer ordinal other = one_listed d writer ordinal false (and_right (d.writer == writer) (d.ordinal == ordinal) (ne_eqb d.ordinal ordinal other))

-- the last of drops lists its call
pub is_listed-last : (drops : List Dropped) (d : Dropped) → is_listed (drops ++ d ∷ []) d.writer d.ordinal ≡ true
is_listed-last drops d =
    is_listed-append drops (d ∷ []) d.writer d.ordinal
    ∙ or_right (is_listed drops d.writer d.ordinal) (is_listed (d ∷ []) d.writer d.ordinal) (is_listed-one d)

or_false : (b other : Bool) → other ≡ false → (b || other) ≡ b
or_false true other none = refl
or_false false other none = none

-- drops that list nothing of a writer change nothing for it
pub is_listed-more_none : (drops more : List Dropped) (writer ordinal : ℕ) → is_listed more writer ordinal ≡ false → is_listed (drops ++ more) writer ordinal ≡ is_listed drops writer ordinal
is_listed-more_none drops more writer ordinal none =
    is_listed-append drops more writer ordinal ∙ or_false (is_listed drops writer ordinal) (is_listed more writer ordinal) none

pub is_listed-none_before : (drops more : List Dropped) (writer ordinal : ℕ) → is_listed drops writer ordinal ≡ false → is_listed (drops ++ more) writer ordinal ≡ is_listed more writer ordinal
is_listed-none_before drops more writer ordinal none =
    is_listed-append drops more writer ordinal ∙ ap (λ (b : Bool). b || is_listed more writer ordinal) none

-- a drop changes nothing for the calls before it
pub is_listed-earlier : (drops : List Dropped) (d : Dropped) (writer ordinal : ℕ) → ordinal < d.ordinal → is_listed (drops ++ d ∷ []) writer ordinal ≡ is_listed drops writer ordinal
is_listed-earlier drops d writer ordinal earlier =
    is_listed-more_none drops (d ∷ []) writer ordinal (is_listed-one_other d writer ordinal (λ same. omega (arith, earlier, same)))

-- ---- positions at drops

-- lists of drops that list the same of the calls before a drop
abbrev pub ListSame : List Dropped → List Dropped → Dropped → Type 0
ListSame drops other d = (k : ℕ) → k < d.ordinal → is_listed drops d.writer k ≡ is_listed other d.writer k

module _ (run : Recording) (level : Severity) (words : ℕ) where
  pub position_at-same : (drops other : List Dropped) (d : Dropped) → ListSame drops other d → position_at run level words drops d ≡ position_at run level words other d
  position_at-same drops other d same =
      let before = take d.ordinal (calls_at run d.writer) in
      ap (λ (calls : List Call). Position calls words)
      (taken_calls-same run.dictionary level (is_listed drops d.writer) (is_listed other d.writer) before
      (λ k below. same k (omega (arith, below, length-take d.ordinal (calls_at run d.writer)))))

  pub released_at-same : (drops other : List Dropped) (d : Dropped) → ListSame drops other d → released_at run level words drops d ≡ released_at run level words other d
  released_at-same drops other d same = ap (λ (n : ℕ). n - (words - d.room)) (position_at-same drops other d same)

  pub IsDrop-same : (drops other : List Dropped) (d : Dropped) → ListSame drops other d → IsDrop run level words drops d → IsDrop run level words other d
  IsDrop-same drops other d same is = record {
    call = is.call;
    named = is.named;
    kept = is.kept;
    lacked = subst (λ (at : ℕ). LacksRoom at (FrameLen is.call.args) words d) (position_at-same drops other d same) is.lacked;
  }

  -- ---- drops that are lawful

  -- what a writer knew to be taken doesn't fall from the one to the other
  abbrev pub NotBelow : List Dropped → Dropped → Dropped → Type 0
  NotBelow drops one other = one.writer ≡ other.writer → released_at run level words drops one ≤ released_at run level words drops other

  NotBelow-same : (drops other : List Dropped) (one two : Dropped) → ListSame drops other one → ListSame drops other two → NotBelow drops one two → NotBelow other one two
  NotBelow-same drops other one two same_one same_two holds = λ own.
      subst₂ (λ (a b : ℕ). a ≤ b) (released_at-same drops other one same_one) (released_at-same drops other two same_two) (holds own)

  All-IsDrop-same : (drops other some : List Dropped) → All (ListSame drops other) some → All (IsDrop run level words drops) some → All (IsDrop run level words other) some
  All-IsDrop-same drops other some same are = λ k e within. IsDrop-same drops other (get_or some k e) (same k e within) (are k e within)

  pairs-same : (drops other some : List Dropped) → All (ListSame drops other) some → AllPairs (NotBelow drops) some → AllPairs (NotBelow other) some
  pairs-same drops other some same pairs = λ i j e lt within.
      NotBelow-same drops other (get_or some i e) (get_or some j e) (same i e (omega (arith, lt, within))) (same j e within) (pairs i j e lt within)

  -- one drop more of a writer, behind its others
  pub lawful_more : (drops : List Dropped) (d : Dropped) → LawfulDrops run level words drops → All (λ one. one.writer ≡ d.writer) drops → All (λ one. one.ordinal < d.ordinal) drops
      → IsDrop run level words (drops ++ d ∷ []) d → All (λ one. released_at run level words drops one ≤ released_at run level words (drops ++ d ∷ []) d) drops
      → LawfulDrops run level words (drops ++ d ∷ [])
  lawful_more drops d were own before is rises =
      let all = drops ++ d ∷ [] in
      let same : All (ListSame drops all) drops = λ k e within j below. sym (is_listed-earlier drops d (get_or drops k e).writer j (omega (arith, below, before k e within))) in
      record {
        in_order = all_pairs_push ComesBefore drops d were.in_order (λ k e within. inr (own k e within, before k e within));
        lawful = All-push (IsDrop run level words all) drops d (All-IsDrop-same drops all drops same were.lawful) is;
        never_falls = all_pairs_push (NotBelow all) drops d (pairs-same drops all drops same were.never_falls)
            (λ k e within own_too. subst (λ (n : ℕ). n ≤ released_at run level words all d) (released_at-same drops all (get_or drops k e) (same k e within)) (rises k e within));
      }

  all_pairs_append : (R : Dropped → Dropped → Type 0) (front back : List Dropped) → AllPairs R front → AllPairs R back → All (λ one. All (R one) back) front → AllPairs R (front ++ back)
  all_pairs_append R [] back of_front of_back across = of_back
  all_pairs_append R (one ∷ front) back of_front of_back across =
      AllPairs-cons R one (front ++ back)
      (All-append (R one) front back (λ k e within. of_front 0 (suc k) e (omega arith) (omega (arith, within))) (All-head (λ (d : Dropped). All (R d) back) one front across))
      (all_pairs_append R front back (λ i j e lt within. of_front (suc i) (suc j) e (omega (arith, lt)) (omega (arith, within))) of_back (All-tail (λ (d : Dropped). All (R d) back) one front across))

  -- the drops of a writer behind those of writers before it
  pub lawful_append : (writer : ℕ) (drops more : List Dropped) → LawfulDrops run level words drops → All (λ one. one.writer < writer) drops → LawfulDrops run level words more → All (λ one. one.writer ≡ writer) more
      → LawfulDrops run level words (drops ++ more)
  lawful_append writer drops more were below are own =
      let all = drops ++ more in
      let other_one : (e : Dropped) → e.writer < writer → All (λ one. one.writer ≢ e.writer) more = λ e lower k f within same. omega (arith, lower, own k f within, same) in
      let same_front : All (ListSame drops all) drops = λ k e within j lower. sym (is_listed-more_none drops more (get_or drops k e).writer j
      (is_listed-others more (get_or drops k e).writer j (other_one (get_or drops k e) (below k e within)))) in
      let same_back : All (ListSame more all) more = λ k e within j lower. sym (is_listed-none_before drops more (get_or more k e).writer j
      (is_listed-others drops (get_or more k e).writer j (λ l f inside same. omega (arith, below l f inside, own k e within, same)))) in
      record {
        in_order = all_pairs_append ComesBefore drops more were.in_order are.in_order (λ k e within l f inside. inl (omega (arith, below k e within, own l f inside)));
        lawful = All-append (IsDrop run level words all) drops more (All-IsDrop-same drops all drops same_front were.lawful) (All-IsDrop-same more all more same_back are.lawful);
        never_falls = all_pairs_append (NotBelow all) drops more (pairs-same drops all drops same_front were.never_falls) (pairs-same more all more same_back are.never_falls)
            (λ k e within l f inside same. absurd (omega (arith, below k e within, own l f inside, same)));
      }

-- ---- the calls that are taken of a writer

module _ (run : Recording) (level : Severity) where
  -- drops of a later writer change nothing
  pub taken_of-before : (drops more : List Dropped) (writer other : ℕ) (calls : List Call) → All (λ one. one.writer ≡ writer) more → other < writer
      → taken_of run level (drops ++ more) (other, calls) ≡ taken_of run level drops (other, calls)
  taken_of-before drops more writer other calls own lower =
      taken_calls-same run.dictionary level (is_listed (drops ++ more) other) (is_listed drops other) calls
      (λ k within. is_listed-more_none drops more other k (is_listed-others more other k (λ l f inside same. omega (arith, lower, own l f inside, same))))

  -- nor do drops of earlier ones
  pub taken_of-own : (drops more : List Dropped) (writer : ℕ) (calls : List Call) → All (λ one. one.writer < writer) drops
      → taken_of run level (drops ++ more) (writer, calls) ≡ taken_of run level more (writer, calls)
  taken_of-own drops more writer calls below =
      taken_calls-same run.dictionary level (is_listed (drops ++ more) writer) (is_listed more writer) calls
      (λ k within. is_listed-none_before drops more writer k (is_listed-others drops writer k (λ l f inside same. omega (arith, below l f inside, same))))
