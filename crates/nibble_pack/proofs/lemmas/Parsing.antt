-- Laws of reading from the front.
use Rattle.std.proofs.Common.{◌≡◌, ℕ, ◌+◌, ◌<◌, ◌≤◌, Bool, true, false, List, [], ◌∷◌, ◌++◌, length, get_or, take, drop, Result, Ok, Err, refl, sym, ap, subst, ◌∙◌, append_assoc, arith}
use Rattle.std.proofs.Math.ListN.{set}
use Rattle.std.specs.Prelude.{nat_le, IsErrAnd, MatchResult}
use Rattle.std.proofs.lemmas.Bool.{le-leb, leb-true}
use Rattle.std.proofs.lemmas.List.{length-append, length-take-le, take-append-drop, take_at, drop_at, drop_more, drop_all, append-nil, take_more_set}
use Rattle.nibble_pack.specs.Parsing.{Parse, ◌>>=◌, provided, so_many, each_of}

-- ---- one thing after another

pub record Found {A B Cause : Type 0} (read : Result A Cause) (next : A → Result B Cause) (y : B) : Type 0 where
  pub x : A
  pub first : read ≡ Ok x
  pub second : next x ≡ Ok y

pub found : {A B Cause : Type 0} (read : Result A Cause) (next : A → Result B Cause) (y : B) → (read >>= next) ≡ Ok y → Found read next y
found (Ok x) next y e = record { x = x; first = refl; second = e }
found (Err cause) next y e = absurd cc

-- a fault that is handed on says the same
pub handed_on : {A E : Type 0} (r : Result A E) (fault : E) (P : A → Type 0) (Q : E → Type 0) → IsErrAnd r (λ y. y ≡ fault) → Q fault → MatchResult r P Q
handed_on (Ok found) fault P Q err here = absurd err
handed_on (Err y) fault P Q err here = subst Q (sym err) here

-- ---- tests

pub given : {A Cause : Type 0} (test : Bool) (cause : Cause) (x y : A) → provided test cause x ≡ Ok y → (test ≡ true) × (x ≡ y)
given true cause x y e = let same : x ≡ y = cc in (refl, same)
given false cause x y e = absurd cc

-- ---- so many bytes

pub so_many_again : {Cause : Type 0} (count : ℕ) (cause : Cause) (front rest : List ℕ) → length front ≡ count → so_many count cause (front ++ rest) ≡ Ok (front, rest)
so_many_again count cause front rest len =
    let enough : nat_le count (length (front ++ rest)) ≡ true = le-leb count (length (front ++ rest)) (omega (arith, length-append front rest)) in
    rw (enough, take_at front rest count len, drop_at front rest count len) refl

pub record Taken (count : ℕ) (bytes front rest : List ℕ) : Type 0 where
  pub parts : bytes ≡ front ++ rest
  pub len : length front ≡ count
  pub enough : count ≤ length bytes
  pub is : front ≡ take count bytes

pub so_many_taken : {Cause : Type 0} (count : ℕ) (cause : Cause) (bytes front rest : List ℕ) → so_many count cause bytes ≡ Ok (front, rest) → Taken count bytes front rest
so_many_taken count cause bytes front rest e =
    let both = given (nat_le count (length bytes)) cause (take count bytes, drop count bytes) (front, rest) e in
    let enough : count ≤ length bytes = leb-true count (length bytes) both.0 in
    let first : take count bytes ≡ front = ap (λ (p : List ℕ × List ℕ). p.0) both.1 in
    let second : drop count bytes ≡ rest = ap (λ (p : List ℕ × List ℕ). p.1) both.1 in
    record {
      parts = sym (take-append-drop count bytes) ∙ (λ t. first t ++ second t);
      len = ap length (sym first) ∙ length-take-le count bytes enough;
      enough = enough;
      is = sym first;
    }

-- ---- one thing behind another

module _ {T M A Cause : Type 0} (few : Cause) (one : T → M → List ℕ → Parse Cause A) where
  -- what was found before, in front of what is read
  abbrev pub behind : List A → List A × List ℕ → Parse Cause (List A)
  behind front others = Ok (front ++ others.0, others.1)

  -- These things were read, and this is left: what all the bytes give is what this gives, behind them.
  abbrev pub IsReadSoFar : List T → List M → List ℕ → List A → ℕ → List ℕ → Type 0
  IsReadSoFar items marks bytes front place rest =
      each_of few one items marks bytes ≡ (each_of few one (drop place items) (drop place marks) rest >>= behind front)

  pub none_read : (items : List T) (marks : List M) (bytes : List ℕ) → IsReadSoFar items marks bytes [] 0 bytes
  none_read items marks bytes = whole (each_of few one items marks bytes)
    where
      whole : (read : Parse Cause (List A)) → read ≡ (read >>= behind [])
      whole (Ok found) = refl
      whole (Err cause) = refl

  -- an item and a mark at a place
  pub record StandsAt (items : List T) (marks : List M) (place : ℕ) (item : T) (mark : M) : Type 0 where
    pub first : drop place items ≡ item ∷ drop (place + 1) items
    pub second : drop place marks ≡ mark ∷ drop (place + 1) marks

  pub stands_at : (items : List T) (marks : List M) (place : ℕ) (item : T) (mark : M) → place < length items → place < length marks → StandsAt items marks place (get_or items place item) (get_or marks place mark)
  stands_at items marks place item mark within marked = record { first = drop_more items place item within; second = drop_more marks place mark marked }

  after_one : (items : List T) (marks : List M) (place : ℕ) (item : T) (mark : M) (rest : List ℕ) (front : List A) → StandsAt items marks place item mark
      → (each_of few one (drop place items) (drop place marks) rest >>= behind front)
      ≡ (one item mark rest >>= (λ here. each_of few one (drop (place + 1) items) (drop (place + 1) marks) here.1 >>= (λ others. Ok (here.0 ∷ others.0, others.1))) >>= behind front)
  after_one items marks place item mark rest front stands = λ t. each_of few one (stands.first t) (stands.second t) rest >>= behind front

  -- one thing more was read
  pub one_read : (items : List T) (marks : List M) (bytes : List ℕ) (front : List A) (place : ℕ) (rest : List ℕ) (item : T) (mark : M) (here : A) (back : List ℕ)
      → IsReadSoFar items marks bytes front place rest → StandsAt items marks place item mark → one item mark rest ≡ Ok (here, back) → IsReadSoFar items marks bytes (front ++ here ∷ []) (place + 1) back
  one_read items marks bytes front place rest item mark here back so_far stands read =
      so_far ∙ after_one items marks place item mark rest front stands
      ∙ ap (λ (r : Parse Cause A). r >>= (λ h. each_of few one (drop (place + 1) items) (drop (place + 1) marks) h.1 >>= (λ others. Ok (h.0 ∷ others.0, others.1))) >>= behind front) read
      ∙ joined (each_of few one (drop (place + 1) items) (drop (place + 1) marks) back)
    where
      joined : (read : Parse Cause (List A)) → (read >>= (λ others. Ok (here ∷ others.0, others.1)) >>= behind front) ≡ (read >>= behind (front ++ here ∷ []))
      joined (Ok others) = ap (λ (all : List A). Ok (all, others.1)) (sym (append_assoc front (here ∷ []) others.0))
      joined (Err cause) = refl

  -- the same of things that are kept in a longer list
  pub one_kept : (items : List T) (marks : List M) (bytes : List ℕ) (kept : List A) (place : ℕ) (rest : List ℕ) (item : T) (mark : M) (here : A) (back : List ℕ)
      → IsReadSoFar items marks bytes (take place kept) place rest → StandsAt items marks place item mark → place < length kept → one item mark rest ≡ Ok (here, back)
      → IsReadSoFar items marks bytes (take (place + 1) (set kept place here)) (place + 1) back
  one_kept items marks bytes kept place rest item mark here back so_far stands room read =
      subst (λ (all : List A). IsReadSoFar items marks bytes all (place + 1) back) (sym (take_more_set kept place here room))
      (one_read items marks bytes (take place kept) place rest item mark here back so_far stands read)

  -- the next thing breaks
  pub one_broken : (items : List T) (marks : List M) (bytes : List ℕ) (front : List A) (place : ℕ) (rest : List ℕ) (item : T) (mark : M) (cause : Cause)
      → IsReadSoFar items marks bytes front place rest → StandsAt items marks place item mark → one item mark rest ≡ Err cause → each_of few one items marks bytes ≡ Err cause
  one_broken items marks bytes front place rest item mark cause so_far stands broken =
      so_far ∙ after_one items marks place item mark rest front stands
      ∙ ap (λ (r : Parse Cause A). r >>= (λ h. each_of few one (drop (place + 1) items) (drop (place + 1) marks) h.1 >>= (λ others. Ok (h.0 ∷ others.0, others.1))) >>= behind front) broken

  -- all were read
  pub all_read : (items : List T) (marks : List M) (bytes : List ℕ) (front : List A) (place : ℕ) (rest : List ℕ)
      → IsReadSoFar items marks bytes front place rest → length items ≤ place → each_of few one items marks bytes ≡ Ok (front, rest)
  all_read items marks bytes front place rest so_far past =
      so_far ∙ ap (λ (left : List T). each_of few one left (drop place marks) rest >>= behind front) (drop_all place items past)
      ∙ ap (λ (all : List A). Ok (all, rest)) (append-nil front)
