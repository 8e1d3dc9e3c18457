-- Workers for new writers.
use Rattle.std.proofs.Common.{◌≡◌, ℕ, ◌+◌, ◌<◌, List, [], ◌∷◌, ◌++◌, map, length, refl, sym, ap, ◌∙◌, arith}
use Rattle.std.specs.List.{AllZip, enumerate_from}
use Rattle.std.proofs.lemmas.List.{length-append, length-map, map-append}
use Rattle.std.proofs.lemmas.List.FromFn.{length-enumerate_from}
use Rattle.session_options.specs.declared.options.Options.{Options}
use Rattle.trace_text.specs.Recordings.{Recording}
use Rattle.trace_session.specs.Workers.{Work}
use Rattle.trace_session.specs.Finishing.{work_at, works_of}
use Rattle.trace_session.proofs.Taking.{numbered_push}

-- ---- two lists, place by place

-- what both lists give is the same
pub zip_maps : {A B C : Type 0} (R : A → B → Type 0) (f : A → C) (g : B → C) → ((x : A) (y : B) → R x y → f x ≡ g y) → (xs : List A) (ys : List B) → AllZip R xs ys → map f xs ≡ map g ys
zip_maps R f g same [] [] all = refl
zip_maps R f g same [] (b ∷ ys) all = absurd all
zip_maps R f g same (a ∷ xs) [] all = absurd all
zip_maps R f g same (a ∷ xs) (b ∷ ys) all =
    let here = same a b all.0 in
    let others = zip_maps R f g same xs ys all.1 in
    λ i. here i ∷ others i

-- ---- works

pub works_count : (run : Recording) (options : Options) (pairs : List (List ℕ)) → length (works_of run options pairs) ≡ length pairs
works_count run options pairs = length-map {B = Work} (enumerate_from 0 pairs) (work_at run options) ∙ length-enumerate_from 0 pairs

-- one work more
pub works_more : {A : Type 0} (run : Recording) (options : Options) (f : A → List ℕ) (seen : List A) (x : A)
    → works_of run options (map f (seen ++ x ∷ [])) ≡ works_of run options (map f seen) ++ work_at run options (length seen, f x) ∷ []
works_more {A} run options f seen x =
    let place : 0 + length (map f seen) ≡ length seen = omega (arith, length-map {B = List ℕ} seen f) in
    ap (λ (l : List (List ℕ)). works_of run options l) (map-append f seen (x ∷ []))
    ∙ ap (λ (l : List (ℕ × List ℕ)). map (work_at run options) l) (numbered_push 0 (map f seen) (f x))
    ∙ map-append (work_at run options) (enumerate_from 0 (map f seen)) ((0 + length (map f seen), f x) ∷ [])
    ∙ ap (λ (n : ℕ). works_of run options (map f seen) ++ work_at run options (n, f x) ∷ []) place

-- there are as many workers as writers that were seen
pub workers_count : {A B : Type 0} (run : Recording) (options : Options) (f : A → List ℕ) (g : B → Work) (seen : List A) (workers : List B) → map g workers ≡ works_of run options (map f seen) → length workers ≡ length seen
workers_count {A} {B} run options f g seen workers are =
    sym (length-map {B = Work} workers g) ∙ ap (λ (l : List Work). length l) are ∙ works_count run options (map f seen) ∙ length-map {B = List ℕ} seen f

-- the worker of the next writer is put to those before it
pub workers_more : {A B : Type 0} (run : Recording) (options : Options) (f : A → List ℕ) (g : B → Work) (seen : List A) (x : A) (workers after : List B) → map g workers ≡ works_of run options (map f seen)
    → map g after ≡ map g workers ++ work_at run options (length workers, f x) ∷ [] → map g after ≡ works_of run options (map f (seen ++ x ∷ []))
workers_more {A} {B} run options f g seen x workers after are more =
    more
    ∙ (λ i. are i ++ work_at run options (workers_count run options f g seen workers are i, f x) ∷ [])
    ∙ sym (works_more run options f seen x)

-- ---- a list that is walked through

-- fewer were seen than there are
pub fewer_seen : {A : Type 0} (seen rest more all : List A) (x : A) (count : ℕ) → seen ++ rest ≡ all → rest ≡ x ∷ more → length all ≡ count → length seen < count
fewer_seen {A} seen rest more all x count joined is long =
    omega (arith, ap (λ (l : List A). length l) joined, length-append seen rest, ap (λ (l : List A). length l) is, long)
