-- What came from a source, and what went to a sink, over several calls.
use Rattle.std.proofs.Common.{◌≡◌, ℕ, ◌+◌, ◌≤◌, List, ◌++◌, length, take, drop, Some, None, refl, sym, ap, subst, ◌∙◌, append_assoc, arith}
use Rattle.std.proofs.lemmas.List.{append-nil, take-append-drop, take-append-le, length-append}
use Rattle.std.proofs.Math.Seq.{take-add, take-append-add, take-length, drop-append_seam}
use Rattle.nl_io.specs.Content.{Told, without_front, with_end, IsFront, PutsFront, Came}

pub Came-more : (bytes piece : List ℕ) (n : ℕ) (old mid new : Told) → Came bytes old mid → IsFront n piece mid → new ≡ without_front n mid → Came (bytes ++ piece) old new
Came-more bytes piece n None mid new came front moved = moved ∙ ap (without_front n) came
Came-more bytes piece n (Some content) mid new (others, whole, is) front moved =
    let part : (n ≤ length others) × (piece ≡ take n others) = subst (IsFront n piece) is front in
    let parts : others ≡ piece ++ drop n others = sym (take-append-drop n others) ∙ ap (λ (p : List ℕ). p ++ drop n others) (sym part.1) in
    (drop n others, whole ∙ ap (λ (o : List ℕ). bytes ++ o) parts ∙ sym (append_assoc bytes piece (drop n others)), moved ∙ ap (without_front n) is)

pub with_end-more : (bytes : List ℕ) (done n : ℕ) (old mid new : Told) → done + n ≤ length bytes → mid ≡ with_end (take done bytes) old
    → new ≡ with_end (take n (drop done bytes)) mid → new ≡ with_end (take (done + n) bytes) old
with_end-more bytes done n None mid new fits so_far more = more ∙ ap (with_end (take n (drop done bytes))) so_far
with_end-more bytes done n (Some content) mid new fits so_far more =
    more ∙ ap (with_end (take n (drop done bytes))) so_far
    ∙ ap Some (append_assoc content (take done bytes) (take n (drop done bytes)) ∙ ap (λ (p : List ℕ). content ++ p) (sym (take-add done n bytes)))

pub with_end-none : (bytes : List ℕ) (old : Told) → old ≡ with_end (take 0 bytes) old
with_end-none bytes None = refl
with_end-none bytes (Some content) = ap Some (sym (append-nil content))

-- what is left behind bytes that came
pub Came-front : (bytes : List ℕ) (old now : Told) → Came bytes old now → now ≡ without_front (length bytes) old
Came-front bytes None now came = came
Came-front bytes (Some content) now (others, whole, is) = is ∙ ap Some (sym (drop-append_seam bytes others) ∙ ap (drop (length bytes)) (sym whole))

-- ---- fronts of bytes that are put in several calls

pub with_end-both : (a b : List ℕ) (was : Told) → with_end b (with_end a was) ≡ with_end (a ++ b) was
with_end-both a b None = refl
with_end-both a b (Some content) = ap Some (append_assoc content a b)

-- a front of the first part is one of both
pub front-first : (a b : List ℕ) (was is : Told) → PutsFront a was is → PutsFront (a ++ b) was is
front-first a b was is (n, few, put) = (n, omega (arith, few, length-append a b), put ∙ ap (λ (bytes : List ℕ). with_end bytes was) (sym (take-append-le n a b few)))

-- the first part, and a front of the second
pub front-second : (a b : List ℕ) (was mid is : Told) → mid ≡ with_end a was → PutsFront b mid is → PutsFront (a ++ b) was is
front-second a b was mid is whole (n, few, put) = (
  length a + n,
  omega (arith, few, length-append a b),
  put ∙ ap (with_end (take n b)) whole ∙ with_end-both a (take n b) was ∙ ap (λ (bytes : List ℕ). with_end bytes was) (sym (take-append-add a b n)),
)

-- all bytes are a front
pub front-whole : (bytes : List ℕ) (was is : Told) → is ≡ with_end bytes was → PutsFront bytes was is
front-whole bytes was is whole = (length bytes, omega arith, whole ∙ ap (λ (b : List ℕ). with_end b was) (sym (take-length bytes)))
