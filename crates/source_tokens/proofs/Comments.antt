-- Block comments that are passed byte by byte.
use Rattle.std.proofs.Common.{◌≡◌, ℕ, ◌<◌, ◌≤◌, Bool, true, false, not, ◌&&◌, ◌==◌, List, [], ◌∷◌, length, get_or, refl, sym, ap, ◌∙◌, inl, inr, eq-eqb}
use Rattle.std.proofs.lemmas.Bool.{cases_Bool, eqb-true, false≢true}
use Rattle.source_tokens.specs.Forms.{is_comment_body}
use Rattle.source_tokens.specs.Splices.{past_splices}
use Rattle.source_tokens.specs.Reading.{EndsLongest}
use Rattle.source_tokens.proofs.lemmas.Passing.{Passes, back_of, passes-front, ends-nothing, ends-here}

-- what may follow behind a `*` or another byte of a comment
abbrev pub left_of : Bool → List ℕ → Bool
left_of true more = is_comment_body (42 ∷ more)
left_of false more = is_comment_body more

-- a byte that isn't `*` can be left out in front
plain_out : (byte : ℕ) → (byte == 42) ≡ false → (more : List ℕ) → is_comment_body (byte ∷ more) ≡ is_comment_body more
unfolding is_comment_body
plain_out byte plain [] = refl
plain_out byte plain (next ∷ []) = refl
plain_out byte plain (next ∷ third ∷ more) = ap (λ star. not (star && next == 47) && is_comment_body (next ∷ third ∷ more)) plain

-- a `*` can be left out in front of a byte that isn't `/`
star_out : (byte : ℕ) → (byte == 47) ≡ false → (more : List ℕ) → is_comment_body (42 ∷ byte ∷ more) ≡ is_comment_body (byte ∷ more)
unfolding is_comment_body
star_out byte plain [] = refl
star_out byte plain (next ∷ more) = ap (λ slash. not slash && is_comment_body (byte ∷ next ∷ more)) plain

first_out : (byte : ℕ) (more : List ℕ) → is_comment_body (byte ∷ more) ≡ left_of (byte == 42) more
first_out byte more = elim (cases_Bool (byte == 42)) [
  | inl star ↦ ap (λ first. is_comment_body (first ∷ more)) (eqb-true byte 42 star) ∙ ap (λ b. left_of b more) (sym star)
  | inr plain ↦ plain_out byte plain more ∙ ap (λ b. left_of b more) (sym plain)
]

-- a byte is passed, unless it ends the comment
pub one_out : (star : Bool) (byte : ℕ) → (star && byte == 47) ≡ false → (more : List ℕ) → left_of star (byte ∷ more) ≡ left_of (byte == 42) more
one_out true byte on more = star_out byte on more ∙ first_out byte more
one_out false byte on more = first_out byte more

pub comment-front : (star : Bool) (bytes rest : List ℕ) → Passes is_comment_body (left_of star) bytes rest → 1 ≤ length rest → (star && get_or rest 0 0 == 47) ≡ false → Passes is_comment_body (left_of (get_or rest 0 0 == 42)) bytes (past_splices (back_of rest))
comment-front star bytes rest passes some on = passes-front is_comment_body (left_of star) (left_of (get_or rest 0 0 == 42)) bytes rest passes some (one_out star (get_or rest 0 0) on)

ended : List ℕ → Bool
ended [] = true
ended (byte ∷ more) = false

slash_out : (byte : ℕ) → byte ≡ 47 → (more : List ℕ) → is_comment_body (42 ∷ byte ∷ more) ≡ ended more
unfolding is_comment_body ended
slash_out byte slash [] = refl
slash_out byte slash (next ∷ more) = ap (λ b. not (42 == 42 && b) && is_comment_body (byte ∷ next ∷ more)) (eq-eqb byte 47 slash)

pub comment-ends : (star : Bool) (bytes rest : List ℕ) → Passes is_comment_body (left_of star) bytes rest → 1 ≤ length rest → star ≡ true → get_or rest 0 0 ≡ 47 → EndsLongest is_comment_body bytes (past_splices (back_of rest))
unfolding ended
comment-ends true bytes rest passes some is_star slash =
    ends-here is_comment_body ended bytes (past_splices (back_of rest)) (passes-front is_comment_body (left_of true) ended bytes rest passes some (slash_out (get_or rest 0 0) slash)) refl (λ byte more. refl)
comment-ends false bytes rest passes some is_star slash = absurd (false≢true is_star)

left_nothing : (star : Bool) → left_of star [] ≡ true
unfolding is_comment_body
left_nothing true = refl
left_nothing false = refl

pub comment-nothing : (star : Bool) (bytes rest : List ℕ) → Passes is_comment_body (left_of star) bytes rest → length rest < 1 → EndsLongest is_comment_body bytes rest
comment-nothing star bytes rest passes none = ends-nothing is_comment_body (left_of star) bytes rest passes (left_nothing star) none
