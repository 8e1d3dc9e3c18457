-- What a word is, as the reader of words sees it.
use Rattle.std.proofs.Common.{◌≡◌, ℕ, Bool, true, false, [], ◌∷◌, Some, None, refl, sym, ap, eqb, ◌∙◌}
use Rattle.std.specs.Prelude.{◌==◌}
use Rattle.std.specs.List.{before_first}
use Rattle.std.specs.Str.{bytes_eq}
use Rattle.std.proofs.lemmas.Slice.Eq.{bytes_eq-Decides}
use Rattle.std.proofs.lemmas.Bool.{eqb-true, true≢false}
use Rattle.std.proofs.Math.Numerals.{one-add}
use Rattle.clap.specs.Lexer.{long_of, short_of, has_byte}
use Rattle.cli_words.specs.Commands.{WordBytes, Word, Name, End, Awaits, Sets, Unknown, word_of, long_word, after_dashes}

-- the word `--`
abbrev pub dashes : WordBytes
dashes = 45 ∷ 45 ∷ []

-- what the reader makes of a word of this kind
abbrev pub Tells : WordBytes → Word → Type 0
Tells word Name = (bytes_eq word dashes ≡ false) × (long_of word ≡ None) × (short_of word ≡ None)
Tells word End = bytes_eq word dashes ≡ true
Tells word (Awaits option) = (bytes_eq word dashes ≡ false) × (long_of word ≡ Some (option, None))
Tells word (Sets option value) = (bytes_eq word dashes ≡ false) × (long_of word ≡ Some (option, Some value))
Tells word Unknown = (bytes_eq word dashes ≡ false) × (long_of word ≡ None)
    × ((first : ℕ) × (rest : WordBytes) × (short_of word ≡ Some (first ∷ rest)) × (word ≡ 45 ∷ first ∷ rest))

tells_one : (first : ℕ) → Tells (first ∷ []) Name
tells_one first = go (eqb first 45) refl
  where
    go : (b : Bool) → eqb first 45 ≡ b → Tells (first ∷ []) Name
    go true e = (rw e refl, rw e refl, rw e refl)
    go false e = (rw e refl, rw e refl, rw e refl)

-- a text with no `=` stands before the first one, whole
whole : (text : WordBytes) → has_byte 61 text ≡ false → before_first (λ x. x == 61) text ≡ text
whole [] none = refl
whole (byte ∷ bytes) none = go (byte == 61) refl (whole bytes)
  where
    go : (b : Bool) → (byte == 61) ≡ b → (has_byte 61 bytes ≡ false → before_first (λ x. x == 61) bytes ≡ bytes)
        → before_first (λ x. x == 61) (byte ∷ bytes) ≡ byte ∷ bytes
    go true e rest = absurd (true≢false (rw e at none))
    go false e rest = rw (e, one-add) (ap (λ (more : WordBytes). byte ∷ more) (rest (rw e at none)))

tells_long : (byte : ℕ) (bytes : WordBytes) → Tells (45 ∷ 45 ∷ byte ∷ bytes) (after_dashes (byte ∷ bytes))
tells_long byte bytes = go (has_byte 61 (byte ∷ bytes)) refl
  where
    go : (b : Bool) → has_byte 61 (byte ∷ bytes) ≡ b → Tells (45 ∷ 45 ∷ byte ∷ bytes) (after_dashes (byte ∷ bytes))
    go true e = rw e (refl, rw e refl)
    go false e = rw e (refl, rw (e, whole (byte ∷ bytes) e) refl)

tells_two : (second : ℕ) (bytes : WordBytes) → Tells (45 ∷ second ∷ bytes) (long_word 45 second bytes)
tells_two second bytes = go (eqb second 45) refl bytes
  where
    go : (b : Bool) → eqb second 45 ≡ b → (bytes : WordBytes) → Tells (45 ∷ second ∷ bytes) (long_word 45 second bytes)
    go true e [] = let same : second ≡ 45 = eqb-true second 45 e in rw same refl
    go true e (byte ∷ bytes) = let same : second ≡ 45 = eqb-true second 45 e in rw same (tells_long byte bytes)
    go false e bytes = rw e (rw e refl, rw e refl, (second, bytes, rw e refl, refl))

-- each word is what it is
pub tells : (word : WordBytes) → Tells word (word_of word)
tells [] = (refl, refl, refl)
tells (first ∷ []) = tells_one first
tells (first ∷ second ∷ bytes) = go (eqb first 45) refl
  where
    go : (b : Bool) → eqb first 45 ≡ b → Tells (first ∷ second ∷ bytes) (long_word first second bytes)
    go true e = let same : first ≡ 45 = eqb-true first 45 e in rw same (tells_two second bytes)
    go false e = rw e (rw e refl, rw e refl, rw e refl)

-- ---- the same text

pub same_text : (text : WordBytes) → bytes_eq text text ≡ true
same_text text = (bytes_eq-Decides text text).1 refl

-- the test is the same from either side
pub turned : (a b : WordBytes) → bytes_eq a b ≡ bytes_eq b a
turned a b = go (bytes_eq a b) refl (bytes_eq b a) refl
  where
    go : (p : Bool) → bytes_eq a b ≡ p → (q : Bool) → bytes_eq b a ≡ q → bytes_eq a b ≡ bytes_eq b a
    go true e true f = e ∙ sym f
    go false e false f = e ∙ sym f
    go true e false f =
        let same : a ≡ b = (bytes_eq-Decides a b).0 e in
        absurd (true≢false (sym ((bytes_eq-Decides b a).1 (sym same)) ∙ f))
    go false e true f =
        let same : b ≡ a = (bytes_eq-Decides b a).0 f in
        absurd (true≢false (sym ((bytes_eq-Decides a b).1 (sym same)) ∙ e))
