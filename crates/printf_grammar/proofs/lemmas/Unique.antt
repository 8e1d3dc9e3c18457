-- A text has one reading: it spells one list of pieces, or it breaks at one place from one cause, and not both.
use Rattle.std.proofs.Common.{◌≡◌, ◌⊎◌, ℕ, zero, suc, ◌<◌, ◌≤◌, List, [], ◌∷◌, ◌++◌, length, Option, Some, None, inl, inr, refl, sym, ap, subst, ◌∙◌, arith, append_assoc, length-append}
use Rattle.std.specs.Prelude.{slice_get}
use Rattle.std.proofs.lemmas.List.{append-nil, nil_from_length}
use Rattle.printf_grammar.specs.declared.fault.FormatCause.{FormatCause}
use Rattle.printf_grammar.specs.declared.fault.ParseFault.{ParseFault}
use Rattle.printf_grammar.specs.declared.fault.ParseFault.TheVariants.{Bad, NoMemory}
use Rattle.printf_grammar.specs.declared.piece.Piece.{Piece}
use Rattle.printf_grammar.specs.declared.piece.Piece.TheVariants.{Literal, Percent, Field}
use Rattle.printf_grammar.specs.Spelling.{SpellsPiece, SpelledFrom, Spells}
use Rattle.printf_grammar.specs.Breaks.{Head, cause_at, unfinished_bytes, ReadsTo, BreaksAt, FormatBreak}
use Rattle.printf_grammar.proofs.lemmas.Shortening.{snoc_cases, cons_parts}
use Rattle.printf_grammar.proofs.Steps.{taken, Reached, last_step}

-- ---- the same bytes lead to the same pieces and head

piece_some : (at : ℕ) (bytes : List ℕ) (piece : Piece) → SpellsPiece at bytes piece → 0 < length bytes
piece_some at bytes (Literal start end) spelled = spelled.nonempty
piece_some at bytes Percent spelled = omega (arith, ap length spelled)
piece_some at bytes (Field spec) spelled = rw spelled.whole (omega arith)

no_pieces : (whole : List ℕ) (pieces : List Piece) → whole ≡ [] → SpelledFrom 0 whole pieces → pieces ≡ []
no_pieces whole [] none spelled = refl
no_pieces whole (piece ∷ pieces) none spelled =
    absurd (omega (arith, piece_some 0 spelled.0 piece spelled.3, ap length none, ap length spelled.2, length-append spelled.0 spelled.1))

reached_nothing : (bytes : List ℕ) (pieces : List Piece) (head : Option Head) → bytes ≡ [] → Reached bytes pieces head → (pieces ≡ []) × (head ≡ None)
reached_nothing bytes pieces None none reached = (no_pieces reached.whole pieces (sym (append-nil reached.whole) ∙ sym reached.joined ∙ none) reached.spelled, refl)
reached_nothing bytes pieces (Some head) none reached = absurd (omega (arith, ap length none, ap length reached.joined, length-append reached.whole (unfinished_bytes (Some head))))

same_step : (n : ℕ) (bytes : List ℕ) (p q : List Piece) (g h : Option Head) → length bytes ≡ n → Reached bytes p g → Reached bytes q h → (p ≡ q) × (g ≡ h)
same_step zero bytes p q g h e first second =
    let none : bytes ≡ [] = nil_from_length bytes e in
    let a = reached_nothing bytes p g none first in
    let b = reached_nothing bytes q h none second in
    (a.0 ∙ sym b.0, a.1 ∙ sym b.1)
same_step (suc n) bytes p q g h e first second =
    elim (snoc_cases bytes) [
      | inl none ↦ absurd (omega (arith, e, ap length none))
      | inr parts ↦
          let before = parts.0 in
          let byte = parts.1 in
          let a = last_step before byte p g (subst (λ (all : List ℕ). Reached all p g) parts.2 first) in
          let b = last_step before byte q h (subst (λ (all : List ℕ). Reached all q h) parts.2 second) in
          let same = same_step n before a.pieces b.pieces a.head b.head (omega (arith, e, ap length parts.2, length-append before (byte ∷ []))) a.reached b.reached in
          (sym a.pieces_is ∙ rw (same.0, same.1) refl ∙ b.pieces_is, sym a.head_is ∙ rw same.1 refl ∙ b.head_is)
    ]

pub same : (bytes : List ℕ) (p q : List Piece) (g h : Option Head) → Reached bytes p g → Reached bytes q h → (p ≡ q) × (g ≡ h)
same bytes p q g h first second = same_step (length bytes) bytes p q g h refl first second

-- ---- nothing breaks on the way

-- what the bytes before this one lead to, behind which the byte goes on
record Passed (before : List ℕ) (byte : ℕ) : Type 0 where
  pieces : List Piece
  head : Option Head
  reached : Reached before pieces head
  free : cause_at head (taken pieces head) (Some byte) ≡ None

passed_in : (n : ℕ) (before : List ℕ) (byte : ℕ) (more : List ℕ) (pieces : List Piece) (head : Option Head) → length more ≡ n → Reached (before ++ byte ∷ more) pieces head → taken pieces head ≤ 64 → Passed before byte
passed_in zero before byte more pieces head e reached few =
    let alone : before ++ byte ∷ more ≡ before ++ byte ∷ [] = ap (λ (rest : List ℕ). before ++ byte ∷ rest) (nil_from_length more e) in
    let step = last_step before byte pieces head (subst (λ (all : List ℕ). Reached all pieces head) alone reached) in
    record { pieces = step.pieces; head = step.head; reached = step.reached; free = step.free few }
passed_in (suc n) before byte more pieces head e reached few =
    elim (snoc_cases more) [
      | inl none ↦ absurd (omega (arith, e, ap length none))
      | inr parts ↦
          let shape : before ++ byte ∷ more ≡ (before ++ byte ∷ parts.0) ++ parts.1 ∷ [] = ap (λ (rest : List ℕ). before ++ byte ∷ rest) parts.2 ∙ sym (append_assoc before (byte ∷ parts.0) (parts.1 ∷ [])) in
          let step = last_step (before ++ byte ∷ parts.0) parts.1 pieces head (subst (λ (all : List ℕ). Reached all pieces head) shape reached) in
          passed_in n before byte parts.0 step.pieces step.head (omega (arith, e, ap length parts.2, length-append parts.0 (parts.1 ∷ []))) step.reached (let less = step.fewer in omega arith)
    ]

reads_reached : (bytes : List ℕ) (head : Option Head) (count : ℕ) (reads : ReadsTo bytes head count) → Reached bytes reads.pieces head
reads_reached bytes head count reads = record { whole = reads.whole; joined = reads.joined; spelled = reads.spelled; apart = reads.apart; right = reads.right }

none_some : (cause : FormatCause) → (let none : Option FormatCause = None in none ≡ Some cause) → ⊥
none_some cause e = cc

some_same : (a b : FormatCause) → (let some : Option FormatCause = Some a in some ≡ Some b) → a ≡ b
some_same a b e = cc

-- bytes that go on past a break are not right
passes_break : (bytes before : List ℕ) (cause : FormatCause) (byte : ℕ) (behind more : List ℕ) (head : Option Head) (count : ℕ) (pieces : List Piece) (last : Option Head) → ReadsTo before head count → cause_at head count (slice_get (byte ∷ behind) 0) ≡ Some cause
    → Reached (before ++ byte ∷ more) pieces last → taken pieces last ≤ 64 → ⊥
passes_break bytes before cause byte behind more head count pieces last reads stops reached few =
    let passed = passed_in (length more) before byte more pieces last refl reached few in
    let both = same before passed.pieces reads.pieces passed.head head passed.reached (reads_reached before head count reads) in
    let counted : taken passed.pieces passed.head ≡ count = rw (both.0, both.1) (sym reads.count_is) in
    let free : cause_at head count (Some byte) ≡ None = rw (sym both.1, sym counted) passed.free in
    none_some cause (sym free ∙ stops)

-- ---- two prefixes of the same bytes

-- the first is shorter, by this byte and more
record IsBefore (xs left ys right : List ℕ) : Type 0 where
  byte : ℕ
  more : List ℕ
  longer : ys ≡ xs ++ byte ∷ more
  behind : left ≡ byte ∷ (more ++ right)

compare : (xs left ys right : List ℕ) → xs ++ left ≡ ys ++ right → ((xs ≡ ys) × (left ≡ right)) ⊎ (IsBefore xs left ys right ⊎ IsBefore ys right xs left)
compare [] left [] right e = inl (refl, e)
compare [] left (y ∷ ys) right e = inr (inl (record { byte = y; more = ys; longer = refl; behind = e }))
compare (x ∷ xs) left [] right e = inr (inr (record { byte = x; more = xs; longer = refl; behind = sym e }))
compare (x ∷ xs) left (y ∷ ys) right e =
    let parts = cons_parts x y _ _ e in
    elim (compare xs left ys right parts.1) [
      | inl same ↦ inl (rw (parts.0, same.0) refl, same.1)
      | inr (inl less) ↦ inr (inl (record { byte = less.byte; more = less.more; longer = rw (parts.0, less.longer) refl; behind = less.behind }))
      | inr (inr more) ↦ inr (inr (record { byte = more.byte; more = more.more; longer = rw (parts.0, more.longer) refl; behind = more.behind }))
    ]

-- bytes that are right up to here go no further than a break
before_break : (bytes : List ℕ) (cause : FormatCause) (place : ℕ) (breaks : BreaksAt bytes cause place) (ys bs : List ℕ) (pieces : List Piece) (last : Option Head) → IsBefore breaks.before breaks.after ys bs → Reached ys pieces last → taken pieces last ≤ 64 → ⊥
before_break bytes cause place breaks ys bs pieces last less reached few =
    passes_break bytes breaks.before cause less.byte (less.more ++ bs) less.more breaks.head breaks.count pieces last breaks.right
    (subst (λ (after : List ℕ). cause_at breaks.head breaks.count (slice_get after 0) ≡ Some cause) less.behind breaks.stops)
    (subst (λ (all : List ℕ). Reached all pieces last) less.longer reached) few

reads_few : (bytes : List ℕ) (head : Option Head) (count : ℕ) (reads : ReadsTo bytes head count) → taken reads.pieces head ≤ 64
reads_few bytes head count reads = omega (arith, reads.count_is, reads.few)

two_breaks : (bytes : List ℕ) (a b : FormatCause) (m n : ℕ) → BreaksAt bytes a m → BreaksAt bytes b n → (a ≡ b) × (m ≡ n)
two_breaks bytes a b m n first second =
    elim (compare first.before first.after second.before second.after (sym first.joined ∙ second.joined)) [
      | inl alike ↦
          let reads = subst (λ (all : List ℕ). Reached all second.right.pieces second.head) (sym alike.0) (reads_reached second.before second.head second.count second.right) in
          let both = same first.before first.right.pieces second.right.pieces first.head second.head (reads_reached first.before first.head first.count first.right) reads in
          let counted : first.count ≡ second.count = first.right.count_is ∙ rw (both.0, both.1) (sym second.right.count_is) in
          let stops : cause_at first.head first.count (slice_get first.after 0) ≡ Some b = rw (both.1, counted, alike.1) second.stops in
          (some_same a b (sym first.stops ∙ stops), first.place_is ∙ ap length alike.0 ∙ sym second.place_is)
      | inr (inl less) ↦ absurd (before_break bytes a m first second.before second.after second.right.pieces second.head less (reads_reached second.before second.head second.count second.right) (reads_few second.before second.head second.count second.right))
      | inr (inr more) ↦ absurd (before_break bytes b n second first.before first.after first.right.pieces first.head more (reads_reached first.before first.head first.count first.right) (reads_few first.before first.head first.count first.right))
    ]

no_cause : (head : Option Head) (count : ℕ) (after : List ℕ) → head ≡ None → after ≡ [] → cause_at head count (slice_get after 0) ≡ None
no_cause head count after none ended = rw (none, ended) refl

-- ---- the three laws

spells_reached : (bytes : List ℕ) (pieces : List Piece) → Spells bytes pieces → Reached bytes pieces None
spells_reached bytes pieces spells = record { whole = bytes; joined = sym (append-nil bytes); spelled = spells.spelled; apart = spells.apart; right = tt }

pub spells_once : (bytes : List ℕ) (pieces others : List Piece) → Spells bytes pieces → Spells bytes others → pieces ≡ others
spells_once bytes pieces others first second = (same bytes pieces others None None (spells_reached bytes pieces first) (spells_reached bytes others second)).0

pub breaks_once : (bytes : List ℕ) (a b : FormatCause) (m n : ℕ) → FormatBreak bytes a m → FormatBreak bytes b n → (a ≡ b) × (m ≡ n)
breaks_once bytes a b m n (inl first) (inl second) = (first.cause_is ∙ sym second.cause_is, first.place_is ∙ sym second.place_is)
breaks_once bytes a b m n (inl first) (inr second) = absurd (omega (arith, first.long, second.short))
breaks_once bytes a b m n (inr first) (inl second) = absurd (omega (arith, first.short, second.long))
breaks_once bytes a b m n (inr first) (inr second) = two_breaks bytes a b m n first second

pub never_both : (bytes : List ℕ) (pieces : List Piece) (cause : FormatCause) (place : ℕ) → Spells bytes pieces → FormatBreak bytes cause place → ⊥
never_both bytes pieces cause place spells (inl long) = omega (arith, spells.short, long.long)
never_both bytes pieces cause place spells (inr breaks) =
    let few : taken pieces None ≤ 64 = omega (arith, spells.few) in
    elim (compare breaks.before breaks.after bytes [] (sym breaks.joined ∙ sym (append-nil bytes))) [
      | inl alike ↦
          let reads = subst (λ (all : List ℕ). Reached all pieces None) (sym alike.0) (spells_reached bytes pieces spells) in
          let both = same breaks.before breaks.right.pieces pieces breaks.head None (reads_reached breaks.before breaks.head breaks.count breaks.right) reads in
          none_some cause (sym (no_cause breaks.head breaks.count breaks.after both.1 alike.1) ∙ breaks.stops)
      | inr (inl less) ↦ before_break bytes cause place breaks bytes [] pieces None less (spells_reached bytes pieces spells) few
      | inr (inr more) ↦ absurd (let none = ap length more.behind in omega arith)
    ]

-- ---- the answers of a reader whose breaks are right

pub fault_of_spelled : (bytes : List ℕ) (pieces : List Piece) (fault : ParseFault) → ((cause : FormatCause) (place : ℕ) → fault ≡ Bad cause place → BreaksAt bytes cause place) → Spells bytes pieces → fault ≡ NoMemory
fault_of_spelled bytes pieces (Bad cause place) breaks spells = absurd (never_both bytes pieces cause place spells (inr (breaks cause place refl)))
fault_of_spelled bytes pieces NoMemory breaks spells = refl

pub fault_of_break : (bytes : List ℕ) (cause : FormatCause) (place : ℕ) (fault : ParseFault) → ((cause : FormatCause) (place : ℕ) → fault ≡ Bad cause place → BreaksAt bytes cause place) → FormatBreak bytes cause place → (fault ≡ Bad cause place) ⊎ (fault ≡ NoMemory)
fault_of_break bytes cause place (Bad found at) breaks break = let same = breaks_once bytes found cause at place (inr (breaks found at refl)) break in inl (rw (same.0, same.1) refl)
fault_of_break bytes cause place NoMemory breaks break = inr refl
