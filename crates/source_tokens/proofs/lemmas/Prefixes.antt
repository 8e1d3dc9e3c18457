-- Prefixes of raw strings.
use Rattle.std.proofs.Common.{◌≡◌, ◌≢◌, ℕ, ◌+◌, ◌<◌, ◌≤◌, Bool, true, false, not, ◌==◌, List, [], ◌∷◌, ◌++◌, length, take, drop, get_or, refl, sym, subst, ap, ◌∙◌, inl, inr, arith, eq-eqb}
use Rattle.std.specs.List.{list_all}
use Rattle.std.proofs.lemmas.Bool.{cases_lt, and_parts, false≢true}
use Rattle.std.proofs.lemmas.List.{take_more, drop_more, take-append-drop, take_all}
use Rattle.std.proofs.lemmas.List.Folds.{list_all-append}
use Rattle.source_tokens.specs.Splices.{past_splices}
use Rattle.source_tokens.specs.Reading.{ReadsUnspliced}
use Rattle.source_tokens.specs.RawStrings.{IsRawPrefix, BeginsRaw, EndsRaw, opens_raw, is_prefix_byte}
use Rattle.source_tokens.specs.Forms.{first_passes}
use Rattle.source_tokens.specs.Tokens.{StandsRaw}
use Rattle.source_tokens.specs.declared.kind.TokenKind.{TokenKind}
use Rattle.source_tokens.proofs.lemmas.Texts.{reads-push, reads-first, reads-nothing, reads-rest, reads-once, reads-longer, reads-length}
use Rattle.source_tokens.proofs.lemmas.Passing.{back_of, first_and_back, nothing_there}

-- one letter more was read
pub letter-more : (bytes prefix rest : List ℕ) (i : ℕ) → i < length prefix → ReadsUnspliced bytes (take i prefix) rest → 1 ≤ length rest → get_or rest 0 0 ≡ get_or prefix i 0 → ReadsUnspliced bytes (take (i + 1) prefix) (past_splices (back_of rest))
letter-more bytes prefix rest i within reads some same =
    let parted : ReadsUnspliced bytes (take i prefix) (get_or rest 0 0 ∷ back_of rest) = subst (ReadsUnspliced bytes (take i prefix)) (first_and_back rest some) reads in
    let letter : take (i + 1) prefix ≡ take i prefix ++ get_or rest 0 0 ∷ [] = take_more prefix i 0 within ∙ ap (λ first. take i prefix ++ first ∷ []) (sym same) in
    rw letter (reads-push bytes (take i prefix) (get_or rest 0 0) (back_of rest) parted)

-- what stands behind the first letters goes on with the others
others_follow : (bytes prefix rest end : List ℕ) (i : ℕ) → i < length prefix → ReadsUnspliced bytes (take i prefix) rest → ReadsUnspliced bytes prefix end → ReadsUnspliced rest (get_or prefix i 0 ∷ drop (i + 1) prefix) end
others_follow bytes prefix rest end i within reads whole =
    let joined : prefix ≡ take i prefix ++ (get_or prefix i 0 ∷ drop (i + 1) prefix) = sym (take-append-drop i prefix) ∙ ap (λ later. take i prefix ++ later) (drop_more prefix i 0 within) in
    reads-rest bytes (take i prefix) rest (get_or prefix i 0 ∷ drop (i + 1) prefix) end reads (subst (λ (text : List ℕ). ReadsUnspliced bytes text end) joined whole)

-- the bytes end within the prefix
pub letter-missing : (bytes prefix rest end : List ℕ) (i : ℕ) → i < length prefix → ReadsUnspliced bytes (take i prefix) rest → length rest < 1 → ReadsUnspliced bytes prefix end → ⊥
letter-missing bytes prefix rest end i within reads none whole =
    reads-nothing (get_or prefix i 0) (drop (i + 1) prefix) end (subst (λ (front : List ℕ). ReadsUnspliced front (get_or prefix i 0 ∷ drop (i + 1) prefix) end) (nothing_there rest none) (others_follow bytes prefix rest end i within reads whole))

-- another byte stands where a letter is due
pub letter-other : (bytes prefix rest end : List ℕ) (i : ℕ) → i < length prefix → ReadsUnspliced bytes (take i prefix) rest → 1 ≤ length rest → get_or rest 0 0 ≢ get_or prefix i 0 → ReadsUnspliced bytes prefix end → ⊥
letter-other bytes prefix rest end i within reads some other whole =
    other (reads-first (get_or rest 0 0) (back_of rest) (get_or prefix i 0) (drop (i + 1) prefix) end
    (subst (λ (front : List ℕ). ReadsUnspliced front (get_or prefix i 0 ∷ drop (i + 1) prefix) end) (first_and_back rest some) (others_follow bytes prefix rest end i within reads whole))).0

-- all letters were read, and what stands behind them is what stands behind the prefix
pub behind-prefix : (bytes prefix rest end : List ℕ) (i : ℕ) → length prefix ≤ i → ReadsUnspliced bytes (take i prefix) rest → ReadsUnspliced bytes prefix end → rest ≡ end
behind-prefix bytes prefix rest end i all reads whole = reads-once bytes prefix rest end (subst (λ (text : List ℕ). ReadsUnspliced bytes text rest) (take_all i prefix all) reads) whole

-- ---- one prefix

is_no_mark : ℕ → Bool
is_no_mark byte = not (byte == 34)

-- no mark stands in a prefix
prefix_marks : (prefix : List ℕ) → IsRawPrefix prefix → list_all is_no_mark prefix ≡ true
unfolding is_no_mark
prefix_marks prefix is =
    elim is [
      | inl e ↦ rw e refl
      | inr is ↦ elim is [ inl e ↦ rw e refl | inr is ↦ elim is [ inl e ↦ rw e refl | inr is ↦ elim is [ inl e ↦ rw e refl | inr e ↦ rw e refl ] ] ]
    ]

same_rest : (p q r s more : List ℕ) → IsRawPrefix q → q ≡ p ++ more → ReadsUnspliced (34 ∷ r) more (34 ∷ s) → r ≡ s
unfolding is_no_mark ReadsUnspliced
same_rest p q r s [] is same reads = cc
same_rest p q r s (byte ∷ more) is same reads =
    let first = reads-first 34 r byte more (34 ∷ s) reads in
    let all : list_all is_no_mark (p ++ byte ∷ more) ≡ true = ap (list_all is_no_mark) (sym same) ∙ prefix_marks q is in
    let later = and_parts (list_all is_no_mark p) (list_all is_no_mark (byte ∷ more)) (sym (list_all-append is_no_mark p (byte ∷ more)) ∙ all) in
    let here = and_parts (is_no_mark byte) (list_all is_no_mark more) later.1 in
    absurd (false≢true (ap not (sym (eq-eqb byte 34 (sym first.0))) ∙ here.0))

-- the mark behind a prefix stands at one place
pub one_mark : (bytes p q r s : List ℕ) → IsRawPrefix p → IsRawPrefix q → ReadsUnspliced bytes p (34 ∷ r) → ReadsUnspliced bytes q (34 ∷ s) → r ≡ s
one_mark bytes p q r s is_p is_q here there = elim (cases_lt (length q) (length p)) [
  | inl lt ↦ let found = reads-longer bytes q (34 ∷ s) p (34 ∷ r) there here (omega arith) in sym (same_rest q p s r found.0 is_p found.1 found.2)
  | inr le ↦ let found = reads-longer bytes p (34 ∷ r) q (34 ∷ s) here there le in same_rest p q r s found.0 is_q found.1 found.2
]

-- the bytes behind the mark aren't those of a raw string
pub not_raw : (bytes prefix raw other : List ℕ) → IsRawPrefix prefix → ReadsUnspliced bytes prefix (34 ∷ raw) → opens_raw raw ≡ false → BeginsRaw bytes other → ⊥
not_raw bytes prefix raw other is reads shut begins =
    let same : other ≡ raw = one_mark bytes begins.prefix prefix other raw begins.is_prefix is begins.reads reads in
    let opens : opens_raw raw ≡ true = subst (λ (behind : List ℕ). opens_raw behind ≡ true) same begins.opens in
    false≢true (sym shut ∙ opens)

pub stands_raw : (bytes prefix raw rest : List ℕ) (kind : TokenKind) → IsRawPrefix prefix → ReadsUnspliced bytes prefix (34 ∷ raw) → opens_raw raw ≡ true → EndsRaw raw kind rest → length rest ≤ length raw → StandsRaw bytes kind rest × (length rest < length bytes)
stands_raw bytes prefix raw rest kind is reads opens ends within =
    (record { raw = raw; begins = record { prefix = prefix; is_prefix = is; reads = reads; opens = opens }; ends = ends }, omega (arith, reads-length bytes prefix (34 ∷ raw) reads))

begins_prefix : (first byte : ℕ) (bytes more rest : List ℕ) → is_prefix_byte byte ≡ true → ReadsUnspliced (first ∷ bytes) (byte ∷ more) rest → is_prefix_byte first ≡ true
begins_prefix first byte bytes more rest is reads = ap is_prefix_byte (reads-first first bytes byte more rest reads).0 ∙ is

first_letter : (bytes : List ℕ) (byte : ℕ) (more rest : List ℕ) → is_prefix_byte byte ≡ true → ReadsUnspliced bytes (byte ∷ more) rest → first_passes is_prefix_byte bytes ≡ true
first_letter [] byte more rest is reads = absurd (reads-nothing byte more rest reads)
first_letter (first ∷ bytes) byte more rest is reads = begins_prefix first byte bytes more rest is reads

-- bytes that begin with a prefix begin with one of its letters
pub prefix-letter : (bytes prefix rest : List ℕ) → IsRawPrefix prefix → ReadsUnspliced bytes prefix rest → first_passes is_prefix_byte bytes ≡ true
prefix-letter bytes prefix rest is reads =
    let at : (text : List ℕ) → prefix ≡ text → ReadsUnspliced bytes text rest = λ text same. subst (λ (front : List ℕ). ReadsUnspliced bytes front rest) same reads in
    elim is [
      | inl e ↦ first_letter bytes 82 _ rest refl (at _ e)
      | inr is ↦ elim is [
        | inl e ↦ first_letter bytes 117 _ rest refl (at _ e)
        | inr is ↦ elim is [
          | inl e ↦ first_letter bytes 117 _ rest refl (at _ e)
          | inr is ↦ elim is [ inl e ↦ first_letter bytes 85 _ rest refl (at _ e) | inr e ↦ first_letter bytes 76 _ rest refl (at _ e) ]
        ]
      ]
    ]
