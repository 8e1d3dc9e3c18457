-- A source has one list of tokens.
use Rattle.std.proofs.Common.{◌≡◌, ℕ, ◌≤◌, Bool, List, [], ◌∷◌, ◌++◌, length, Option, None, Some, refl, sym, subst, ap, ◌∙◌, inl, inr, arith}
use Rattle.std.proofs.lemmas.Bool.{cases_order}
use Rattle.std.proofs.lemmas.List.{append-nil, length-append}
use Rattle.memchr.specs.Find.{IsFirst}
use Rattle.source_tokens.specs.declared.kind.TokenKind.{TokenKind}
use Rattle.source_tokens.specs.declared.token.Token.{Token}
use Rattle.source_tokens.specs.Splices.{past_splices}
use Rattle.source_tokens.specs.Reading.{ReadsUnspliced, IsLongest}
use Rattle.source_tokens.specs.RawStrings.{EndsRaw, EndsAt}
use Rattle.source_tokens.specs.Forms.{opening_of, is_tail, token_kind}
use Rattle.source_tokens.specs.Tokens.{Tokens, IsToken, Follow, Stands, ContinuesToken, past_front, front_tokens}
use Rattle.source_tokens.proofs.lemmas.Texts.{reads-longer, reads-once, reads-length}
use Rattle.source_tokens.proofs.lemmas.Prefixes.{one_mark}

-- no text goes on with nothing
no_more : (more : List ℕ) (text longer : List ℕ) → longer ≡ text ++ more → length longer ≤ length text → more ≡ []
no_more [] text longer same le = refl
no_more (byte ∷ more) text longer same le = absurd (omega (arith, simp length-append at (ap length same)))

-- two longest texts of one form are equal, and so is what follows
pub longest_once : (form : List ℕ → Bool) (bytes text rest other behind : List ℕ) → IsLongest form bytes text rest → IsLongest form bytes other behind → (other ≡ text) × (behind ≡ rest)
longest_once form bytes text rest other behind here there =
    let le : length other ≤ length text = here.longest other behind there.reads there.of_form in
    let ge : length text ≤ length other = there.longest text rest here.reads here.of_form in
    let found = reads-longer bytes text rest other behind here.reads there.reads ge in
    let none : found.0 ≡ [] = no_more found.0 text other found.1 le in
    let same : other ≡ text = found.1 ∙ ap (λ more. text ++ more) none ∙ append-nil text in
    (same, reads-once bytes text behind rest (subst (λ (front : List ℕ). ReadsUnspliced bytes front behind) same there.reads) here.reads)

-- the first place is one
first_once : (P : ℕ → Type 0) (end : ℕ) (place other : Option ℕ) → IsFirst P 0 end place → IsFirst P 0 end other → place ≡ other
first_once P end None None here there = refl
first_once P end None (Some k) here there = absurd (here k (omega arith) there.0.high there.1)
first_once P end (Some k) None here there = absurd (there k (omega arith) here.0.high here.1)
first_once P end (Some k) (Some j) here there = elim (cases_order k j) [
  | inl same ↦ ap (λ n. Some n) same
  | inr apart ↦ elim apart [
    | inl lt ↦ absurd (there.0.before k (omega arith) lt here.1)
    | inr gt ↦ absurd (here.0.before j (omega arith) gt there.1)
  ]
]

place_end : (raw : List ℕ) (place : Option ℕ) (rest behind : List ℕ) (kind other : TokenKind) → EndsAt raw place kind rest → EndsAt raw place other behind → (kind ≡ other) × (rest ≡ behind)
place_end raw None rest behind kind other here there = (here.0 ∙ sym there.0, here.1 ∙ sym there.1)
place_end raw (Some at) rest behind kind other here there = (here.0 ∙ sym there.0, here.1 ∙ sym there.1)

pub raw_once : (raw rest behind : List ℕ) (kind other : TokenKind) → EndsRaw raw kind rest → EndsRaw raw other behind → (kind ≡ other) × (rest ≡ behind)
raw_once raw rest behind kind other here there =
    let same : there.place ≡ here.place = first_once _ _ there.place here.place there.first here.first in
    place_end raw here.place rest behind kind other here.ends (subst (λ (place : Option ℕ). EndsAt raw place other behind) same there.ends)

goes_once : (first : ℕ) (behind rest end : List ℕ) (kind other : TokenKind) → ContinuesToken (opening_of first behind) first behind kind rest → ContinuesToken (opening_of first behind) first behind other end → (kind ≡ other) × (rest ≡ end)
goes_once first behind rest end kind other here there =
    let same = longest_once (is_tail (opening_of first behind) first) behind here.0 rest there.0 end here.1 there.1 in
    (here.2 ∙ ap (λ tail. token_kind (opening_of first behind) (first ∷ tail)) (sym same.0) ∙ sym there.2, sym same.1)

-- one thing stands at the front
pub stands_once : (bytes rest behind : List ℕ) (kind other : TokenKind) → Stands bytes kind rest → Stands bytes other behind → (kind ≡ other) × (rest ≡ behind)
stands_once bytes rest behind kind other (inl here) (inl there) =
    let same : there.raw ≡ here.raw = one_mark bytes there.begins.prefix here.begins.prefix there.raw here.raw there.begins.is_prefix here.begins.is_prefix there.begins.reads here.begins.reads in
    raw_once here.raw rest behind kind other here.ends (subst (λ (raw : List ℕ). EndsRaw raw other behind) same there.ends)
stands_once bytes rest behind kind other (inl here) (inr there) = absurd (there.not_raw here.raw here.begins)
stands_once bytes rest behind kind other (inr here) (inl there) = absurd (here.not_raw there.raw there.begins)
stands_once bytes rest behind kind other (inr here) (inr there) =
    let both : there.first ∷ there.behind ≡ here.first ∷ here.behind = sym there.bytes_are ∙ here.bytes_are in
    let first : there.first ≡ here.first = cc in
    let tail : there.behind ≡ here.behind = cc in
    let moved = subst (λ (f : ℕ). ContinuesToken (opening_of f (past_splices there.behind)) f (past_splices there.behind) other behind) first there.goes_on in
    let goes = subst (λ (b : List ℕ). ContinuesToken (opening_of here.first (past_splices b)) here.first (past_splices b) other behind) tail moved in
    goes_once here.first (past_splices here.behind) rest behind kind other here.goes_on goes

nothing_stands : (rest : List ℕ) (kind : TokenKind) → Stands [] kind rest → ⊥
nothing_stands rest kind (inl raw) = omega (arith, reads-length [] raw.begins.prefix (34 ∷ raw.raw) raw.begins.reads)
nothing_stands rest kind (inr plain) = cc (plain.bytes_are)

fields_once : (kind other : TokenKind) (start from end to : ℕ) → kind ≡ other → start ≡ from → end ≡ to
    → (let a : Token = record { kind = kind; start = start; end = end } in let b : Token = record { kind = other; start = from; end = to } in a ≡ b)
fields_once kind other start from end to k s e = cc

token_once : (total : ℕ) (bytes : List ℕ) (token other : Token) (rest behind : List ℕ) → IsToken total bytes token rest → IsToken total bytes other behind → (token ≡ other) × (rest ≡ behind)
token_once total bytes token other rest behind here there =
    let same = stands_once bytes rest behind token.kind other.kind here.stands there.stands in
    let start : token.start ≡ other.start = omega (arith, here.start, there.start) in
    let end : token.end ≡ other.end = omega (arith, here.end, there.end, ap length same.1) in
    (fields_once token.kind other.kind token.start other.start token.end other.end same.0 start end, same.1)

pub follow_once : (total : ℕ) (bytes : List ℕ) (tokens others : List Token) → Follow total bytes tokens [] → Follow total bytes others [] → tokens ≡ others
unfolding Follow
follow_once total bytes [] [] here there = refl
follow_once total bytes [] (other ∷ others) here there = absurd (nothing_stands there.0 other.kind (subst (λ (front : List ℕ). Stands front other.kind there.0) here there.1.stands))
follow_once total bytes (token ∷ tokens) [] here there = absurd (nothing_stands here.0 token.kind (subst (λ (front : List ℕ). Stands front token.kind here.0) there here.1.stands))
follow_once total bytes (token ∷ tokens) (other ∷ others) here there =
    let same = token_once total bytes token other here.0 there.0 here.1 there.1 in
    let later : Follow total here.0 others [] = subst (λ (front : List ℕ). Follow total front others []) (sym same.1) there.2 in
    let rest : tokens ≡ others = follow_once total here.0 tokens others here.2 later in
    cc (same.0, rest)

pub tokens_once : (source : List ℕ) (tokens others : List Token) → Tokens source tokens → Tokens source others → tokens ≡ others
tokens_once source tokens others here there =
    let front : here.front ≡ there.front = omega (arith, here.front_is, there.front_is) in
    let list : here.others ≡ there.others = follow_once (length source) (past_front source) here.others there.others here.follow there.follow in
    here.tokens_are ∙ ap (λ (n : ℕ). front_tokens n ++ here.others) front ∙ ap (λ (l : List Token). front_tokens there.front ++ l) list ∙ sym there.tokens_are
