-- Bytes that were passed one by one: a form of what was passed is another form of what follows.
use Rattle.std.proofs.Common.{◌≡◌, ℕ, ◌-◌, ◌<◌, ◌≤◌, Bool, true, false, List, [], ◌∷◌, ◌++◌, length, take, drop, get_or, refl, sym, subst, ap, ◌∙◌, append_assoc, arith}
use Rattle.std.proofs.lemmas.List.{take_rest, append-nil}
use Rattle.source_tokens.specs.Splices.{past_splices}
use Rattle.source_tokens.specs.Forms.{is_empty}
use Rattle.source_tokens.specs.Reading.{ReadsUnspliced, IsLongest, EndsLongest}
use Rattle.source_tokens.proofs.lemmas.Texts.{Stops, reads-none, reads-push, reads-first, reads-more, reads-nothing, longest-stops}

-- a text stands at the front, and the form of a longer one is told by what follows
pub record Passes {V : Type 0} (form left : List ℕ → V) (bytes rest : List ℕ) : Type 0 where
  pub text : List ℕ
  pub reads : ReadsUnspliced bytes text rest
  pub goes : (more : List ℕ) → form (text ++ more) ≡ left more

-- what stands behind the first byte
abbrev pub back_of : List ℕ → List ℕ
back_of bytes = take (length bytes - 1) (drop 1 bytes)

pub first_and_back : (bytes : List ℕ) → 1 ≤ length bytes → bytes ≡ get_or bytes 0 0 ∷ back_of bytes
first_and_back [] some = absurd (omega arith)
first_and_back (byte ∷ bytes) some =
    let same : take (length (byte ∷ bytes) - 1) (drop 1 (byte ∷ bytes)) ≡ bytes = take_rest (byte ∷ bytes) 1 in
    rw same refl

pub nothing_there : (bytes : List ℕ) → length bytes < 1 → bytes ≡ []
nothing_there [] none = refl
nothing_there (byte ∷ bytes) none = absurd (omega arith)

pub passes-none : {V : Type 0} (form : List ℕ → V) (bytes : List ℕ) → Passes form form bytes bytes
passes-none form bytes = record { text = []; reads = reads-none bytes; goes = λ more. refl }

pub passes-more : {V : Type 0} (form left next : List ℕ → V) (bytes : List ℕ) (byte : ℕ) (behind : List ℕ) → Passes form left bytes (byte ∷ behind) → ((more : List ℕ) → left (byte ∷ more) ≡ next more) → Passes form next bytes (past_splices behind)
passes-more form left next bytes byte behind passes goes = record {
  text = passes.text ++ byte ∷ [];
  reads = reads-push bytes passes.text byte behind passes.reads;
  goes = λ more. ap form (append_assoc passes.text (byte ∷ []) more) ∙ passes.goes (byte ∷ more) ∙ goes more;
}

-- one byte more is passed, as code parts it from the others
pub passes-front : {V : Type 0} (form left next : List ℕ → V) (bytes rest : List ℕ) → Passes form left bytes rest → 1 ≤ length rest → ((more : List ℕ) → left (get_or rest 0 0 ∷ more) ≡ next more) → Passes form next bytes (past_splices (back_of rest))
passes-front form left next bytes rest passes some goes =
    passes-more form left next bytes (get_or rest 0 0) (back_of rest) (subst (Passes form left bytes) (first_and_back rest some) passes) goes

-- what was passed is of the form, and the longest, if nothing that follows goes on with it
pub passes-end : (form left : List ℕ → Bool) (bytes rest : List ℕ) (passes : Passes form left bytes rest) → left [] ≡ true → Stops left [] rest → IsLongest form bytes passes.text rest
passes-end form left bytes rest passes right stops =
    longest-stops form bytes passes.text rest passes.reads
    (ap form (sym (append-nil passes.text)) ∙ passes.goes [] ∙ right)
    (λ byte more behind reads ok. stops byte more behind reads (sym (passes.goes (byte ∷ more)) ∙ ok))

-- nothing follows at the end
pub stops-nothing : (left : List ℕ → Bool) (rest : List ℕ) → length rest < 1 → Stops left [] rest
stops-nothing left rest none byte more behind reads ok = reads-nothing byte more behind (subst (λ (front : List ℕ). ReadsUnspliced front (byte ∷ more) behind) (nothing_there rest none) reads)

-- nothing that begins with the byte that follows goes on
pub stops-front : (left : List ℕ → Bool) (rest : List ℕ) → 1 ≤ length rest → ((more behind : List ℕ) → ReadsUnspliced (past_splices (back_of rest)) more behind → left (get_or rest 0 0 ∷ more) ≡ false) → Stops left [] rest
stops-front left rest some fails byte more behind reads ok =
    let first = reads-first (get_or rest 0 0) (back_of rest) byte more behind (subst (λ (front : List ℕ). ReadsUnspliced front (byte ∷ more) behind) (first_and_back rest some) reads) in
    let no : left (get_or rest 0 0 ∷ more) ≡ false = fails more behind first.1 in
    let yes : left (get_or rest 0 0 ∷ more) ≡ true = ap (λ (front : ℕ). left (front ∷ more)) first.0 ∙ ok in
    cc

pub ends-nothing : (form left : List ℕ → Bool) (bytes rest : List ℕ) → Passes form left bytes rest → left [] ≡ true → length rest < 1 → EndsLongest form bytes rest
ends-nothing form left bytes rest passes right none = (passes.text, passes-end form left bytes rest passes right (stops-nothing left rest none))

pub ends-front : (form left : List ℕ → Bool) (bytes rest : List ℕ) → Passes form left bytes rest → left [] ≡ true → 1 ≤ length rest
    → ((more behind : List ℕ) → ReadsUnspliced (past_splices (back_of rest)) more behind → left (get_or rest 0 0 ∷ more) ≡ false) → EndsLongest form bytes rest
ends-front form left bytes rest passes right some fails = (passes.text, passes-end form left bytes rest passes right (stops-front left rest some fails))

-- nothing goes on, whatever follows
pub ends-here : (form left : List ℕ → Bool) (bytes rest : List ℕ) → Passes form left bytes rest → left [] ≡ true → ((byte : ℕ) (more : List ℕ) → left (byte ∷ more) ≡ false) → EndsLongest form bytes rest
ends-here form left bytes rest passes right fails =
    (passes.text, passes-end form left bytes rest passes right (λ byte more behind reads ok. let no : left (byte ∷ more) ≡ false = fails byte more in cc))

within_front : (form tail : List ℕ → Bool) (first : ℕ) (bytes text longer behind : List ℕ) → ((more : List ℕ) → form (first ∷ more) ≡ tail more)
    → ((other end : List ℕ) → ReadsUnspliced (past_splices bytes) other end → tail other ≡ true → length other ≤ length text)
    → ReadsUnspliced (first ∷ bytes) longer behind → form longer ≡ true → length longer ≤ length (first ∷ text)
within_front form tail first bytes text [] behind goes longest read ok = omega arith
within_front form tail first bytes text (byte ∷ more) behind goes longest read ok =
    let front = reads-first first bytes byte more behind read in
    let later : tail more ≡ true = sym (goes more) ∙ ap (λ one. form (one ∷ more)) front.0 ∙ ok in
    omega (arith, longest more behind front.1 later)

-- one byte in front of the longest text
pub longest-front : (form tail : List ℕ → Bool) (bytes rest : List ℕ) → 1 ≤ length bytes → ((more : List ℕ) → form (get_or bytes 0 0 ∷ more) ≡ tail more) → EndsLongest tail (past_splices (back_of bytes)) rest → EndsLongest form bytes rest
longest-front form tail bytes rest some goes ends =
    let first = get_or bytes 0 0 in
    let longest = ends.1 in
    let reads : ReadsUnspliced (first ∷ back_of bytes) (first ∷ ends.0) rest = reads-more first (back_of bytes) ends.0 rest longest.reads in
    let within : (longer behind : List ℕ) → ReadsUnspliced (first ∷ back_of bytes) longer behind → form longer ≡ true → length longer ≤ length (first ∷ ends.0) =
    λ longer behind read ok. within_front form tail first (back_of bytes) ends.0 longer behind goes longest.longest read ok
    in
    let all : IsLongest form (first ∷ back_of bytes) (first ∷ ends.0) rest = record { reads = reads; of_form = goes ends.0 ∙ longest.of_form; longest = within } in
    (first ∷ ends.0, subst (λ (front : List ℕ). IsLongest form front (first ∷ ends.0) rest) (sym (first_and_back bytes some)) all)

-- nothing goes on with what is one byte alone
pub alone : (bytes : List ℕ) → EndsLongest is_empty bytes bytes
alone bytes = ends-here is_empty is_empty bytes bytes (passes-none is_empty bytes) refl (λ byte more. refl)
