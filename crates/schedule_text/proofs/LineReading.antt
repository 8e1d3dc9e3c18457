-- The lines of steps and of rings, as they are read.
use Rattle.std.proofs.Common.{◌≡◌, ◌≢◌, ℕ, ◌+◌, ◌<◌, ◌^◌, Bool, true, false, cond, eqb, leb, ltb, List, [], ◌∷◌, ◌++◌, All, Option, Some, None, refl, sym, ap, ◌∙◌, subst, append_assoc, append-nil, inl, arith}
use Rattle.std.specs.Prelude.{codes, decimal, ◌&&◌, not}
use Rattle.std.specs.Str.{bytes_eq}
use Rattle.std.specs.List.{list_all}
use Rattle.std.proofs.lemmas.Bool.{ltb-true, lt-ltb, cond-true, and_parts, leb-true, le-leb}
use Rattle.std.proofs.lemmas.List.Elements.{All-append, All-cons, All-from_recursion}
use Rattle.std.proofs.lemmas.Slice.Eq.{bytes_eq-Decides}
use Rattle.std.proofs.lemmas.Option.{same_Some}
use Rattle.log_dictionary.specs.Numbers.{natural_of, if_small}
use Rattle.log_dictionary.specs.Fields.{◌>>=◌, after, split_at_first}
use Rattle.log_dictionary.proofs.lemmas.Splits.{split_again, split_takes, after_again, after_takes, found}
use Rattle.log_dictionary.proofs.lemmas.Lines.{none_by_test, decimal_none}
use Rattle.log_dictionary.proofs.lemmas.NumberLaws.{natural_decimal, decimal_natural}
use Rattle.session_options.specs.declared.limits.TheConstants.{MIN_RING}
use Rattle.ring_machine.specs.declared.rings.TheConstants.{MAX_RINGS}
use Rattle.ring_machine.specs.declared.steps.StepKind.{StepKind}
use Rattle.ring_machine.specs.declared.steps.StepKind.TheVariants as steps
use Rattle.schedule_text.specs.declared.head_line.TheConstants.{MAX_WORDS}
use Rattle.schedule_text.specs.StepLines.{step_name, step_word, step_line, FitsWord, FitsStep}
use Rattle.schedule_text.specs.Lines.{number_at, sizes_within, sizes_of, sizes_at, plain_step, NumberedStep, store_at, plain_at, step_with, step_at, first_line_says}
use Rattle.schedule_text.specs.Judged.{event_of}
use Rattle.schedule_text.specs.Schedules.{AreSizes, rings_line}

-- ---- numbers

pub number_read : (n : ℕ) → n < 2 ^ 64 → number_at (decimal n) ≡ Some n
number_read n small = ap if_small (decimal_natural (decimal n) n small refl) ∙ cond-true _ _ _ (lt-ltb n (2 ^ 64) small)

pub number_taken : (field : List ℕ) (n : ℕ) → number_at field ≡ Some n → (field ≡ decimal n) × (n < 2 ^ 64)
number_taken field n e = by_number (natural_of field) refl e
  where
    by_size : (b : Bool) (m : ℕ) → ltb m (2 ^ 64) ≡ b → natural_of field ≡ Some m → cond b (Some m) None ≡ Some n → (field ≡ decimal n) × (n < 2 ^ 64)
    by_size false m size is e = absurd cc
    by_size true m size is e =
        let small : m < 2 ^ 64 = ltb-true m (2 ^ 64) size in
        let same : m ≡ n = cc in
        subst (λ (x : ℕ). (field ≡ decimal x) × (x < 2 ^ 64)) same (natural_decimal field m small is, small)

    by_number : (o : Option ℕ) → natural_of field ≡ o → if_small o ≡ Some n → (field ≡ decimal n) × (n < 2 ^ 64)
    by_number None is e = absurd cc
    by_number (Some m) is e = by_size (ltb m (2 ^ 64)) m refl is e

-- ---- a line

-- a line that says something is the first of bytes that it begins
pub line_read : {A : Type 0} (says : List ℕ → Option A) (line rest : List ℕ) (said : A) → All (λ byte. byte ≢ 10) line → says line ≡ Some said
    → first_line_says says (line ++ 10 ∷ rest) ≡ Some (said, rest)
line_read says line rest said none is = rw (split_again 10 line rest none, is) refl

-- the line by which something is said
pub record SaysLine {A : Type 0} (says : List ℕ → Option A) (bytes : List ℕ) (said : A) (rest : List ℕ) : Type 0 where
  pub line : List ℕ
  pub says_so : says line ≡ Some said
  pub joined : bytes ≡ line ++ 10 ∷ rest

pub line_taken : {A : Type 0} (says : List ℕ → Option A) (bytes : List ℕ) (said : A) (rest : List ℕ) → first_line_says says bytes ≡ Some (said, rest) → SaysLine says bytes said rest
line_taken {A = A} says bytes said rest e =
    let parts = found (split_at_first 10 bytes) (λ (parts : List ℕ × List ℕ). says parts.0 >>= (λ (x : A). Some (x, parts.1))) (said, rest) e in
    let here = found (says parts.x.0) (λ (x : A). Some (x, parts.x.1)) (said, rest) parts.second in
    let both : (here.x, parts.x.1) ≡ (said, rest) = same_Some _ _ here.second in
    record {
      line = parts.x.0;
      says_so = here.first ∙ ap (λ (p : A × List ℕ). Some p.0) both;
      joined = (split_takes 10 bytes parts.x.0 parts.x.1 parts.first).parts ∙ ap (λ (p : A × List ℕ). parts.x.0 ++ 10 ∷ p.1) both;
    }

-- ---- the line of a step

-- the line of a step without its line feed
abbrev pub step_bytes : NumberedStep → List ℕ
step_bytes (ring, step) = step_name step ++ 32 ∷ (decimal ring ++ step_word step)

pub step_line-bytes : (said : NumberedStep) (rest : List ℕ) → step_line (event_of said) ++ rest ≡ step_bytes said ++ 10 ∷ rest
step_line-bytes (ring, step) rest = simp append_assoc

abbrev lacks : ℕ → List ℕ → Bool
lacks byte = list_all (λ x. not (eqb x byte))

name_none : (byte : ℕ) → ((step : StepKind) → lacks byte (step_name step) ≡ true) → (step : StepKind) → All (λ x. x ≢ byte) (step_name step)
name_none byte none step = All-from_recursion (λ x. x ≢ byte) (step_name step) (none_by_test byte (step_name step) (none step))

no_feed : (step : StepKind) → lacks 10 (step_name step) ≡ true
no_feed steps.Look = refl
no_feed (steps.Store word) = refl
no_feed steps.Skip = refl
no_feed steps.Publish = refl
no_feed steps.Close = refl
no_feed steps.Load = refl
no_feed steps.Read = refl
no_feed steps.Release = refl

no_space : (step : StepKind) → lacks 32 (step_name step) ≡ true
no_space steps.Look = refl
no_space (steps.Store word) = refl
no_space steps.Skip = refl
no_space steps.Publish = refl
no_space steps.Close = refl
no_space steps.Load = refl
no_space steps.Read = refl
no_space steps.Release = refl

word_none : (step : StepKind) → FitsWord step → All (λ x. x ≢ 10) (step_word step)
word_none (steps.Store word) fits = All-cons (λ x. x ≢ 10) 32 (decimal word) (λ e. omega (arith, e)) (decimal_none 10 word (inl (omega arith)) fits)
word_none steps.Look fits = λ i x h. absurd (omega (arith, h))
word_none steps.Skip fits = λ i x h. absurd (omega (arith, h))
word_none steps.Publish fits = λ i x h. absurd (omega (arith, h))
word_none steps.Close fits = λ i x h. absurd (omega (arith, h))
word_none steps.Load fits = λ i x h. absurd (omega (arith, h))
word_none steps.Read fits = λ i x h. absurd (omega (arith, h))
word_none steps.Release fits = λ i x h. absurd (omega (arith, h))

step_none : (said : NumberedStep) → FitsStep (event_of said) → All (λ x. x ≢ 10) (step_bytes said)
step_none (ring, step) fits =
    All-append (λ x. x ≢ 10) (step_name step) (32 ∷ (decimal ring ++ step_word step)) (name_none 10 no_feed step)
    (All-cons (λ x. x ≢ 10) 32 (decimal ring ++ step_word step) (λ e. omega (arith, e))
    (All-append (λ x. x ≢ 10) (decimal ring) (step_word step) (decimal_none 10 ring (inl (omega arith)) fits.ring) (word_none step fits.word)))

with_name : (ring : ℕ) (step : StepKind) → FitsStep (event_of (ring, step)) → step_with (step_name step) (decimal ring ++ step_word step) ≡ Some (ring, step)
with_name ring (steps.Store word) fits = rw (split_again 32 (decimal ring) (decimal word) (decimal_none 32 ring (inl (omega arith)) fits.ring), number_read ring fits.ring, number_read word fits.word) refl
with_name ring steps.Look fits = rw (append-nil (decimal ring), number_read ring fits.ring) refl
with_name ring steps.Skip fits = rw (append-nil (decimal ring), number_read ring fits.ring) refl
with_name ring steps.Publish fits = rw (append-nil (decimal ring), number_read ring fits.ring) refl
with_name ring steps.Close fits = rw (append-nil (decimal ring), number_read ring fits.ring) refl
with_name ring steps.Load fits = rw (append-nil (decimal ring), number_read ring fits.ring) refl
with_name ring steps.Read fits = rw (append-nil (decimal ring), number_read ring fits.ring) refl
with_name ring steps.Release fits = rw (append-nil (decimal ring), number_read ring fits.ring) refl

-- the line of an event is read as the event
pub step_read : (said : NumberedStep) (rest : List ℕ) → FitsStep (event_of said) → first_line_says step_at (step_line (event_of said) ++ rest) ≡ Some (said, rest)
step_read (ring, step) rest fits =
    ap (first_line_says step_at) (step_line-bytes (ring, step) rest)
    ∙ line_read step_at (step_bytes (ring, step)) rest (ring, step) (step_none (ring, step) fits)
    (ap (λ (o : Option (List ℕ × List ℕ)). o >>= (λ (parts : List ℕ × List ℕ). step_with parts.0 parts.1))
    (split_again 32 (step_name step) (decimal ring ++ step_word step) (name_none 32 no_space step))
    ∙ with_name ring step fits)

-- what a line says that is read
pub record SaysStep (bytes : List ℕ) (said : NumberedStep) (rest : List ℕ) : Type 0 where
  pub joined : bytes ≡ step_line (event_of said) ++ rest
  pub fits : FitsStep (event_of said)

record IsNamed (name fields : List ℕ) (said : NumberedStep) : Type 0 where
  name_is : name ≡ step_name said.1
  fields_are : fields ≡ decimal said.0 ++ step_word said.1
  fits : FitsStep (event_of said)

store_taken : (fields : List ℕ) (said : NumberedStep) → store_at fields ≡ Some said → IsNamed (codes "store") fields said
store_taken fields said e =
    let parts = found (split_at_first 32 fields) (λ (parts : List ℕ × List ℕ). number_at parts.0 >>= (λ (ring : ℕ). number_at parts.1 >>= (λ (word : ℕ). Some (ring, steps.Store word)))) said e in
    let ring = found (number_at parts.x.0) (λ (ring : ℕ). number_at parts.x.1 >>= (λ (word : ℕ). Some (ring, steps.Store word))) said parts.second in
    let word = found (number_at parts.x.1) (λ (word : ℕ). Some (ring.x, steps.Store word)) said ring.second in
    let ring_is = number_taken parts.x.0 ring.x ring.first in
    let word_is = number_taken parts.x.1 word.x word.first in
    let split = split_takes 32 fields parts.x.0 parts.x.1 parts.first in
    subst (IsNamed (codes "store") fields) (same_Some (ring.x, steps.Store word.x) said word.second)
    (record {
      name_is = refl;
      fields_are = split.parts ∙ (λ i. ring_is.0 i ++ 32 ∷ word_is.0 i);
      fits = record { ring = ring_is.1; word = word_is.1 };
    })

abbrev Named : List ℕ → StepKind → Type 0
Named name step = (name ≡ step_name step) × (step_word step ≡ []) × FitsWord step

named_at : (name word : List ℕ) (this step : StepKind) (more : Option StepKind) → word ≡ step_name this → step_word this ≡ [] → FitsWord this → (more ≡ Some step → Named name step) → (b : Bool) → bytes_eq name word ≡ b
    → cond b (Some this) more ≡ Some step → Named name step
named_at name word this step more named alone fits others true is e = subst (Named name) (same_Some this step e) ((bytes_eq-Decides name word).0 is ∙ named, alone, fits)
named_at name word this step more named alone fits others false is e = others e

plain_named : (name : List ℕ) (step : StepKind) → plain_step name ≡ Some step → Named name step
plain_named name step e = at0 e
  where
    at6 : cond (bytes_eq name (codes "read")) (Some steps.Read) (None) ≡ Some step → Named name step
    at6 e = named_at name (codes "read") steps.Read step (None) refl refl tt (λ none. absurd cc) (bytes_eq name (codes "read")) refl e

    at5 : cond (bytes_eq name (codes "load")) (Some steps.Load) (cond (bytes_eq name (codes "read")) (Some steps.Read) (None)) ≡ Some step → Named name step
    at5 e = named_at name (codes "load") steps.Load step (cond (bytes_eq name (codes "read")) (Some steps.Read) (None)) refl refl tt at6 (bytes_eq name (codes "load")) refl e

    at4 : cond (bytes_eq name (codes "close")) (Some steps.Close) (cond (bytes_eq name (codes "load")) (Some steps.Load) (cond (bytes_eq name (codes "read")) (Some steps.Read) (None))) ≡ Some step → Named name step
    at4 e = named_at name (codes "close") steps.Close step (cond (bytes_eq name (codes "load")) (Some steps.Load) (cond (bytes_eq name (codes "read")) (Some steps.Read) (None))) refl refl tt at5 (bytes_eq name (codes "close")) refl e

    at3 : cond (bytes_eq name (codes "skip")) (Some steps.Skip) (cond (bytes_eq name (codes "close")) (Some steps.Close) (cond (bytes_eq name (codes "load")) (Some steps.Load) (cond (bytes_eq name (codes "read")) (Some steps.Read) (None)))) ≡ Some step → Named name step
    at3 e = named_at name (codes "skip") steps.Skip step (cond (bytes_eq name (codes "close")) (Some steps.Close) (cond (bytes_eq name (codes "load")) (Some steps.Load) (cond (bytes_eq name (codes "read")) (Some steps.Read) (None)))) refl refl tt at4 (bytes_eq name (codes "skip")) refl e

    at2 : cond (bytes_eq name (codes "look")) (Some steps.Look) (cond (bytes_eq name (codes "skip")) (Some steps.Skip) (cond (bytes_eq name (codes "close")) (Some steps.Close) (cond (bytes_eq name (codes "load")) (Some steps.Load) (cond (bytes_eq name (codes "read")) (Some steps.Read) (None))))) ≡ Some step → Named name step
    at2 e = named_at name (codes "look") steps.Look step (cond (bytes_eq name (codes "skip")) (Some steps.Skip) (cond (bytes_eq name (codes "close")) (Some steps.Close) (cond (bytes_eq name (codes "load")) (Some steps.Load) (cond (bytes_eq name (codes "read")) (Some steps.Read) (None))))) refl refl tt at3 (bytes_eq name (codes "look")) refl e

    at1 : cond (bytes_eq name (codes "release")) (Some steps.Release) (cond (bytes_eq name (codes "look")) (Some steps.Look) (cond (bytes_eq name (codes "skip")) (Some steps.Skip) (cond (bytes_eq name (codes "close")) (Some steps.Close) (cond (bytes_eq name (codes "load")) (Some steps.Load) (cond (bytes_eq name (codes "read")) (Some steps.Read) (None)))))) ≡ Some step → Named name step
    at1 e = named_at name (codes "release") steps.Release step (cond (bytes_eq name (codes "look")) (Some steps.Look) (cond (bytes_eq name (codes "skip")) (Some steps.Skip) (cond (bytes_eq name (codes "close")) (Some steps.Close) (cond (bytes_eq name (codes "load")) (Some steps.Load) (cond (bytes_eq name (codes "read")) (Some steps.Read) (None)))))) refl refl tt at2 (bytes_eq name (codes "release")) refl e

    at0 : cond (bytes_eq name (codes "publish")) (Some steps.Publish) (cond (bytes_eq name (codes "release")) (Some steps.Release) (cond (bytes_eq name (codes "look")) (Some steps.Look) (cond (bytes_eq name (codes "skip")) (Some steps.Skip) (cond (bytes_eq name (codes "close")) (Some steps.Close) (cond (bytes_eq name (codes "load")) (Some steps.Load) (cond (bytes_eq name (codes "read")) (Some steps.Read) (None))))))) ≡ Some step → Named name step
    at0 e = named_at name (codes "publish") steps.Publish step (cond (bytes_eq name (codes "release")) (Some steps.Release) (cond (bytes_eq name (codes "look")) (Some steps.Look) (cond (bytes_eq name (codes "skip")) (Some steps.Skip) (cond (bytes_eq name (codes "close")) (Some steps.Close) (cond (bytes_eq name (codes "load")) (Some steps.Load) (cond (bytes_eq name (codes "read")) (Some steps.Read) (None))))))) refl refl tt at1 (bytes_eq name (codes "publish")) refl e

plain_taken : (name fields : List ℕ) (said : NumberedStep) → plain_at name fields ≡ Some said → IsNamed name fields said
plain_taken name fields said e =
    let step = found (plain_step name) (λ (step : StepKind). number_at fields >>= (λ (ring : ℕ). Some (ring, step))) said e in
    let ring = found (number_at fields) (λ (ring : ℕ). Some (ring, step.x)) said step.second in
    let named = plain_named name step.x step.first in
    let ring_is = number_taken fields ring.x ring.first in
    subst (IsNamed name fields) (same_Some (ring.x, step.x) said ring.second)
    (record {
      name_is = named.0;
      fields_are = ring_is.0 ∙ sym (append-nil (decimal ring.x)) ∙ ap (λ (word : List ℕ). decimal ring.x ++ word) (sym named.1);
      fits = record { ring = ring_is.1; word = named.2 };
    })

with_taken : (name fields : List ℕ) (said : NumberedStep) (b : Bool) → bytes_eq name (codes "store") ≡ b → cond b (store_at fields) (plain_at name fields) ≡ Some said → IsNamed name fields said
with_taken name fields said true is e = subst (λ (n : List ℕ). IsNamed n fields said) (sym ((bytes_eq-Decides name (codes "store")).0 is)) (store_taken fields said e)
with_taken name fields said false is e = plain_taken name fields said e

-- a line that says a step is that of its event
pub step_spelled : (line : List ℕ) (said : NumberedStep) → step_at line ≡ Some said → (line ≡ step_bytes said) × FitsStep (event_of said)
step_spelled line said e =
    let parts = found (split_at_first 32 line) (λ (parts : List ℕ × List ℕ). step_with parts.0 parts.1) said e in
    let split = split_takes 32 line parts.x.0 parts.x.1 parts.first in
    let named = with_taken parts.x.0 parts.x.1 said (bytes_eq parts.x.0 (codes "store")) refl parts.second in
    (split.parts ∙ (λ i. named.name_is i ++ 32 ∷ named.fields_are i), named.fits)

-- bytes of whose first line a step is read begin with the line of its event
pub step_taken : (bytes : List ℕ) (said : NumberedStep) (rest : List ℕ) → first_line_says step_at bytes ≡ Some (said, rest) → SaysStep bytes said rest
step_taken bytes said rest e =
    let line = line_taken step_at bytes said rest e in
    let spelled = step_spelled line.line said line.says_so in
    record {
      joined = line.joined ∙ ap (λ (l : List ℕ). l ++ 10 ∷ rest) spelled.0 ∙ sym (step_line-bytes said rest);
      fits = spelled.1;
    }

-- ---- the line of the rings

within : (rings words : ℕ) → AreSizes rings words → sizes_within rings words ≡ Some (rings, words)
within rings words sizes = rw (le-leb 1 rings sizes.some_ring, le-leb rings MAX_RINGS sizes.few_rings, le-leb MIN_RING words sizes.least, le-leb words MAX_WORDS sizes.most) refl

within_taken : (rings words : ℕ) (sizes : ℕ × ℕ) → sizes_within rings words ≡ Some sizes → ((rings, words) ≡ sizes) × AreSizes rings words
within_taken rings words sizes e = by_test (leb 1 rings && leb rings MAX_RINGS && leb MIN_RING words && leb words MAX_WORDS) refl e
  where
    by_test : (b : Bool) → (leb 1 rings && leb rings MAX_RINGS && leb MIN_RING words && leb words MAX_WORDS) ≡ b → cond b (Some (rings, words)) None ≡ Some sizes → ((rings, words) ≡ sizes) × AreSizes rings words
    by_test false is e = absurd cc
    by_test true is e =
        let last = and_parts (leb 1 rings && leb rings MAX_RINGS && leb MIN_RING words) (leb words MAX_WORDS) is in
        let third = and_parts (leb 1 rings && leb rings MAX_RINGS) (leb MIN_RING words) last.0 in
        let first = and_parts (leb 1 rings) (leb rings MAX_RINGS) third.0 in (
          same_Some (rings, words) sizes e,
          record { some_ring = leb-true _ _ first.0; few_rings = leb-true _ _ first.1; least = leb-true _ _ third.1; most = leb-true _ _ last.1 },
        )

-- the line of rings without its line feed
abbrev pub rings_bytes : ℕ → ℕ → List ℕ
rings_bytes rings words = codes "rings " ++ (decimal rings ++ 32 ∷ decimal words)

pub rings_line-bytes : (rings words : ℕ) (rest : List ℕ) → rings_line rings words ++ rest ≡ rings_bytes rings words ++ 10 ∷ rest
rings_line-bytes rings words rest = simp append_assoc

pub sizes_read : (rings words : ℕ) (rest : List ℕ) → AreSizes rings words → first_line_says sizes_at (rings_line rings words ++ rest) ≡ Some ((rings, words), rest)
sizes_read rings words rest sizes =
    let small : rings < 2 ^ 64 = omega (arith, sizes.few_rings) in
    let short : words < 2 ^ 64 = omega (arith, sizes.most) in
    let none : All (λ x. x ≢ 10) (rings_bytes rings words) =
    All-append (λ x. x ≢ 10) (codes "rings ") (decimal rings ++ 32 ∷ decimal words) (All-from_recursion (λ x. x ≢ 10) (codes "rings ") (none_by_test 10 (codes "rings ") refl))
    (All-append (λ x. x ≢ 10) (decimal rings) (32 ∷ decimal words) (decimal_none 10 rings (inl (omega arith)) small)
    (All-cons (λ x. x ≢ 10) 32 (decimal words) (λ e. omega (arith, e)) (decimal_none 10 words (inl (omega arith)) short))) in
    ap (first_line_says sizes_at) (rings_line-bytes rings words rest)
    ∙ line_read sizes_at (rings_bytes rings words) rest (rings, words) none
    (ap (λ (o : Option (List ℕ)). o >>= sizes_of) (after_again (codes "rings ") (decimal rings ++ 32 ∷ decimal words))
    ∙ rw (split_again 32 (decimal rings) (decimal words) (decimal_none 32 rings (inl (omega arith)) small), number_read rings small, number_read words short) (within rings words sizes))

pub record SaysSizes (bytes : List ℕ) (sizes : ℕ × ℕ) (rest : List ℕ) : Type 0 where
  pub joined : bytes ≡ rings_line sizes.0 sizes.1 ++ rest
  pub are : AreSizes sizes.0 sizes.1

-- a line that says sizes is that of rings of these sizes
pub sizes_spelled : (line : List ℕ) (sizes : ℕ × ℕ) → sizes_at line ≡ Some sizes → (line ≡ rings_bytes sizes.0 sizes.1) × AreSizes sizes.0 sizes.1
sizes_spelled line sizes e =
    let fields = found (after (codes "rings ") line) sizes_of sizes e in
    let parts = found (split_at_first 32 fields.x) (λ (parts : List ℕ × List ℕ). number_at parts.0 >>= (λ (count : ℕ). number_at parts.1 >>= (λ (words : ℕ). sizes_within count words))) sizes fields.second in
    let count = found (number_at parts.x.0) (λ (count : ℕ). number_at parts.x.1 >>= (λ (words : ℕ). sizes_within count words)) sizes parts.second in
    let words = found (number_at parts.x.1) (λ (words : ℕ). sizes_within count.x words) sizes count.second in
    let count_is = number_taken parts.x.0 count.x count.first in
    let words_is = number_taken parts.x.1 words.x words.first in
    let is = within_taken count.x words.x sizes words.second in
    let split = split_takes 32 fields.x parts.x.0 parts.x.1 parts.first in
    let whole : line ≡ rings_bytes count.x words.x =
    after_takes (codes "rings ") line fields.x fields.first ∙ ap (λ (f : List ℕ). codes "rings " ++ f) (split.parts ∙ (λ i. count_is.0 i ++ 32 ∷ words_is.0 i)) in
    subst (λ (s : ℕ × ℕ). (line ≡ rings_bytes s.0 s.1) × AreSizes s.0 s.1) is.0 (whole, is.1)

pub sizes_taken : (bytes : List ℕ) (sizes : ℕ × ℕ) (rest : List ℕ) → first_line_says sizes_at bytes ≡ Some (sizes, rest) → SaysSizes bytes sizes rest
sizes_taken bytes sizes rest e =
    let line = line_taken sizes_at bytes sizes rest e in
    let spelled = sizes_spelled line.line sizes line.says_so in
    record {
      joined = line.joined ∙ ap (λ (l : List ℕ). l ++ 10 ∷ rest) spelled.0 ∙ sym (rings_line-bytes sizes.0 sizes.1 rest);
      are = spelled.1;
    }
