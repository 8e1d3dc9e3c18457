-- That sources have findings, and refusals.
use Rattle.std.proofs.Common.{◌≡◌, ◌+◌, ◌<◌, ◌≤◌, ℕ, suc, Bool, true, false, List, [], ◌∷◌, ◌++◌, length, get_or, map, refl, sym, ap, subst, ◌∙◌, append_assoc, append-nil, arith}
use Rattle.std.specs.Prelude.{nat_le, nat_lt}
use Rattle.std.specs.List.{All, list_any}
use Rattle.std.proofs.lemmas.Bool.{leb-true, leb-false, ltb-true, ltb-false}
use Rattle.std.proofs.lemmas.List.{get_or-map, length-map}
use Rattle.log_dictionary.specs.declared.message.Message.{Message}
use Rattle.log_dictionary.specs.declared.dictionary.TheConstants.{MAX_MESSAGES}
use Rattle.log_dictionary.specs.Messages.{is_same}
use Rattle.log_dictionary.proofs.lemmas.Distinct.{none_from_test}
use Rattle.source_scan.specs.declared.found.Found.{Found}
use Rattle.source_scan.specs.Statements.{Statements}
use Rattle.source_scan.specs.declared.statement.TheConstants.{MAX_SOURCE}
use Rattle.preprocessor.specs.declared.refusal.SourceRefusal.{SourceRefusal}
use Rattle.preprocessor.specs.Findings.{SourceFile, Finding, large_refusal, HasFindings, AllHave, sources_of}
use Rattle.preprocessor.specs.Findings.HasFindings.{too_large, scanned}
use Rattle.preprocessor.specs.Numbering.{stated_messages, firsts, numbered, refusals_of, excess_refusal, IsFullAt, Numbered, Refusals}
use Rattle.preprocessor.specs.Numbering.Refusals.{all_read, stopped}
use Rattle.preprocessor.proofs.lemmas.Behind.{one_longer}
use Rattle.preprocessor.proofs.lemmas.Finding.{have_findings, statements_are_named}
use Rattle.preprocessor.proofs.Firsts.{with_new, firsts-push}
use Rattle.preprocessor.proofs.Holding.{messages-push}

-- ---- findings

-- the source has a list of statements, whatever its file is called
abbrev pub HasList : List ℕ → Type 0
HasList source = (file : List ℕ) → (found : List Found) × Statements file source found

-- each of the first sources has one
abbrev pub AreListed : {A : Type 0} → (A → List ℕ) → List A → ℕ → Type 0
AreListed bytes sources index = (k : ℕ) (d : List ℕ) → k < index → HasList (get_or (map bytes sources) k d)

-- with one source more
pub one_listed : {A : Type 0} (bytes : A → List ℕ) (sources : List A) (index : ℕ) (source : A) → index < length sources
    → AreListed bytes sources index → HasList (bytes (get_or sources index source)) → AreListed bytes sources (index + 1)
one_listed bytes sources index source within before here k d below = by_place (nat_lt k index) refl
  where
    by_place : (earlier : Bool) → nat_lt k index ≡ earlier → HasList (get_or (map bytes sources) k d)
    by_place true e = before k d (ltb-true k index e)
    by_place false e =
        let last : k ≡ index = omega (arith, ltb-false k index e, below) in
        subst (λ (place : ℕ). HasList (get_or (map bytes sources) place d)) (sym last)
        (subst HasList (sym (get_or-map bytes sources index source d within)) here)

-- with all sources
pub all_listed : {A : Type 0} (bytes : A → List ℕ) (sources : List A) (index : ℕ) → length sources ≤ index
    → AreListed bytes sources index → (files : List SourceFile) → sources_of files ≡ map bytes sources
    → All HasList (sources_of files)
all_listed bytes sources index end listed files is k d within =
    let same = ap length is in
    let count = length-map sources bytes in
    subst (λ (l : List (List ℕ)). HasList (get_or l k d)) (sym is) (listed k d (omega (arith, same, count, end, within)))

some_findings : (file : SourceFile) → HasList file.bytes → (findings : List Finding) × HasFindings file findings
some_findings file list = by_size (nat_le (length file.bytes) MAX_SOURCE) refl
  where
    by_size : (small : Bool) → nat_le (length file.bytes) MAX_SOURCE ≡ small → (findings : List Finding) × HasFindings file findings
    by_size true e =
        let (found, statements) = list file.name in
        let have = have_findings found (statements_are_named file.name file.bytes found statements) in
        (have.0, scanned found (leb-true (length file.bytes) MAX_SOURCE e) statements have.1)
    by_size false e = (Finding.refused (large_refusal file.name) ∷ [], too_large (leb-false (length file.bytes) MAX_SOURCE e) refl)

some_all_have : (files : List SourceFile) → All HasList (sources_of files) → (findings : List Finding) × AllHave files findings
some_all_have [] lists = ([], refl)
some_all_have (file ∷ files) lists =
    let first = some_findings file (lists 0 file.bytes (omega arith)) in
    let others = some_all_have files (λ k d within. lists (suc k) d (omega (arith, within))) in
    (first.0 ++ others.0, (first.0, others.0, refl, first.1, others.1))

-- ---- the first message that is one too many

-- findings with a front that a statement stops
abbrev Stop : List Finding → Type 0
Stop findings = (front : List Finding) × (message : Message) × IsFullAt findings front message

-- where one finding more at the front makes too few messages still, the stop is behind it
abbrev Onward : List Finding → Finding → List Finding → Type 0
Onward front one rest = length (numbered (front ++ one ∷ [])) ≤ MAX_MESSAGES → Stop (front ++ one ∷ rest)

-- a statement stops the front, or has one of its messages, or its message is a new one for which there is room
by_statement : (front rest : List Finding) (message : Message) → length (numbered front) ≤ MAX_MESSAGES
    → Onward front (Finding.stated message) rest → Stop (front ++ Finding.stated message ∷ rest)
by_statement front rest message few onward = by_test (list_any (is_same message) (numbered front)) refl
  where
    pushed : numbered (front ++ Finding.stated message ∷ []) ≡ firsts (stated_messages front ++ message ∷ [])
    pushed = ap firsts (messages-push front (Finding.stated message))

    by_room : (room : Bool) → nat_le (length (numbered front) + 1) MAX_MESSAGES ≡ room
        → list_any (is_same message) (numbered front) ≡ false → Stop (front ++ Finding.stated message ∷ rest)
    by_room true e new =
        let longer = ap length pushed ∙ one_longer (stated_messages front) message (none_from_test (numbered front) message new) in
        let within = leb-true (length (numbered front) + 1) MAX_MESSAGES e in
        onward (omega (arith, longer, within))
    by_room false e new =
        let past = leb-false (length (numbered front) + 1) MAX_MESSAGES e in (
          front,
          message,
          record {
            rest = rest;
            joined = refl;
            full = omega (arith, past, few);
            new = none_from_test (numbered front) message new;
          },
        )

    by_test : (there : Bool) → list_any (is_same message) (numbered front) ≡ there → Stop (front ++ Finding.stated message ∷ rest)
    by_test true e =
        let same : numbered (front ++ Finding.stated message ∷ []) ≡ numbered front =
        pushed ∙ firsts-push (stated_messages front) message ∙ ap (λ (b : Bool). with_new b (numbered front) message) e in
        onward (subst (λ (l : List Message). length l ≤ MAX_MESSAGES) (sym same) few)
    by_test false e = by_room (nat_le (length (numbered front) + 1) MAX_MESSAGES) refl e

by_one : (front rest : List Finding) (one : Finding) → length (numbered front) ≤ MAX_MESSAGES → Onward front one rest
    → Stop (front ++ one ∷ rest)
by_one front rest (Finding.stated message) few onward = by_statement front rest message few onward
by_one front rest (Finding.refused refusal) few onward =
    let same = messages-push front (Finding.refused refusal) ∙ append-nil (stated_messages front) in
    onward (subst (λ (l : List Message). length (firsts l) ≤ MAX_MESSAGES) (sym same) few)

-- findings with too many messages are stopped behind each front with few enough
stop_behind : (front rest : List Finding) → length (numbered front) ≤ MAX_MESSAGES
    → MAX_MESSAGES < length (numbered (front ++ rest)) → Stop (front ++ rest)
stop_behind front [] few many =
    let same = ap (λ (l : List Finding). length (numbered l)) (append-nil front) in
    absurd (omega (arith, few, many, same))
stop_behind front (one ∷ rest) few many =
    let joined = append_assoc front (one ∷ []) rest in
    by_one front rest one few (λ enough. subst Stop joined
    (stop_behind (front ++ one ∷ []) rest enough (subst (λ (l : List Finding). MAX_MESSAGES < length (numbered l)) (sym joined) many)))

-- ---- sources

some_refusals : (files : List SourceFile) (findings : List Finding) → AllHave files findings
    → (refusals : List SourceRefusal) × Refusals files refusals
unfolding firsts
some_refusals files findings have = by_count (nat_le (length (numbered findings)) MAX_MESSAGES) refl
  where
    by_count : (few : Bool) → nat_le (length (numbered findings)) MAX_MESSAGES ≡ few
        → (refusals : List SourceRefusal) × Refusals files refusals
    by_count true e =
        (refusals_of findings, all_read findings have (leb-true (length (numbered findings)) MAX_MESSAGES e) refl)
    by_count false e =
        let (front, message, stops) = stop_behind [] findings (omega arith) (leb-false (length (numbered findings)) MAX_MESSAGES e) in (
          refusals_of front ++ excess_refusal message ∷ [],
          stopped files [] findings (sym (append-nil files)) have front message stops refl,
        )

-- sources with lists of statements have messages, a number of statements and refusals
pub sources_are_numbered : (files : List SourceFile) → All HasList (sources_of files)
    → (messages : List Message) × (n : ℕ) × Numbered files messages n
sources_are_numbered files lists =
    let (findings, have) = some_all_have files lists in (
      numbered findings,
      length (stated_messages findings),
      record {
        findings = findings;
        have = have;
        messages_are = refl;
        statements_are = refl;
      },
    )

pub sources_have_refusals : (files : List SourceFile) → All HasList (sources_of files)
    → (refusals : List SourceRefusal) × Refusals files refusals
sources_have_refusals files lists =
    let (findings, have) = some_all_have files lists in
    some_refusals files findings have
