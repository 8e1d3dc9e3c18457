-- What stands for sources, with one source more.
use Rattle.std.proofs.Common.{◌≡◌, inl, inr, ℕ, ◌<◌, ◌≤◌, length, true, false, List, [], ◌∷◌, ◌++◌, refl, sym, ap, ◌∙◌, append_assoc, append-nil, arith}
use Rattle.std.proofs.lemmas.Bool.{false≢true}
use Rattle.preprocessor.specs.declared.numbering.Numbering.{Numbering}
use Rattle.source_scan.specs.declared.found.Found.{Found}
use Rattle.source_scan.specs.Statements.{Statements}
use Rattle.source_scan.specs.declared.statement.TheConstants.{MAX_SOURCE}
use Rattle.preprocessor.specs.Findings.{SourceFile, Finding, large_refusal, AreFindings, HasFindings, AllHave}
use Rattle.preprocessor.specs.Findings.HasFindings.{too_large, scanned}
use Rattle.preprocessor.specs.Numbering.{firsts, HoldsFindings, NumbersSources}
use Rattle.preprocessor.specs.Numbering.NumbersSources.{all_read, stopped}
use Rattle.preprocessor.proofs.lemmas.Finding.{have_findings, statements_are_named}

have_more : (files : List SourceFile) (file : SourceFile) (findings more : List Finding) → AllHave files findings → HasFindings file more → AllHave (files ++ file ∷ []) (findings ++ more)
have_more [] file findings more none has = (more, [], ap (λ (l : List Finding). l ++ more) none ∙ sym (append-nil more), has, refl)
have_more (first ∷ files) file findings more (front, others, joined, is, later) has =
    (front, others ++ more, ap (λ (l : List Finding). l ++ more) joined ∙ append_assoc front others more, is, have_more files file others more later has)

-- one that is stopped stands for more sources
pub stays_stopped : (files : List SourceFile) (file : SourceFile) (now : Numbering) → now.is_stopped ≡ true → NumbersSources files now → NumbersSources (files ++ file ∷ []) now
stays_stopped files file now is_stopped (all_read findings have holds) = absurd (false≢true (sym holds.goes_on ∙ is_stopped))
stays_stopped files file now is_stopped (stopped read unread findings joined have holds) =
    stopped read (unread ++ file ∷ []) findings (ap (λ (l : List SourceFile). l ++ file ∷ []) joined ∙ append_assoc read unread (file ∷ [])) have holds

-- one that holds the findings of one source more stands for it too
pub one_more : (files : List SourceFile) (file : SourceFile) (more : List Finding) (now next : Numbering) → now.is_stopped ≡ false → HasFindings file more → ((before : List Finding) → HoldsFindings before now → HoldsFindings (before ++ more) next) → NumbersSources files now
    → NumbersSources (files ++ file ∷ []) next
one_more files file more now next goes_on has holds (stopped read unread findings joined have front) = absurd (false≢true (sym goes_on ∙ front.stopped))
one_more files file more now next goes_on has holds (all_read findings have all) = by_end (holds findings (inl all))
  where
    by_end : HoldsFindings (findings ++ more) next → NumbersSources (files ++ file ∷ []) next
    by_end (inl held) = all_read (findings ++ more) (have_more files file findings more have has) held
    by_end (inr held) = stopped (files ++ file ∷ []) [] (findings ++ more) (sym (append-nil (files ++ file ∷ []))) (have_more files file findings more have has) held

-- where nothing was read
pub none_read : (now : Numbering) → now.dictionary ≡ [] → now.statements ≡ 0 → now.refusals.items ≡ [] → now.is_stopped ≡ false → NumbersSources [] now
unfolding firsts
none_read now dictionary statements refusals goes_on =
    all_read [] refl (record { few = omega arith; messages = dictionary; statements = statements; refusals = refusals; goes_on = goes_on })

-- the same where the source is too large
pub large_counted : (name : List ℕ) (now next : Numbering) → now.is_stopped ≡ false → ((before : List Finding) → HoldsFindings before now → HoldsFindings (before ++ Finding.refused (large_refusal name) ∷ []) next)
    → (files : List SourceFile) (source : List ℕ) → MAX_SOURCE < length source → NumbersSources files now → NumbersSources (files ++ record { name = name; bytes = source } ∷ []) next
large_counted name now next goes_on holds files source large numbers = one_more files (record { name = name; bytes = source }) (Finding.refused (large_refusal name) ∷ []) now next goes_on (too_large large refl) holds numbers

-- the same where it was scanned
pub scanned_counted : (name source : List ℕ) (list : List Found) (now next : Numbering) → now.is_stopped ≡ false → length source ≤ MAX_SOURCE → Statements name source list
    → ((before findings : List Finding) → AreFindings list findings → HoldsFindings before now → HoldsFindings (before ++ findings) next) → (files : List SourceFile) → NumbersSources files now → NumbersSources (files ++ record { name = name; bytes = source } ∷ []) next
scanned_counted name source list now next goes_on small statements holds files numbers =
    let findings = have_findings list (statements_are_named name source list statements) in
    one_more files (record { name = name; bytes = source }) findings.0 now next goes_on (scanned list small statements findings.1) (λ before held. holds before findings.0 findings.1 held) numbers
