-- What follows a line that is refused, and what follows the last line.
use Rattle.std.proofs.Common.{◌≡◌, ◌≢◌, ℕ, zero, suc, ◌+◌, ◌<◌, ◌≤◌, List, [], ◌∷◌, ◌++◌, length, take, drop, Result, refl, sym, ap, ◌∙◌, subst, append_assoc, inl, inr, arith}
use Rattle.std.specs.List.{AllByRecursion}
use Rattle.std.proofs.lemmas.List.{append-nil, length-append}
use Rattle.trace_text.specs.declared.cause.TraceCause.{TraceCause}
use Rattle.trace_text.specs.declared.cause.TraceCause.TheVariants.{TooLarge, NoEnd, AfterEnd}
use Rattle.trace_text.specs.declared.trace.TheConstants.{MAX_TRACE}
use Rattle.trace_text.specs.Recordings.{Recording}
use Rattle.trace_text.specs.Lines.{text_of_lines}
use Rattle.trace_text.specs.Traces.{TraceText}
use Rattle.trace_text.specs.Reading as parts
use Rattle.trace_text.specs.Reading.{TracePart, Broken, IsOneLine, IsCutIntoLines, ReadsLines, Gives, TraceBreak}
use Rattle.trace_text.proofs.Cuts.{CutOf, cut_of, cut_lines}
use Rattle.trace_text.proofs.Steps.{refused_after}
use Rattle.trace_text.proofs.OneOutcome.{one_cut}
use Rattle.trace_text.proofs.TextReads.{text_reads}
use Rattle.trace_text.proofs.lemmas.ToldApart.{ok_of, err_of, same_break, no_run_breaks}

-- ---- where a refusal stands

-- what is given where no whole line is left
abbrev AtEnd : TracePart → ℕ → List ℕ → ℕ → TraceCause → Type 0
AtEnd part n rest line cause = err_of line cause ≡ parts.at_end part n rest

-- it is that of the next line, and the end is wanting there or isn't the last
at_next : (part : TracePart) (n : ℕ) (rest : List ℕ) (line : ℕ) (cause : TraceCause) → AtEnd part n rest line cause → (line ≡ n) × (cause ≢ NoEnd → cause ≢ AfterEnd → ⊥)
at_next parts.opening n rest line cause e = let same = same_break line n cause NoEnd e in (same.0, λ no_end last. no_end same.1)
at_next (parts.messages version before) n rest line cause e = let same = same_break line n cause NoEnd e in (same.0, λ no_end last. no_end same.1)
at_next (parts.clocks version dictionary times) n rest line cause e = let same = same_break line n cause NoEnd e in (same.0, λ no_end last. no_end same.1)
at_next (parts.calls run) n rest line cause e = let same = same_break line n cause NoEnd e in (same.0, λ no_end last. no_end same.1)
at_next (parts.ended run) n [] line cause e = absurd (no_run_breaks run line cause (sym e))
at_next (parts.ended run) n (byte ∷ rest) line cause e = let same = same_break line n cause AfterEnd e in (same.0, λ no_end last. last same.1)

-- no line that was read before is refused
not_before : (part : TracePart) (n : ℕ) (lines : List (List ℕ)) (rest : List ℕ) (line : ℕ) (cause : TraceCause) → ReadsLines part n lines rest (err_of line cause) → n ≤ line
not_before part n [] rest line cause reads = omega (arith, (at_next part n rest line cause reads).0)
not_before part n (first ∷ lines) rest line cause (inl (next, follows, reads)) = omega (arith, not_before next (n + 1) lines rest line cause reads)
not_before part n (first ∷ lines) rest line cause (inr (other, breaks, is)) = omega (arith, (same_break line n cause other is).0)

-- the line that is refused is one of the whole ones, but where the end is wanting or isn't the last
within_lines : (part : TracePart) (n : ℕ) (lines : List (List ℕ)) (rest : List ℕ) (line : ℕ) (cause : TraceCause) → cause ≢ NoEnd → cause ≢ AfterEnd → ReadsLines part n lines rest (err_of line cause) → line < n + length lines
within_lines part n [] rest line cause no_end last reads = absurd ((at_next part n rest line cause reads).1 no_end last)
within_lines part n (first ∷ lines) rest line cause no_end last (inl (next, follows, reads)) = omega (arith, within_lines next (n + 1) lines rest line cause no_end last reads)
within_lines part n (first ∷ lines) rest line cause no_end last (inr (other, breaks, is)) = omega (arith, (same_break line n cause other is).0)

-- ---- other lines behind the one that is refused

stays : (part : TracePart) (n : ℕ) (lines more others : List (List ℕ)) (rest other : List ℕ) (line : ℕ) (cause : TraceCause) → line < n + length lines → ReadsLines part n (lines ++ more) rest (err_of line cause) → ReadsLines part n (lines ++ others) other (err_of line cause)
stays part n [] more others rest other line cause within reads = absurd (omega (arith, within, not_before part n more rest line cause reads))
stays part n (first ∷ lines) more others rest other line cause within (inl (next, follows, reads)) = inl (next, follows, stays next (n + 1) lines more others rest other line cause (omega (arith, within)) reads)
stays part n (first ∷ lines) more others rest other line cause within (inr breaks) = inr breaks

-- how a text is read that begins with these lines
reads_lines : (lines : List (List ℕ)) (rest : List ℕ) (outcome : Result Recording Broken) → AllByRecursion IsOneLine lines → Gives parts.opening 1 (text_of_lines lines ++ rest) outcome
    → let found = cut_of rest in ReadsLines parts.opening 1 (lines ++ found.lines) found.rest outcome
reads_lines lines rest outcome whole gives =
    let found = cut_of rest in
    let same = one_cut (text_of_lines lines ++ rest) gives.lines (lines ++ found.lines) gives.rest found.rest gives.cut (cut_lines lines rest found.lines found.rest whole found.cut) in
    subst (λ (last : List ℕ). ReadsLines parts.opening 1 (lines ++ found.lines) last outcome) same.1 (subst (λ (all : List (List ℕ)). ReadsLines parts.opening 1 all gives.rest outcome) same.0 gives.reads)

gives_lines : (lines : List (List ℕ)) (rest : List ℕ) (outcome : Result Recording Broken) → AllByRecursion IsOneLine lines → let found = cut_of rest in ReadsLines parts.opening 1 (lines ++ found.lines) found.rest outcome
    → Gives parts.opening 1 (text_of_lines lines ++ rest) outcome
gives_lines lines rest outcome whole reads =
    let found = cut_of rest in
    record { lines = lines ++ found.lines; rest = found.rest; cut = cut_lines lines rest found.lines found.rest whole found.cut; reads = reads }

-- a text that is refused at the last of these lines is refused so whatever follows them
pub stays_refused : (lines : List (List ℕ)) (rest other : List ℕ) (cause : TraceCause) → AllByRecursion IsOneLine lines → 1 ≤ length lines → TraceBreak (text_of_lines lines ++ rest) (length lines) cause
    → length (text_of_lines lines ++ other) ≤ MAX_TRACE → TraceBreak (text_of_lines lines ++ other) (length lines) cause
stays_refused lines rest other cause whole some (inl large) short = absurd (omega (arith, some, large.1))
stays_refused lines rest other cause whole some (inr breaks) short =
    let found = cut_of rest in
    let behind = cut_of other in
    inr (short, gives_lines lines other _ whole (stays parts.opening 1 lines found.lines behind.lines found.rest behind.rest (length lines) cause (omega arith) (reads_lines lines rest _ whole breaks.1)))

-- ---- the line that is refused is there

-- the first lines and the others
parted : (n : ℕ) (lines : List (List ℕ)) → n ≤ length lines → AllByRecursion IsOneLine lines → (length (take n lines) ≡ n) × AllByRecursion IsOneLine (take n lines) × (text_of_lines lines ≡ text_of_lines (take n lines) ++ text_of_lines (drop n lines))
parted zero lines within whole = (refl, tt, refl)
parted (suc n) [] within whole = absurd (omega (arith, within))
parted (suc n) (line ∷ lines) within whole =
    let others = parted n lines (omega (arith, within)) whole.1 in
    (ap suc others.0, (whole.0, others.1), ap (λ (bytes : List ℕ). line ++ 10 ∷ bytes) others.2 ∙ sym (append_assoc line (10 ∷ text_of_lines (take n lines)) (text_of_lines (drop n lines))))

pub whole_line : (bytes : List ℕ) (n : ℕ) (cause : TraceCause) → TraceBreak bytes n cause → cause ≢ TooLarge → cause ≢ NoEnd → cause ≢ AfterEnd
    → (lines : List (List ℕ)) × (rest : List ℕ) × (length lines ≡ n) × AllByRecursion IsOneLine lines × (bytes ≡ text_of_lines lines ++ rest)
whole_line bytes n cause (inl large) small no_end last = absurd (small large.2)
whole_line bytes n cause (inr (short, gives)) small no_end last =
    let first = parted n gives.lines (omega (arith, within_lines parts.opening 1 gives.lines gives.rest n cause no_end last gives.reads)) gives.cut.whole in
    (take n gives.lines, text_of_lines (drop n gives.lines) ++ gives.rest, first.0, first.1, gives.cut.joined ∙ ap (λ (text : List ℕ). text ++ gives.rest) first.2 ∙ append_assoc (text_of_lines (take n gives.lines)) (text_of_lines (drop n gives.lines)) gives.rest)

-- ---- behind the last line, and before it

-- bytes that aren't none
some_bytes : (bytes : List ℕ) → 1 ≤ length bytes → (byte : ℕ) × (others : List ℕ) × (bytes ≡ byte ∷ others)
some_bytes [] some = absurd (omega (arith, some))
some_bytes (byte ∷ bytes) some = (byte, bytes, refl)

-- what a part at its end says of a run
ends_run : (part : TracePart) (n byte : ℕ) (bytes : List ℕ) (run : Recording) → ok_of run ≡ parts.at_end part n [] → let found = cut_of (byte ∷ bytes) in ReadsLines part n found.lines found.rest (err_of n AfterEnd)
ends_run parts.opening n byte bytes run e = absurd cc
ends_run (parts.messages version before) n byte bytes run e = absurd cc
ends_run (parts.clocks version dictionary times) n byte bytes run e = absurd cc
ends_run (parts.calls other) n byte bytes run e = absurd cc
ends_run (parts.ended other) n byte bytes run e =
    let found = cut_of (byte ∷ bytes) in
    let gives = refused_after other n byte bytes in
    let same = one_cut (byte ∷ bytes) gives.lines found.lines gives.rest found.rest gives.cut found.cut in
    subst (λ (last : List ℕ). ReadsLines (parts.ended other) n found.lines last (err_of n AfterEnd)) same.1 (subst (λ (all : List (List ℕ)). ReadsLines (parts.ended other) n all gives.rest (err_of n AfterEnd)) same.0 gives.reads)

-- lines that give a run give none with more bytes behind them
reads_more : (part : TracePart) (n byte : ℕ) (lines : List (List ℕ)) (bytes : List ℕ) (run : Recording) → ReadsLines part n lines [] (ok_of run) → let found = cut_of (byte ∷ bytes) in ReadsLines part n (lines ++ found.lines) found.rest (err_of (n + length lines) AfterEnd)
reads_more part n byte [] bytes run reads = let found = cut_of (byte ∷ bytes) in let same : n ≡ n + 0 = omega arith in subst (λ (line : ℕ). ReadsLines part n found.lines found.rest (err_of line AfterEnd)) same (ends_run part n byte bytes run reads)
reads_more part n byte (line ∷ lines) bytes run (inl (next, follows, reads)) =
    let found = cut_of (byte ∷ bytes) in
    let same : n + 1 + length lines ≡ n + length (line ∷ lines) = omega arith in
    inl (next, follows, subst (λ (at : ℕ). ReadsLines next (n + 1) (lines ++ found.lines) found.rest (err_of at AfterEnd)) same (reads_more next (n + 1) byte lines bytes run reads))
reads_more part n byte (line ∷ lines) bytes run (inr (cause, breaks, is)) = absurd (no_run_breaks run n cause is)

-- nothing is left behind the last line
ends_whole : (part : TracePart) (n : ℕ) (lines : List (List ℕ)) (rest : List ℕ) (run : Recording) → ReadsLines part n lines rest (ok_of run) → rest ≡ []
ends_whole parts.opening n [] rest run reads = absurd cc
ends_whole (parts.messages version before) n [] rest run reads = absurd cc
ends_whole (parts.clocks version dictionary times) n [] rest run reads = absurd cc
ends_whole (parts.calls other) n [] rest run reads = absurd cc
ends_whole (parts.ended other) n [] [] run reads = refl
ends_whole (parts.ended other) n [] (byte ∷ rest) run reads = absurd cc
ends_whole part n (line ∷ lines) rest run (inl (next, follows, reads)) = ends_whole next (n + 1) lines rest run reads
ends_whole part n (line ∷ lines) rest run (inr (cause, breaks, is)) = absurd (no_run_breaks run n cause is)

-- bytes behind the text of a run are refused
pub refused_behind_end : (bytes rest : List ℕ) (run : Recording) → TraceText bytes run → 1 ≤ length rest → length (bytes ++ rest) ≤ MAX_TRACE → (line : ℕ) × TraceBreak (bytes ++ rest) line AfterEnd
refused_behind_end bytes rest run text some short =
    let gives = text_reads bytes run text in
    let behind = some_bytes rest some in
    let nothing = ends_whole parts.opening 1 gives.lines gives.rest run gives.reads in
    let reads = subst (λ (last : List ℕ). ReadsLines parts.opening 1 gives.lines last (ok_of run)) nothing gives.reads in
    let lined : bytes ≡ text_of_lines gives.lines = gives.cut.joined ∙ ap (λ (last : List ℕ). text_of_lines gives.lines ++ last) nothing ∙ append-nil (text_of_lines gives.lines) in
    let line = 1 + length gives.lines in
    let refused = gives_lines gives.lines (behind.0 ∷ behind.1) (err_of line AfterEnd) gives.cut.whole (reads_more parts.opening 1 behind.0 gives.lines behind.1 run reads) in
    (line, inr (short, subst (λ (whole : List ℕ). Gives parts.opening 1 whole (err_of line AfterEnd)) (ap (λ (all : List ℕ). all ++ behind.0 ∷ behind.1) (sym lined) ∙ ap (λ (last : List ℕ). bytes ++ last) (sym behind.2)) refused))

-- the part where a line more is right says that the end is wanting
wants_end : (part : TracePart) (n : ℕ) (line : List ℕ) (lines : List (List ℕ)) (rest last : List ℕ) (run : Recording) → ReadsLines part n (line ∷ lines) rest (ok_of run) → err_of n NoEnd ≡ parts.at_end part n last
wants_end parts.opening n line lines rest last run reads = refl
wants_end (parts.messages version before) n line lines rest last run reads = refl
wants_end (parts.clocks version dictionary times) n line lines rest last run reads = refl
wants_end (parts.calls other) n line lines rest last run reads = refl
wants_end (parts.ended other) n line lines rest last run (inl (next, follows, reads)) = absurd follows
wants_end (parts.ended other) n line lines rest last run (inr (cause, breaks, is)) = absurd (no_run_breaks run n cause is)

-- the first of the lines that give a run give none
reads_fewer : (part : TracePart) (n : ℕ) (lines : List (List ℕ)) (line : List ℕ) (others : List (List ℕ)) (rest last : List ℕ) (run : Recording) → ReadsLines part n (lines ++ line ∷ others) rest (ok_of run) → ReadsLines part n lines last (err_of (n + length lines) NoEnd)
reads_fewer part n [] line others rest last run reads = let same : n ≡ n + 0 = omega arith in subst (λ (at : ℕ). err_of at NoEnd ≡ parts.at_end part n last) same (wants_end part n line others rest last run reads)
reads_fewer part n (first ∷ lines) line others rest last run (inl (next, follows, reads)) =
    let same : n + 1 + length lines ≡ n + length (first ∷ lines) = omega arith in
    inl (next, follows, subst (λ (at : ℕ). ReadsLines next (n + 1) lines last (err_of at NoEnd)) same (reads_fewer next (n + 1) lines line others rest last run reads))
reads_fewer part n (first ∷ lines) line others rest last run (inr (cause, breaks, is)) = absurd (no_run_breaks run n cause is)

lacks_end : (front rest : List ℕ) (run : Recording) (found : CutOf front) (lines : List (List ℕ)) (last : List ℕ) → IsCutIntoLines (found.rest ++ rest) lines last → ReadsLines parts.opening 1 (found.lines ++ lines) last (ok_of run) → 1 ≤ length rest
    → Gives parts.opening 1 front (err_of (1 + length found.lines) NoEnd)
lacks_end front rest run found [] last cut reads some =
    let nothing = ends_whole parts.opening 1 (found.lines ++ []) last run reads in
    absurd (omega (arith, some, ap length cut.joined, ap length nothing, length-append found.rest rest))
lacks_end front rest run found (line ∷ others) last cut reads some =
    record { lines = found.lines; rest = found.rest; cut = found.cut; reads = reads_fewer parts.opening 1 found.lines line others last found.rest run reads }

-- a front of the text of a run lacks its end
pub front_lacks_end : (front rest : List ℕ) (run : Recording) → TraceText (front ++ rest) run → 1 ≤ length rest → (line : ℕ) × TraceBreak front line NoEnd
front_lacks_end front rest run text some =
    let found = cut_of front in
    let behind = cut_of (found.rest ++ rest) in
    let whole : front ++ rest ≡ text_of_lines found.lines ++ (found.rest ++ rest) = ap (λ (bytes : List ℕ). bytes ++ rest) found.cut.joined ∙ append_assoc (text_of_lines found.lines) found.rest rest in
    let reads = reads_lines found.lines (found.rest ++ rest) (ok_of run) found.cut.whole (subst (λ (bytes : List ℕ). Gives parts.opening 1 bytes (ok_of run)) whole (text_reads (front ++ rest) run text)) in
    (1 + length found.lines, inr (omega (arith, text.short, length-append front rest), lacks_end front rest run found behind.lines behind.rest behind.cut reads some))
