-- One line read, and what it says of all that follows.
use Rattle.std.proofs.Common.{◌≡◌, ◌≢◌, ℕ, ◌+◌, List, [], ◌∷◌, All, eqb, length, false, Result, Ok, Err, refl, ap, sym, ◌∙◌, subst, inl, inr}
use Rattle.log_dictionary.specs.Fields.{IsFirstSplit}
use Rattle.trace_text.specs.declared.cause.TraceCause.{TraceCause}
use Rattle.trace_text.specs.declared.cause.TraceCause.TheVariants.{AfterEnd}
use Rattle.trace_text.specs.declared.reading.TraceFault.{TraceFault}
use Rattle.trace_text.specs.declared.reading.TraceFault.TheVariants.{ReadFault, Refused, NoMemory}
use Rattle.trace_text.specs.Recordings.{Recording}
use Rattle.trace_text.specs.Reading.{ended, Follows, Breaks, at_end, ReadsLines, IsCutIntoLines, Gives}
use Rattle.trace_text.specs.Progress.{TraceProgress, GivesFrom, Leads, IsRefusal, ReadsToEnd}
use Rattle.trace_text.proofs.Cuts.{cut_of, cut_behind, cut_unended}

-- a right line leads to the part of the next
pub leads : (from to : TraceProgress) (line : List ℕ) → IsFirstSplit 10 from.bytes line to.bytes → to.number ≡ from.number + 1 → Follows from.part line to.part → Leads from to
leads from to line split next follows outcome gives = record {
  lines = line ∷ gives.lines;
  rest = gives.rest;
  cut = cut_behind from.bytes line to.bytes gives.lines gives.rest split gives.cut;
  reads = inl (to.part, follows, subst (λ (n : ℕ). ReadsLines to.part n gives.lines gives.rest outcome) next gives.reads);
}

-- a wrong line is refused, whatever follows
pub refused_here : (from : TraceProgress) (line behind : List ℕ) (cause : TraceCause) → IsFirstSplit 10 from.bytes line behind → Breaks from.part line cause → GivesFrom from (Err (record { line = from.number; cause = cause }))
refused_here from line behind cause split breaks =
    let found = cut_of behind in
    record {
      lines = line ∷ found.lines;
      rest = found.rest;
      cut = cut_behind from.bytes line behind found.lines found.rest split found.cut;
      reads = inr (cause, breaks, refl);
    }

-- where no line ends the part says what is given
pub ends_here : (from : TraceProgress) → All (λ byte. byte ≢ 10) from.bytes → GivesFrom from (at_end from.part from.number from.bytes)
ends_here from none = record { lines = []; rest = from.bytes; cut = cut_unended from.bytes none; reads = refl }

reads_after : (run : Recording) (n byte : ℕ) (bytes : List ℕ) (lines : List (List ℕ)) (rest : List ℕ) → IsCutIntoLines (byte ∷ bytes) lines rest → ReadsLines (ended run) n lines rest (Err (record { line = n; cause = AfterEnd }))
reads_after run n byte bytes [] rest cut = ap (at_end (ended run) n) cut.joined
reads_after run n byte bytes (line ∷ lines) rest cut = inr (AfterEnd, refl, refl)

-- nothing may follow the last line
pub refused_after : (run : Recording) (n byte : ℕ) (bytes : List ℕ) → Gives (ended run) n (byte ∷ bytes) (Err (record { line = n; cause = AfterEnd }))
refused_after run n byte bytes =
    let found = cut_of (byte ∷ bytes) in
    record { lines = found.lines; rest = found.rest; cut = found.cut; reads = reads_after run n byte bytes found.lines found.rest found.cut }

-- bytes that aren't none
pub refused_behind : (run : Recording) (n : ℕ) (bytes : List ℕ) → eqb (length bytes) 0 ≡ false → Gives (ended run) n bytes (Err (record { line = n; cause = AfterEnd }))
refused_behind run n [] some = absurd cc
refused_behind run n (byte ∷ bytes) some = refused_after run n byte bytes

-- ---- one reader after another

pub leads_on : (a b c : TraceProgress) → Leads a b → Leads b c → Leads a c
leads_on a b c first second outcome gives = first outcome (second outcome gives)

-- where the rest is refused the whole is
pub refused_on : (a b : TraceProgress) (fault : TraceFault) → Leads a b → IsRefusal b fault → IsRefusal a fault
refused_on a b (Refused line cause) led refusal = led _ refusal
refused_on a b NoMemory led refusal = tt
refused_on a b ReadFault led refusal = absurd refusal

-- what a reader says of the rest holds of the whole
pub finished_on : (a b : TraceProgress) (r : Result Recording TraceFault) → Leads a b → ReadsToEnd b r → ReadsToEnd a r
finished_on a b (Ok run) led finished = led _ finished
finished_on a b (Err fault) led finished = refused_on a b fault led finished

-- a reader that returns the fault of another one
pub fault_on : (a b : TraceProgress) (r : Result Recording TraceFault) (fault returned : TraceFault) → Leads a b → IsRefusal b fault → r ≡ Err returned → returned ≡ fault → ReadsToEnd a r
fault_on a b r fault returned led refusal is same = subst (ReadsToEnd a) (sym (is ∙ ap Err same)) (refused_on a b fault led refusal)

-- the fault with the number of the next line
pub refused_as : (from : TraceProgress) (fault : TraceFault) (cause : TraceCause) → fault ≡ Refused from.number cause → GivesFrom from (Err (record { line = from.number; cause = cause })) → IsRefusal from fault
refused_as from fault cause is gives = subst (IsRefusal from) (sym is) gives
