-- What the bytes from a line on give is one outcome.
use Rattle.std.proofs.Common.{◌≡◌, ℕ, ◌+◌, List, [], ◌∷◌, ◌++◌, length, Result, Err, refl, sym, ap, ◌∙◌, subst, inl, inr, append_assoc, arith}
use Rattle.log_dictionary.specs.declared.clock.Clock.{Clock}
use Rattle.log_dictionary.specs.declared.message.Message.{Message}
use Rattle.trace_text.specs.declared.cause.TraceCause.{TraceCause}
use Rattle.trace_text.specs.Recordings.{Recording, start_of}
use Rattle.trace_text.specs.Lines.{WriterCall, text_of_lines}
use Rattle.trace_text.specs.CallReading.{with_call}
use Rattle.trace_text.specs.Reading as parts
use Rattle.trace_text.specs.Reading.{TracePart, Broken, IsOneLine, IsCutIntoLines, Follows, Breaks, FollowsMessages, BreaksMessages, ReadsLines, Gives}
use Rattle.log_dictionary.proofs.lemmas.LineMessages.{one_message}

-- ---- one way to cut

pub feed_inside : (line rest : List ℕ) → ¬ (IsOneLine (line ++ 10 ∷ rest))
feed_inside [] rest none = none.0 refl
feed_inside (byte ∷ line) rest none = feed_inside line rest none.1

pub same_first : (a b x y : List ℕ) → IsOneLine a → IsOneLine b → a ++ 10 ∷ x ≡ b ++ 10 ∷ y → (a ≡ b) × (x ≡ y)
same_first [] [] x y none other same = (refl, cc)
same_first [] (byte ∷ b) x y none other same = absurd (other.0 cc)
same_first (byte ∷ a) [] x y none other same = absurd (none.0 cc)
same_first (byte ∷ a) (head ∷ b) x y none other same =
    let rest : a ++ 10 ∷ x ≡ b ++ 10 ∷ y = cc in
    let others = same_first a b x y none.1 other.1 rest in
    let first : byte ≡ head = cc in
    (ap (λ (n : ℕ). n ∷ a) first ∙ ap (λ (l : List ℕ). head ∷ l) others.0, others.1)

pub one_cut : (bytes : List ℕ) (a b : List (List ℕ)) (x y : List ℕ) → IsCutIntoLines bytes a x → IsCutIntoLines bytes b y → (a ≡ b) × (x ≡ y)
one_cut bytes [] [] x y first second = (refl, sym first.joined ∙ second.joined)
one_cut bytes [] (line ∷ b) x y first second =
    absurd (feed_inside line (text_of_lines b ++ y) (subst IsOneLine (sym first.joined ∙ second.joined ∙ append_assoc line (10 ∷ text_of_lines b) y) first.unended))
one_cut bytes (line ∷ a) [] x y first second =
    absurd (feed_inside line (text_of_lines a ++ x) (subst IsOneLine (sym second.joined ∙ first.joined ∙ append_assoc line (10 ∷ text_of_lines a) x) second.unended))
one_cut bytes (line ∷ a) (other ∷ b) x y first second =
    let parted = same_first line other (text_of_lines a ++ x) (text_of_lines b ++ y) first.whole.0 second.whole.0 (sym (append_assoc line (10 ∷ text_of_lines a) x) ∙ sym first.joined ∙ second.joined ∙ append_assoc other (10 ∷ text_of_lines b) y) in
    let others = one_cut (text_of_lines a ++ x) a b x y (record { joined = refl; whole = first.whole.1; unended = first.unended }) (record { joined = parted.1; whole = second.whole.1; unended = second.unended }) in
    (ap (λ (l : List ℕ). l ∷ a) parted.0 ∙ ap (λ (ls : List (List ℕ)). other ∷ ls) others.0, others.1)

-- ---- one next part, or one cause

one_next_message : (version : ℕ) (before : List Message) (line : List ℕ) (next other : TracePart) → FollowsMessages version before line next → FollowsMessages version before line other → next ≡ other
one_next_message version before line next other first second =
    let same = (one_message line (length before) (length before) first.2.0 second.2.0 first.2.1.spelled second.2.1.spelled).1 in
    first.2.2 ∙ ap (λ (m : Message). parts.messages version (before ++ m ∷ [])) same ∙ sym second.2.2

one_next : (part : TracePart) (line : List ℕ) (next other : TracePart) → Follows part line next → Follows part line other → next ≡ other
one_next parts.opening line next other first second =
    let same : first.0 ≡ second.0 = cc in
    first.2 ∙ ap (λ (version : ℕ). parts.messages version []) same ∙ sym second.2
one_next (parts.messages version before) line next other (inl first) (inl second) = one_next_message version before line next other first second
one_next (parts.messages version before) line next other (inl first) (inr second) = absurd cc
one_next (parts.messages version before) line next other (inr first) (inl second) = absurd cc
one_next (parts.messages version before) line next other (inr first) (inr second) =
    let same : first.1.0 ≡ second.1.0 = cc in
    first.1.2 ∙ ap (λ (time : Clock). parts.clocks version before (time ∷ [])) same ∙ sym second.1.2
one_next (parts.clocks version dictionary times) line next other (inl first) (inl second) =
    let same : first.1.0 ≡ second.1.0 = cc in
    first.1.2 ∙ ap (λ (time : Clock). parts.clocks version dictionary (times ++ time ∷ [])) same ∙ sym second.1.2
one_next (parts.clocks version dictionary times) line next other (inl first) (inr second) = absurd cc
one_next (parts.clocks version dictionary times) line next other (inr first) (inl second) = absurd cc
one_next (parts.clocks version dictionary times) line next other (inr first) (inr second) =
    let same : first.1.0 ≡ second.1.0 = cc in
    first.1.2 ∙ ap (λ (count : ℕ). parts.calls (start_of version dictionary times count)) same ∙ sym second.1.2
one_next (parts.calls run) line next other (inl first) (inl second) = first.1 ∙ sym second.1
one_next (parts.calls run) line next other (inl first) (inr second) = absurd (second.0 first.0)
one_next (parts.calls run) line next other (inr first) (inl second) = absurd (first.0 second.0)
one_next (parts.calls run) line next other (inr first) (inr second) =
    let same : first.1.0 ≡ second.1.0 = cc in
    first.1.2 ∙ ap (λ (made : WriterCall). parts.calls (with_call run made)) same ∙ sym second.1.2
one_next (parts.ended run) line next other first second = absurd first

pub one_cause : (part : TracePart) (line : List ℕ) (cause other : TraceCause) → Breaks part line cause → Breaks part line other → cause ≡ other
one_cause parts.opening line cause other first second = first.1 ∙ sym second.1
one_cause (parts.messages version before) line cause other (inl (_, inl first)) (inl (_, inl second)) = first.1 ∙ sym second.1
one_cause (parts.messages version before) line cause other (inl (_, inl first)) (inl (_, inr second)) = absurd (omega (arith, first.0, second.0))
one_cause (parts.messages version before) line cause other (inl (_, inr first)) (inl (_, inl second)) = absurd (omega (arith, first.0, second.0))
one_cause (parts.messages version before) line cause other (inl (_, inr first)) (inl (_, inr second)) = first.2 ∙ sym second.2
one_cause (parts.messages version before) line cause other (inl first) (inr second) = absurd cc
one_cause (parts.messages version before) line cause other (inr first) (inl second) = absurd cc
one_cause (parts.messages version before) line cause other (inr first) (inr second) = first.2 ∙ sym second.2
one_cause (parts.clocks version dictionary times) line cause other (inl first) (inl second) = let same = sym first.1 ∙ second.1 in cc
one_cause (parts.clocks version dictionary times) line cause other (inl first) (inr second) = absurd cc
one_cause (parts.clocks version dictionary times) line cause other (inr first) (inl second) = absurd cc
one_cause (parts.clocks version dictionary times) line cause other (inr first) (inr second) = first.2 ∙ sym second.2
one_cause (parts.calls run) line cause other first second = let same = sym first.1 ∙ second.1 in cc
one_cause (parts.ended run) line cause other first second = first ∙ sym second

-- no line is right and refused
not_both_messages : (version : ℕ) (before : List Message) (line : List ℕ) (next : TracePart) (cause : TraceCause) → FollowsMessages version before line next → ¬ (BreaksMessages before line cause)
not_both_messages version before line next cause follows (_, inl full) = omega (arith, follows.1, full.0)
not_both_messages version before line next cause follows (_, inr none) = none.1 follows.2.0 follows.2.1

not_both : (part : TracePart) (line : List ℕ) (next : TracePart) (cause : TraceCause) → Follows part line next → ¬ (Breaks part line cause)
not_both parts.opening line next cause follows breaks = absurd cc
not_both (parts.messages version before) line next cause (inl follows) (inl breaks) = not_both_messages version before line next cause follows breaks
not_both (parts.messages version before) line next cause (inl follows) (inr breaks) = absurd cc
not_both (parts.messages version before) line next cause (inr follows) (inl breaks) = absurd cc
not_both (parts.messages version before) line next cause (inr follows) (inr breaks) = absurd cc
not_both (parts.clocks version dictionary times) line next cause (inl follows) (inl breaks) = absurd cc
not_both (parts.clocks version dictionary times) line next cause (inl follows) (inr breaks) = absurd cc
not_both (parts.clocks version dictionary times) line next cause (inr follows) (inl breaks) = absurd cc
not_both (parts.clocks version dictionary times) line next cause (inr follows) (inr breaks) = absurd cc
not_both (parts.calls run) line next cause (inl follows) breaks = breaks.0 follows.0
not_both (parts.calls run) line next cause (inr follows) breaks = absurd cc
not_both (parts.ended run) line next cause follows breaks = follows

-- ---- one outcome

one_reading : (part : TracePart) (n : ℕ) (lines : List (List ℕ)) (rest : List ℕ) (a b : Result Recording Broken) → ReadsLines part n lines rest a → ReadsLines part n lines rest b → a ≡ b
one_reading part n [] rest a b first second = first ∙ sym second
one_reading part n (line ∷ lines) rest a b (inl first) (inl second) =
    let same = one_next part line first.0 second.0 first.1 second.1 in
    one_reading second.0 (n + 1) lines rest a b (subst (λ (p : TracePart). ReadsLines p (n + 1) lines rest a) same first.2) second.2
one_reading part n (line ∷ lines) rest a b (inl first) (inr second) = absurd (not_both part line first.0 second.0 first.1 second.1)
one_reading part n (line ∷ lines) rest a b (inr first) (inl second) = absurd (not_both part line second.0 first.0 second.1 first.1)
one_reading part n (line ∷ lines) rest a b (inr first) (inr second) =
    first.2 ∙ ap (λ (cause : TraceCause). Err (record { line = n; cause = cause })) (one_cause part line first.0 second.0 first.1 second.1) ∙ sym second.2

pub one_outcome : (part : TracePart) (n : ℕ) (bytes : List ℕ) (a b : Result Recording Broken) → Gives part n bytes a → Gives part n bytes b → a ≡ b
one_outcome part n bytes a b first second =
    let same = one_cut bytes first.lines second.lines first.rest second.rest first.cut second.cut in
    let moved : ReadsLines part n second.lines second.rest a = subst (λ (rest : List ℕ). ReadsLines part n second.lines rest a) same.1 (subst (λ (lines : List (List ℕ)). ReadsLines part n lines first.rest a) same.0 first.reads) in
    one_reading part n second.lines second.rest a b moved second.reads
