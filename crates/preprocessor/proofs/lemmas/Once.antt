-- Sources have one list of findings, and one of refusals.
use Rattle.std.proofs.Common.{◌≡◌, ◌⊎◌, inl, inr, ◌+◌, ◌≤◌, List, [], ◌∷◌, ◌++◌, length, refl, sym, ap, subst, ◌∙◌, append_assoc, append-nil, arith}
use Rattle.std.proofs.lemmas.Grind.{flat_map-append}
use Rattle.std.proofs.lemmas.List.{append_cancel_left}
use Rattle.printf_grammar.proofs.lemmas.Shortening.{cons_parts}
use Rattle.log_dictionary.specs.declared.message.Message.{Message}
use Rattle.log_dictionary.specs.declared.dictionary.TheConstants.{MAX_MESSAGES}
use Rattle.log_dictionary.specs.Messages.{HasMessage}
use Rattle.source_scan.specs.declared.found.Found.{Found}
use Rattle.source_scan.proofs.lemmas.Unique.{statements_once}
use Rattle.preprocessor.specs.declared.refusal.SourceRefusal.{SourceRefusal}
use Rattle.preprocessor.specs.Findings.{SourceFile, Finding, AreFindings, HasFindings, AllHave}
use Rattle.preprocessor.specs.Findings.HasFindings.{too_large, scanned}
use Rattle.preprocessor.specs.Numbering.{finding_messages, stated_messages, refusals_of, firsts, numbered, excess_refusal, IsFullAt, Refusals}
use Rattle.preprocessor.specs.Numbering.Refusals.{all_read, stopped}
use Rattle.preprocessor.proofs.lemmas.Behind.{fronts_meet, grown_behind, one_longer}
use Rattle.preprocessor.proofs.lemmas.Finding.{finding_once}
use Rattle.preprocessor.proofs.Holding.{stops_later}

-- ---- findings

are_findings_once : (list : List Found) (a b : List Finding) → AreFindings list a → AreFindings list b → a ≡ b
are_findings_once [] a b is also = is ∙ sym also
are_findings_once (one ∷ list) a b (first, rest, joined, is, later) (other, others, also_joined, also, also_later) =
    joined ∙ ap (λ (f : Finding). f ∷ rest) (finding_once one first other is also) ∙ ap (λ (l : List Finding). other ∷ l) (are_findings_once list rest others later also_later) ∙ sym also_joined

findings_once : (file : SourceFile) (a b : List Finding) → HasFindings file a → HasFindings file b → a ≡ b
findings_once file a b (too_large large is) (too_large also_large also) = is ∙ sym also
findings_once file a b (too_large large is) (scanned list small statements are) = absurd (omega (arith, large, small))
findings_once file a b (scanned list small statements are) (too_large large is) = absurd (omega (arith, large, small))
findings_once file a b (scanned list small statements are) (scanned others also_small also also_are) =
    are_findings_once list a b are (subst (λ (l : List Found). AreFindings l b) (sym (statements_once file.name file.bytes list others statements also)) also_are)

-- sources have one list of findings
pub all_have_once : (files : List SourceFile) (a b : List Finding) → AllHave files a → AllHave files b → a ≡ b
all_have_once [] a b is also = is ∙ sym also
all_have_once (file ∷ files) a b (first, rest, joined, is, later) (other, others, also_joined, also, also_later) =
    joined ∙ ap (λ (l : List Finding). l ++ rest) (findings_once file first other is also) ∙ ap (λ (l : List Finding). other ++ l) (all_have_once files rest others later also_later) ∙ sym also_joined

-- the findings of sources begin with those of the first ones
pub have_front : (read unread : List SourceFile) (findings : List Finding) → AllHave (read ++ unread) findings → (front : List Finding) × (rest : List Finding) × (findings ≡ front ++ rest) × AllHave read front
have_front [] unread findings have = ([], findings, refl, refl)
have_front (file ∷ read) unread findings (first, others, joined, is, later) =
    let parts = have_front read unread others later in
    (first ++ parts.0, parts.1, joined ∙ ap (λ (l : List Finding). first ++ l) parts.2 ∙ sym (append_assoc first parts.0 parts.1), (first, parts.0, refl, is, parts.3))

-- ---- where a message is one too many

-- with its statement there are more messages than a dictionary takes, however the findings go on
past_full : (front : List Finding) (message : Message) (rest : List Finding) → length (numbered front) ≡ MAX_MESSAGES → ¬ (HasMessage (numbered front) message) → MAX_MESSAGES + 1 ≤ length (numbered (front ++ Finding.stated message ∷ rest))
past_full front message rest full new =
    let longer = one_longer (stated_messages front) message new in
    let behind = grown_behind (stated_messages front ++ message ∷ []) (stated_messages rest) in
    let joined : stated_messages (front ++ Finding.stated message ∷ rest) ≡ (stated_messages front ++ message ∷ []) ++ stated_messages rest = flat_map-append finding_messages front (Finding.stated message ∷ rest) ∙ sym (append_assoc (stated_messages front) (message ∷ []) (stated_messages rest)) in
    subst (λ (l : List Message). MAX_MESSAGES + 1 ≤ length (firsts l)) (sym joined) (omega (arith, longer, behind, full))

stops_past : (findings front : List Finding) (message : Message) → IsFullAt findings front message → (more : List Finding) → MAX_MESSAGES + 1 ≤ length (numbered (findings ++ more))
stops_past findings front message stops more =
    subst (λ (l : List Finding). MAX_MESSAGES + 1 ≤ length (numbered l)) (sym (ap (λ (l : List Finding). l ++ more) stops.joined ∙ append_assoc front (Finding.stated message ∷ stops.rest) more))
    (past_full front message (stops.rest ++ more) stops.full stops.new)

-- a front that a statement stops doesn't go on with that statement
not_behind : (front more : List Finding) (message : Message) (other : List Finding) → length (numbered front) ≡ MAX_MESSAGES → ¬ (HasMessage (numbered front) message) → other ≡ front ++ Finding.stated message ∷ more → length (numbered other) ≡ MAX_MESSAGES → ⊥
not_behind front more message other full new is also =
    let past = past_full front message more full new in
    let same = ap (λ (l : List Finding). length (numbered l)) is in
    absurd (omega (arith, past, same, also))

abbrev message_in : Message → Finding → Message
message_in other (Finding.stated message) = message
message_in other (Finding.refused refusal) = other

-- one stop is at the other, where its front goes on from the other's
stops_with : (findings front other : List Finding) (message last : Message) (a : IsFullAt findings front message) (b : IsFullAt findings other last) (more : List Finding) → other ≡ front ++ more → (front ≡ other) × (message ≡ last)
stops_with findings front other message last a b more is =
    by_more more is (append_cancel_left front (Finding.stated message ∷ a.rest) (more ++ Finding.stated last ∷ b.rest) (sym a.joined ∙ b.joined ∙ ap (λ (l : List Finding). l ++ Finding.stated last ∷ b.rest) is ∙ append_assoc front more (Finding.stated last ∷ b.rest)))
  where
    by_more : (more : List Finding) → other ≡ front ++ more → Finding.stated message ∷ a.rest ≡ more ++ Finding.stated last ∷ b.rest → (front ≡ other) × (message ≡ last)
    by_more [] is e = (sym (is ∙ append-nil front), ap (message_in message) (cons_parts (Finding.stated message) (Finding.stated last) a.rest b.rest e).0)
    by_more (one ∷ more) is e =
        absurd (not_behind front more message other a.full a.new (is ∙ ap (λ (f : Finding). front ++ f ∷ more) (sym (cons_parts (Finding.stated message) one a.rest (more ++ Finding.stated last ∷ b.rest) e).0)) b.full)

stops_once : (findings front other : List Finding) (message last : Message) → IsFullAt findings front message → IsFullAt findings other last → (front ≡ other) × (message ≡ last)
stops_once findings front other message last a b = by_meeting (fronts_meet front other (Finding.stated message ∷ a.rest) (Finding.stated last ∷ b.rest) (sym a.joined ∙ b.joined))
  where
    by_meeting : ((more : List Finding) × (other ≡ front ++ more)) ⊎ ((more : List Finding) × (front ≡ other ++ more)) → (front ≡ other) × (message ≡ last)
    by_meeting (inl (more, is)) = stops_with findings front other message last a b more is
    by_meeting (inr (more, is)) =
        let same = stops_with findings other front last message b a more is in
        (sym same.0, sym same.1)

-- ---- refusals

-- sources that are stopped at have more messages than a dictionary takes
all_or_stopped : (read unread : List SourceFile) (findings found front : List Finding) (message : Message) → AllHave (read ++ unread) findings → AllHave read found → IsFullAt found front message → length (numbered findings) ≤ MAX_MESSAGES → ⊥
all_or_stopped read unread findings found front message have first stops few =
    let parts = have_front read unread findings have in
    let is : findings ≡ found ++ parts.1 = parts.2 ∙ ap (λ (l : List Finding). l ++ parts.1) (all_have_once read parts.0 found parts.3 first) in
    let past = stops_past found front message stops parts.1 in
    let same = ap (λ (l : List Finding). length (numbered l)) is in
    absurd (omega (arith, past, same, few))

-- a stop is the same where more sources are read
stopped_same : (read more : List SourceFile) (findings found front other : List Finding) (message last : Message) → AllHave read findings → AllHave (read ++ more) found → IsFullAt findings front message → IsFullAt found other last → (front ≡ other) × (message ≡ last)
stopped_same read more findings found front other message last have all a b =
    let parts = have_front read more found all in
    let is : findings ++ parts.1 ≡ found = ap (λ (l : List Finding). l ++ parts.1) (all_have_once read findings parts.0 have parts.3) ∙ sym parts.2 in
    stops_once found front other message last (subst (λ (l : List Finding). IsFullAt l front message) is (stops_later findings front message a parts.1)) b

excess_same : (front other : List Finding) (message last : Message) → (front ≡ other) × (message ≡ last) → refusals_of front ++ excess_refusal message ∷ [] ≡ refusals_of other ++ excess_refusal last ∷ []
excess_same front other message last same = ap (λ (l : List Finding). refusals_of l ++ excess_refusal message ∷ []) same.0 ∙ ap (λ (m : Message). refusals_of other ++ excess_refusal m ∷ []) same.1

-- sources have one list of refusals
pub refusals_once : (files : List SourceFile) (a b : List SourceRefusal) → Refusals files a → Refusals files b → a ≡ b
refusals_once files a b (all_read findings have few is) (all_read found also_have also_few also) = is ∙ ap refusals_of (all_have_once files findings found have also_have) ∙ sym also
refusals_once files a b (all_read findings have few is) (stopped read unread found joined first front message stops also) =
    absurd (all_or_stopped read unread findings found front message (subst (λ (l : List SourceFile). AllHave l findings) joined have) first stops few)
refusals_once files a b (stopped read unread found joined first front message stops is) (all_read findings have few also) =
    absurd (all_or_stopped read unread findings found front message (subst (λ (l : List SourceFile). AllHave l findings) joined have) first stops few)
refusals_once files a b (stopped read unread findings joined have front message stops is) (stopped also_read also_unread found also_joined also_have other last also_stops also) =
    is ∙ by_meeting (fronts_meet read also_read unread also_unread (sym joined ∙ also_joined)) ∙ sym also
  where
    by_meeting : ((more : List SourceFile) × (also_read ≡ read ++ more)) ⊎ ((more : List SourceFile) × (read ≡ also_read ++ more)) → refusals_of front ++ excess_refusal message ∷ [] ≡ refusals_of other ++ excess_refusal last ∷ []
    by_meeting (inl (more, e)) = excess_same front other message last (stopped_same read more findings found front other message last have (subst (λ (l : List SourceFile). AllHave l found) e also_have) stops also_stops)
    by_meeting (inr (more, e)) = sym (excess_same other front last message (stopped_same also_read more found findings other front last message also_have (subst (λ (l : List SourceFile). AllHave l findings) e have) also_stops stops))
