-- What a numbering holds, with one finding more.
use Rattle.std.proofs.Common.{◌≡◌, inl, inr, ℕ, ◌+◌, ◌≤◌, true, false, List, [], ◌∷◌, ◌++◌, length, Result, Ok, Err, refl, sym, ap, subst, ◌∙◌, append_assoc, append-nil, length-append, arith}
use Rattle.std.proofs.lemmas.Bool.{false≢true}
use Rattle.std.proofs.lemmas.Grind.{flat_map-append}
use Rattle.log_dictionary.specs.declared.message.Message.{Message}
use Rattle.log_dictionary.specs.declared.dictionary.TheConstants.{MAX_MESSAGES}
use Rattle.log_dictionary.specs.declared.dictionary.Added.{Added}
use Rattle.log_dictionary.specs.declared.dictionary.Added.TheVariants.{Old, New}
use Rattle.log_dictionary.specs.declared.dictionary.AddFault.{AddFault}
use Rattle.log_dictionary.specs.declared.dictionary.AddFault.TheVariants.{TooMany}
use Rattle.log_dictionary.specs.Messages.{HasMessage}
use Rattle.log_dictionary.specs.Additions.{IsAdded}
use Rattle.preprocessor.specs.declared.numbering.Numbering.{Numbering}
use Rattle.preprocessor.specs.declared.refusal.SourceRefusal.{SourceRefusal}
use Rattle.preprocessor.specs.Findings.{Finding}
use Rattle.preprocessor.specs.Numbering.{finding_messages, stated_messages, finding_refusals, refusals_of, firsts, numbered, excess_refusal, IsFullAt, HoldsAllFindings, HoldsFindings}
use Rattle.preprocessor.proofs.Firsts.{added_is_first}

pub messages-push : (findings : List Finding) (finding : Finding) → stated_messages (findings ++ finding ∷ []) ≡ stated_messages findings ++ finding_messages finding
messages-push findings finding = flat_map-append finding_messages findings (finding ∷ []) ∙ ap (λ (l : List Message). stated_messages findings ++ l) (append-nil (finding_messages finding))

refusals-push : (findings : List Finding) (finding : Finding) → refusals_of (findings ++ finding ∷ []) ≡ refusals_of findings ++ finding_refusals finding
refusals-push findings finding = flat_map-append finding_refusals findings (finding ∷ []) ∙ ap (λ (l : List SourceRefusal). refusals_of findings ++ l) (append-nil (finding_refusals finding))

-- a numbering that goes on holds all
all_held : (findings : List Finding) (now : Numbering) → now.is_stopped ≡ false → HoldsFindings findings now → HoldsAllFindings findings now
all_held findings now goes_on (inl all) = all
all_held findings now goes_on (inr front) = absurd (false≢true (sym goes_on ∙ front.stopped))

-- a stop is the same with more behind
pub stops_later : (findings front : List Finding) (message : Message) → IsFullAt findings front message → (more : List Finding) → IsFullAt (findings ++ more) front message
stops_later findings front message stops more =
    record {
      rest = stops.rest ++ more;
      joined = ap (λ (l : List Finding). l ++ more) stops.joined ∙ append_assoc front (Finding.stated message ∷ stops.rest) more;
      full = stops.full;
      new = stops.new;
    }

-- one that is stopped holds the same with more behind
pub still_stopped : (findings more : List Finding) (now : Numbering) → now.is_stopped ≡ true → HoldsFindings findings now → HoldsFindings (findings ++ more) now
still_stopped findings more now stopped (inl all) = absurd (false≢true (sym all.goes_on ∙ stopped))
still_stopped findings more now stopped (inr front) =
    inr (record {
      front = front.front;
      message = front.message;
      stops = stops_later findings front.front front.message front.stops more;
      messages = front.messages;
      statements = front.statements;
      refusals = front.refusals;
      stopped = front.stopped;
    })

-- a dictionary that isn't full before is within its limit after
within : (before after : List Message) (message : Message) (added : Added) → length before ≤ MAX_MESSAGES → (¬ (HasMessage before message) → ¬ (length before ≡ MAX_MESSAGES)) → IsAdded before message after added → length after ≤ MAX_MESSAGES
within before after message (Old id) few room is = subst (λ (l : List Message). length l ≤ MAX_MESSAGES) (sym is.1) few
within before after message (New id) few room is =
    let not_full = room is.0 in
    let grown : length after ≡ length before + 1 = ap length is.2 ∙ length-append before (message ∷ []) in
    omega (arith, not_full, grown, few)

pub stated_held : (findings : List Finding) (message : Message) (now next : Numbering) (added : Added) → now.is_stopped ≡ false → IsAdded now.dictionary message next.dictionary added
    → (¬ (HasMessage now.dictionary message) → ¬ (length now.dictionary ≡ MAX_MESSAGES)) → next.statements ≡ now.statements + 1 → next.refusals.items ≡ now.refusals.items → next.is_stopped ≡ now.is_stopped → HoldsFindings findings now
    → HoldsFindings (findings ++ Finding.stated message ∷ []) next
stated_held findings message now next added goes_on is room statements refusals is_stopped held =
    let all = all_held findings now goes_on held in
    let more : stated_messages (findings ++ Finding.stated message ∷ []) ≡ stated_messages findings ++ message ∷ [] = messages-push findings (Finding.stated message) in
    let is_first : IsAdded (firsts (stated_messages findings)) message next.dictionary added = subst (λ (l : List Message). IsAdded l message next.dictionary added) all.messages is in
    let dictionary : next.dictionary ≡ numbered (findings ++ Finding.stated message ∷ []) = added_is_first (stated_messages findings) next.dictionary message added is_first ∙ ap firsts (sym more) in
    inl (record {
      few = subst (λ (l : List Message). length l ≤ MAX_MESSAGES) dictionary (within now.dictionary next.dictionary message added (subst (λ (l : List Message). length l ≤ MAX_MESSAGES) (sym all.messages) all.few) room is);
      messages = dictionary;
      statements = statements ∙ ap (λ (n : ℕ). n + 1) all.statements ∙ sym (length-append (stated_messages findings) (message ∷ [])) ∙ ap length (sym more);
      refusals = refusals ∙ all.refusals ∙ sym (append-nil (refusals_of findings)) ∙ sym (refusals-push findings (Finding.stated message));
      goes_on = is_stopped ∙ goes_on;
    })

pub excess_held : (findings : List Finding) (message : Message) (now next : Numbering) → now.is_stopped ≡ false → ¬ (HasMessage now.dictionary message) → length now.dictionary ≡ MAX_MESSAGES → next.dictionary ≡ now.dictionary → next.statements ≡ now.statements
    → next.refusals.items ≡ now.refusals.items ++ excess_refusal message ∷ [] → next.is_stopped ≡ true → HoldsFindings findings now → HoldsFindings (findings ++ Finding.stated message ∷ []) next
excess_held findings message now next goes_on new full dictionary statements refusals stopped held =
    let all = all_held findings now goes_on held in
    inr (record {
      front = findings;
      message = message;
      stops = record {
        rest = [];
        joined = refl;
        full = ap length (sym all.messages) ∙ full;
        new = subst (λ (l : List Message). ¬ (HasMessage l message)) all.messages new;
      };
      messages = dictionary ∙ all.messages;
      statements = statements ∙ all.statements;
      refusals = refusals ∙ ap (λ (l : List SourceRefusal). l ++ excess_refusal message ∷ []) all.refusals;
      stopped = stopped;
    })

-- what was added isn't one too many
pub is_no_excess : (result : Result Added AddFault) (added : Added) → result ≡ Ok added → result ≡ Err TooMany → ⊥
is_no_excess (Ok _) added is excess = absurd cc
is_no_excess (Err _) added is excess = absurd cc
