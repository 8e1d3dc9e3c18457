-- Entries and fragments that are put into a buffer.
use Rattle.std.proofs.Common.{◌≡◌, ℕ, zero, suc, ◌+◌, ◌-◌, ◌<◌, ◌≤◌, ◌^◌, min, List, [], ◌∷◌, ◌++◌, length, get_or, take, drop, refl, sym, ap, subst, ◌∙◌, append_assoc, ◌⊎◌, inl, inr, Bool, true, false, eqb, lit≤, arith}
use Rattle.std.proofs.lemmas.List.{append-nil, take_at, take_more, take-append-drop, length-append, length-take, length-take-le, length-drop, drop-take, take-take, drop-drop, drop_all}
use Rattle.std.specs.Hash.{le_bytes}
use Rattle.std.specs.List.{flat_map}
use Rattle.std.specs.Prelude.{Result, Ok, IsErr, if◌then◌else◌}
use Rattle.std.proofs.lemmas.List.Elements.{All-head, All-tail, All-take, All-drop}
use Rattle.std.proofs.lemmas.Bool.{cases_lt}
use borrow.Rule.Slice.PartMut.{put_mid}
use Rattle.log_dictionary.specs.declared.message.Message.{Message}
use Rattle.log_dictionary.specs.BinaryEntries.{entry_bytes, SpellsEntry}
use Rattle.log_dictionary.specs.Messages.{AreFormed}
use Rattle.nl_io.specs.Count.{Rose}
use Rattle.nl_io.specs.Content.{Told, with_end, PutsFront}
use Rattle.nl_io.proofs.lemmas.Contents.{with_end-none, with_end-both}
use Rattle.checkpoint_io.specs.Versions.{most_body}
use Rattle.checkpoint_io.specs.Blocks.{Fragment, fragment_head_bytes, SpellsEntries, SpellsFragment}
use Rattle.checkpoint_io.specs.Logs.{AreFragments}
use Rattle.roaming_consumer.specs.Growth.{FragmentsFor}
use Rattle.roaming_consumer.specs.Sinks.{SendsFragments}
use Rattle.roaming_consumer.proofs.lemmas.Sending.{sends_then, sends_stop}
use Rattle.checkpoint_io.proofs.lemmas.BlockLaws.{le_length, entries_push}
use Rattle.checkpoint_io.proofs.lemmas.LimitLaws.{entry_joined, fragment_within}

-- what stands in front of the end of bytes that were put in the middle
pub put_in_middle : (into put front tail : List ℕ) (at k end : ℕ) → at ≤ length into → put ≡ front ++ tail → end ≡ at + length front → take end (put_mid at k into put) ≡ take at into ++ front
put_in_middle into put front tail at k end within is ends =
    let behind = drop k (drop at into) in
    ap (λ (l : List ℕ). take end (take at into ++ (l ++ behind))) is
    ∙ ap (take end) (ap (λ (l : List ℕ). take at into ++ l) (append_assoc front tail behind) ∙ sym (append_assoc (take at into) front (tail ++ behind)))
    ∙ take_at (take at into ++ front) (tail ++ behind) end (omega (arith, ends, length-append (take at into) front, length-take-le at into within))

-- one entry more is put
pub entry_put : (messages : List Message) (place : ℕ) (message : Message) (into put tail : List ℕ) (at k end : ℕ) → place < length messages → get_or messages place message ≡ message → at ≤ length into → SpellsEntries (take place messages) (take at into) → SpellsEntry (entry_bytes message) message → put ≡ entry_bytes message ++ tail → end ≡ at + length (entry_bytes message)
    → SpellsEntries (take (place + 1) messages) (take end (put_mid at k into put))
entry_put messages place message into put tail at k end within here room was is put_is ends =
    let entry = entry_bytes message in
    let more : take (place + 1) messages ≡ take place messages ++ message ∷ [] = take_more messages place message within ∙ ap (λ (m : Message). take place messages ++ m ∷ []) here in
    subst (λ (ms : List Message). SpellsEntries ms (take end (put_mid at k into put))) (sym more)
    (subst (SpellsEntries (take place messages ++ message ∷ [])) (sym (put_in_middle into put entry tail at k end room put_is ends)) (entries_push (take place messages) message (take at into) entry was is))

head_length : (first count : ℕ) → length (fragment_head_bytes first count) ≡ 7
head_length first count = omega (arith, length-append (1 ∷ le_bytes 4 first) (le_bytes 2 count), le_length 4 first, le_length 2 count)

-- a fragment is put: its head, and behind it its entries
pub fragment_put : (messages : List Message) (first count : ℕ) (buffer rest put : List ℕ) (head k end : ℕ) → length messages ≡ count → 1 ≤ count → count ≤ 16 → first < 2 ^ 32 → buffer ≡ fragment_head_bytes first count ++ rest → head ≡ 7 → SpellsEntries messages (take end put) → end ≤ length put
    → SpellsFragment first messages (take (head + end) (put_mid head k buffer put))
fragment_put messages first count buffer rest put head k end many some few fits is headed spelled within =
    let long = head_length first count in
    let room : head ≤ length buffer = omega (arith, headed, ap length is, length-append (fragment_head_bytes first count) rest, long) in
    let entries = take end put in
    let bytes : take (head + end) (put_mid head k buffer put) ≡ take head buffer ++ entries =
    put_in_middle buffer put entries (drop end put) head k (head + end) room (sym (take-append-drop end put)) (omega (arith, length-take-le end put within)) in
    let front : take head buffer ≡ fragment_head_bytes first count = ap (take head) is ∙ take_at (fragment_head_bytes first count) rest head (omega (arith, headed, long)) in
    record {
      entries = entries;
      some = omega (arith, many, some);
      few = omega (arith, many, few);
      first_fits = fits;
      entries_spelled = spelled;
      joined = bytes ∙ ap (λ (l : List ℕ). l ++ entries) (front ∙ ap (fragment_head_bytes first) (sym many));
    }

-- ---- fragments, one behind the other

-- a part of a list, and what follows it
part_then : {A : Type 0} (items : List A) (first count up_to : ℕ) → first + count ≤ up_to → drop first (take up_to items) ≡ take count (drop first items) ++ drop (first + count) (take up_to items)
part_then items first count up_to within =
    let rest = up_to - first in
    let sum : up_to ≡ first + rest = omega (arith, within) in
    let behind : drop first (take up_to items) ≡ take rest (drop first items) = ap (λ (n : ℕ). drop first (take n items)) sum ∙ drop-take first rest items in
    let front : take count (take rest (drop first items)) ≡ take count (drop first items) = take-take count rest (drop first items) (omega (arith, within)) in
    let back : drop count (take rest (drop first items)) ≡ drop (first + count) (take up_to items) = ap (drop count) (sym behind) ∙ drop-drop count first (take up_to items) in
    behind ∙ sym (take-append-drop count (take rest (drop first items))) ∙ (λ i. front i ++ back i)

-- no messages, and no fragments
pub none_for : (dictionary : List Message) (first up_to : ℕ) → up_to ≤ first → FragmentsFor first (drop first (take up_to dictionary)) []
none_for dictionary first up_to below =
    let none : drop first (take up_to dictionary) ≡ [] = drop_all first (take up_to dictionary) (omega (arith, below, length-take up_to dictionary)) in
    record { blocks = []; are = none; spelled = λ header before. refl }

-- one fragment, and those behind it
pub fragment_then : (dictionary : List Message) (first count up_to : ℕ) (front back : List ℕ) → first + count ≤ up_to → up_to ≤ length dictionary → (count ≡ 16) ⊎ (first + count ≡ up_to) → SpellsFragment first (take count (drop first dictionary)) front → FragmentsFor (first + count) (drop (first + count) (take up_to dictionary)) back
    → FragmentsFor first (drop first (take up_to dictionary)) (front ++ back)
fragment_then dictionary first count up_to front back within known full spelled others =
    let messages = take count (drop first dictionary) in
    let rest = drop (first + count) (take up_to dictionary) in
    let many : length messages ≡ count = length-take-le count (drop first dictionary) (omega (arith, within, known, length-drop first dictionary)) in
    let full_or_last : (rest ≡ []) ⊎ (length messages ≡ 16) =
    elim full [
      | inl sixteen ↦ inr (many ∙ sixteen)
      | inr last ↦ inl (drop_all (first + count) (take up_to dictionary) (omega (arith, last, length-take up_to dictionary)))
    ] in
    record {
      blocks = Fragment first messages ∷ others.blocks;
      are = (rest, refl, part_then dictionary first count up_to within, full_or_last, subst (λ (n : ℕ). AreFragments (first + n) rest others.blocks) (sym many) others.are);
      spelled = λ header before. (front, back, refl, spelled, others.spelled header (before ++ Fragment first messages ∷ []));
    }

-- as many as a fragment takes, and no more than are left
fragment_count : (next end count : ℕ) → next < end → count ≡ min (end - next) 16 → (1 ≤ count) × (count ≤ 16) × (next + count ≤ end) × ((count ≡ 16) ⊎ (next + count ≡ end))
fragment_count next end count left is =
    elim (cases_lt (end - next) 16) [
      | inl few ↦ (omega (arith, left, is, few), omega (arith, is), omega (arith, left, is), inr (omega (arith, left, is, few)))
      | inr many ↦ (omega (arith, left, is, many), omega (arith, is), omega (arith, left, is), inl (omega (arith, is, many)))
    ]

-- messages that have entries, one behind the other
entries_are_there : (messages : List Message) → AreFormed messages → SpellsEntries messages (flat_map entry_bytes messages)
entries_are_there [] each = refl
entries_are_there (message ∷ messages) each =
    let P : Message → Type 0 = λ m. SpellsEntry (entry_bytes m) m in
    entry_joined message messages (entry_bytes message) (flat_map entry_bytes messages) (All-head P message messages each) (entries_are_there messages (All-tail P message messages each))

-- there are fragments of messages that have entries; so many messages are left at most
pub fragments_are_there : (dictionary : List Message) (left next end : ℕ) → end ≤ next + left → end ≤ length dictionary → end < 2 ^ 32 → AreFormed dictionary → (bytes : List ℕ) × FragmentsFor next (drop next (take end dictionary)) bytes
fragments_are_there dictionary zero next end near known few each = ([], none_for dictionary next end (omega (arith, near)))
fragments_are_there dictionary (suc left) next end near known few each =
    elim (cases_lt next end) [
      | inl more ↦
          let P : Message → Type 0 = λ m. SpellsEntry (entry_bytes m) m in
          let count = min (end - next) 16 in
          let counts = fragment_count next end count more refl in
          let messages = take count (drop next dictionary) in
          let many : length messages ≡ count = length-take-le count (drop next dictionary) (omega (arith, counts.2, known, length-drop next dictionary)) in
          let spelled = entries_are_there messages (All-take P count (drop next dictionary) (All-drop P next dictionary each)) in
          let others = fragments_are_there dictionary left (next + count) end (omega (arith, near, counts.0)) known few each in
          let front = fragment_within next messages (flat_map entry_bytes messages) (omega (arith, many, counts.0)) (omega (arith, many, counts.1)) (omega (arith, more, few)) spelled in
          (_, fragment_then dictionary next count end _ others.0 counts.2 known counts.3 front others.1)
      | inr none ↦ ([], none_for dictionary next end none)
    ]

-- So far fragments were put of the messages from the first one on. Whatever fragments are put behind them, they are
-- together those of the messages up to where those end.
pub record Goes (dictionary : List Message) (first next end : ℕ) (put put_after : Told) : Type 0 where
  pub within : next ≤ end
  pub bytes : List ℕ
  pub joined : put_after ≡ with_end bytes put
  pub goes : (up_to : ℕ) (more : List ℕ) → next ≤ up_to → up_to ≤ end → FragmentsFor next (drop next (take up_to dictionary)) more → FragmentsFor first (drop first (take up_to dictionary)) (bytes ++ more)

pub goes_from : (dictionary : List Message) (first end : ℕ) (put : Told) → first ≤ end → Goes dictionary first first end put put
goes_from dictionary first end put within = record { within = within; bytes = []; joined = with_end-none [] put; goes = λ up_to more below inside are. are }

-- one fragment more
pub goes_on : (dictionary : List Message) (first next end count : ℕ) (front : List ℕ) (put put_mid put_after : Told) → Goes dictionary first next end put put_mid → next < end → end ≤ length dictionary → count ≡ min (end - next) 16 → SpellsFragment next (take count (drop next dictionary)) front → put_after ≡ with_end front put_mid
    → Goes dictionary first (next + count) end put put_after
goes_on dictionary first next end count front put put_mid put_after was left known is spelled more =
    let counts = fragment_count next end count left is in
    record {
      within = counts.2;
      bytes = was.bytes ++ front;
      joined = more ∙ ap (with_end front) was.joined ∙ with_end-both was.bytes front put;
      goes = λ up_to back below inside others.
          let full : (count ≡ 16) ⊎ (next + count ≡ up_to) = elim counts.3 [ inl sixteen ↦ inl sixteen | inr last ↦ inr (omega (arith, last, below, inside)) ] in
          subst (FragmentsFor first (drop first (take up_to dictionary))) (sym (append_assoc was.bytes front back))
          (was.goes up_to (front ++ back) (omega (arith, below)) inside (fragment_then dictionary next count up_to front back below (omega (arith, inside, known)) full spelled others));
    }

-- all fragments were put
pub goes_all : {E : Type 0} (dictionary : List Message) (first next end : ℕ) (put put_after : Told) (faults faults_after : ℕ) → Goes dictionary first next end put put_after → end ≤ next → faults_after ≡ faults → SendsFragments {T = Unit {0}} {E = E} (Ok tt) dictionary first end put put_after faults faults_after
goes_all dictionary first next end put put_after faults faults_after was done counted =
    let last : next ≡ end = let within = was.within in omega (arith, within, done) in
    record {
      bytes = was.bytes ++ [];
      spelled = was.goes end [] (omega (arith, last)) (omega arith) (none_for dictionary next end done);
      sent = record {
        ok = was.joined ∙ ap (λ (l : List ℕ). with_end l put) (sym (append-nil was.bytes));
        counted = counted;
        err = tt;
        cause = tt;
        count = omega (arith, counted);
      };
    }

-- a fragment wasn't written whole, nor those behind it
pub goes_stop : {T E : Type 0} (r : Result T E) (dictionary : List Message) (first next end count : ℕ) (front : List ℕ) (put mid put_after : Told) (faults faults_mid faults_after : ℕ) → IsErr r → Goes dictionary first next end put mid → next < end → end ≤ length dictionary → end < 2 ^ 32 → AreFormed dictionary → count ≡ min (end - next) 16 → SpellsFragment next (take count (drop next dictionary)) front → faults_mid ≡ faults → PutsFront front mid put_after → Rose faults_mid faults_after → faults_mid ≤ faults_after
    → SendsFragments r dictionary first end put put_after faults faults_after
goes_stop r dictionary first next end count front put mid put_after faults faults_mid faults_after failed was left known few formed is spelled counted puts rose more =
    let counts = fragment_count next end count left is in
    let within = counts.2 in
    let others = fragments_are_there dictionary (end - (next + count)) (next + count) end (omega arith) known few formed in
    record {
      bytes = was.bytes ++ (front ++ others.0);
      spelled = was.goes end (front ++ others.0) (omega (arith, left)) (omega arith) (fragment_then dictionary next count end front others.0 within known counts.3 spelled others.1);
      sent = sends_then r was.bytes (front ++ others.0) put mid put_after faults faults_mid faults_after was.joined counted (sends_stop r front others.0 mid put_after faults_mid faults_after failed puts rose more);
    }

-- ---- room

-- a body has room for a record, in each version
pub room_for_record : (version : ℕ) → 8192 ≤ most_body version
room_for_record version = by_test (eqb version 1)
  where
    by_test : (one : Bool) → 8192 ≤ (if one then 65536 else 1048576)
    by_test true = lit≤ tt
    by_test false = lit≤ tt
