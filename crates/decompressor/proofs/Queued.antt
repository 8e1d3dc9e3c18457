-- Records that wait as the bytes of bodies: those of one body more, and one record less.
use Rattle.std.proofs.Common.{◌≡◌, ◌≢◌, ℕ, ◌+◌, ◌-◌, ◌<◌, ◌≤◌, Bool, List, [], ◌∷◌, ◌++◌, length, get_or, take, drop, Result, Ok, Err, refl, ap, sym, subst, ◌∙◌, append_assoc, inl, inr, arith}
use Rattle.std.specs.Prelude.{slice_get, slice_set, OnOk, Some}
use Rattle.std.proofs.lemmas.Bool.Decides.{eqb_tells}
use Rattle.std.proofs.lemmas.Option.{same_Some}
use Rattle.std.proofs.lemmas.List.{append-nil, length-append, length-drop, drop-drop, drop_at, take_all, nil_from_length, length-set, get_or-set_same, get_or-set_other, get_or_default, take-append-drop}
use Rattle.log_dictionary.specs.declared.message.Message.{Message}
use Rattle.arg_records.specs.declared.call.Call.{Call}
use Rattle.nibble_pack.specs.Bytes.{AreBytes, back_bytes}
use Rattle.printf_grammar.specs.declared.arg_type.ArgType.{ArgType}
use Rattle.printf_grammar.specs.declared.argument.Value.{Value}
use Rattle.buffer_extent.specs.declared.fault.BodyCause.{BodyCause}
use Rattle.buffer_extent.specs.declared.take.RecordHeader.{RecordHeader}
use Rattle.buffer_extent.specs.Reading.{header_of, head_at, arguments_at}
use Rattle.buffer_extent.specs.Bodies.{IsBody, GoesOn}
use Rattle.buffer_extent.proofs.lemmas.BodyLaws.{head_first, still_body, still_goes_on}
use Rattle.checkpoint_io.specs.declared.header.Header.{Header}
use Rattle.checkpoint_io.specs.Readers.{ReaderState}
use Rattle.stamp_merge.specs.declared.merger.ListState.{ListState}
use Rattle.decompressor.specs.Waiting.{QueueState, AreBodies, HoldsFirst, HoldsRecords, no_queue, queue_at, records_at, AreHeld, AreShown}

-- what stands behind the front of a list's end
pub behind_front : (bytes front back : List ℕ) (place : ℕ) → place ≤ length bytes → drop place bytes ≡ front ++ back → drop (length bytes - length back) bytes ≡ back
behind_front bytes front back place within joined =
    let left : length bytes - place ≡ length front + length back = sym (length-drop place bytes) ∙ ap length joined ∙ length-append front back in
    let at : length bytes - length back ≡ place + length front = omega (arith, left, within) in
    ap (λ (n : ℕ). drop n bytes) at ∙ sym (drop-drop (length front) place bytes) ∙ ap (drop (length front)) joined ∙ drop_at front back (length front) refl

-- the first of some bodies
pub front_of : (bodies : List (List ℕ)) (body : List ℕ) → slice_get bodies 0 ≡ Some body → (others : List (List ℕ)) × (bodies ≡ body ∷ others)
front_of [] body there = absurd cc
front_of (first ∷ others) body there = (others, ap (λ (b : List ℕ). b ∷ others) (same_Some first body there))

pub first_same : (bodies : List (List ℕ)) (body other : List ℕ) (others more : List (List ℕ)) → bodies ≡ body ∷ others → bodies ≡ other ∷ more → (body ≡ other) × (others ≡ more)
first_same bodies body other others more first second =
    let same = sym first ∙ second in
    (ap (λ (l : List (List ℕ)). get_or l 0 body) same, ap (drop 1) same)

-- what is read of bytes is one thing
same_read : {A E : Type 0} (read : Result A E) (x y : A) → read ≡ Ok x → read ≡ Ok y → x ≡ y
same_read read x y first second = let same = sym first ∙ second in cc

-- a head that was read is that of the first record of the body that stands there
pub head_read : (messages : List Message) (before last place : ℕ) (body rest : List ℕ) (first : Call) (own : List Call) (head : RecordHeader) → AreBytes body → place ≤ length body → IsBody messages before last (first ∷ own) (drop place body) → head_at (length messages) before 0 (drop place body) ≡ Ok (head, rest)
    → (head ≡ header_of first) × (length body - length rest ≤ length body) × GoesOn messages first own (drop (length body - length rest) body)
head_read messages before last place body rest first own head small within is read =
    let begins = head_first messages before last first own (drop place body) (back_bytes body (take place body) (drop place body) (sym (take-append-drop place body)) small) is in
    let same = same_read (head_at (length messages) before 0 (drop place body)) (head, rest) (header_of first, begins.back) read begins.head in
    let back_is = ap (λ (p : RecordHeader × List ℕ). p.1) same in (
      ap (λ (p : RecordHeader × List ℕ). p.0) same,
      omega arith,
      subst (GoesOn messages first own) (sym (ap (λ (l : List ℕ). drop (length body - length l) body) back_is ∙ behind_front body begins.front begins.back place within begins.joined)) begins.behind,
    )

-- and one is read
pub head_not_refused : (messages : List Message) (before last place : ℕ) (body : List ℕ) (first : Call) (own : List Call) (cause : BodyCause) → AreBytes body → IsBody messages before last (first ∷ own) (drop place body) → ¬ (head_at (length messages) before 0 (drop place body) ≡ Err cause)
head_not_refused messages before last place body first own cause small is refused =
    let begins = head_first messages before last first own (drop place body) (back_bytes body (take place body) (drop place body) (sym (take-append-drop place body)) small) is in
    let clash = sym begins.head ∙ refused in absurd cc

-- and so it is of the arguments
pub arguments_read : (types : List ArgType) (bytes : List ℕ) (args given : List Value) (rest back : List ℕ) → arguments_at types bytes ≡ Ok (args, rest) → arguments_at types bytes ≡ Ok (given, back) → (args ≡ given) × (rest ≡ back)
arguments_read types bytes args given rest back first second =
    let same = same_read (arguments_at types bytes) (args, rest) (given, back) first second in
    (ap (λ (p : List Value × List ℕ). p.0) same, ap (λ (p : List Value × List ℕ). p.1) same)

-- the bytes from a place on
pub rest_whole : (place : ℕ) (bytes : List ℕ) → take (length bytes - place) (drop place bytes) ≡ drop place bytes
rest_whole place bytes = ap (λ (n : ℕ). take n (drop place bytes)) (sym (length-drop place bytes)) ∙ take_all (length (drop place bytes)) (drop place bytes) (omega arith)

-- no bytes have no records
no_records : (messages : List Message) (tick last : ℕ) (records : List Call) → IsBody messages tick last records [] → records ≡ []
no_records messages tick last [] is = refl
no_records messages tick last (first ∷ others) is =
    let (front, back, joined, spelled, rest) = is.spelled in
    let wrong = joined ∙ ap (λ (l : List ℕ). l ++ back) spelled.spelled.joined in absurd cc

-- a body of some bytes has records
some_records : (messages : List Message) (tick last : ℕ) (records : List Call) (body : List ℕ) → IsBody messages tick last records body → body ≢ [] → (first : Call) × (others : List Call) × (records ≡ first ∷ others)
some_records messages tick last [] body is some = absurd (some is.spelled)
some_records messages tick last (first ∷ others) body is some = (first, others, refl)

module _ (messages : List Message) (tick : ℕ) where
  -- ---- what is there

  pub holds_none : (queue : QueueState) (records : List Call) → HoldsRecords messages tick queue records → queue.bodies ≡ [] → records ≡ []
  holds_none queue [] holds none = refl
  holds_none queue (first ∷ others) holds none = let wrong = sym none ∙ holds.bodies_are in absurd cc

  pub none_held : (queue : QueueState) (records : List Call) → HoldsRecords messages tick queue records → records ≡ [] → queue.bodies ≡ []
  none_held queue records holds none = subst (HoldsRecords messages tick queue) none holds

  -- ---- one body more

  more_bodies : (bodies : List (List ℕ)) (body : List ℕ) (records more : List Call) (last : ℕ) → body ≢ [] → AreBodies messages tick bodies records → IsBody messages tick last more body
      → AreBodies messages tick (bodies ++ body ∷ []) (records ++ more)
  more_bodies [] body records more last some none is =
      let (first, own, are) = some_records messages tick last more body is some in
      (first, own, [], last, ap (λ (l : List Call). l ++ more) none ∙ are ∙ sym (append-nil (first ∷ own)), subst (λ (l : List Call). IsBody messages tick last l body) are is, refl)
  more_bodies (other ∷ bodies) body records more last some (first, own, rest, before, joined, here, behind) is = (
    first,
    own,
    rest ++ more,
    before,
    ap (λ (l : List Call). l ++ more) joined ∙ append_assoc (first ∷ own) rest more,
    here,
    more_bodies bodies body rest more last some behind is,
  )

  -- behind the records that wait
  pub added : (old new : QueueState) (body : List ℕ) (records more : List Call) (last : ℕ) → body ≢ [] → old.bodies ≢ [] → new.bodies ≡ old.bodies ++ body ∷ [] → new.head ≡ old.head → new.place ≡ old.place
      → HoldsRecords messages tick old records → IsBody messages tick last more body → HoldsRecords messages tick new (records ++ more)
  added old new body [] more last some waits bodies head place none is = absurd (waits none)
  added old new body (first ∷ others) more last some waits bodies head place holds is = record {
    body = holds.body;
    bodies = holds.bodies ++ body ∷ [];
    bodies_are = bodies ∙ ap (λ (l : List (List ℕ)). l ++ body ∷ []) holds.bodies_are;
    head_is = head ∙ holds.head_is;
    within = omega (arith, place, holds.within);
    own = holds.own;
    more = holds.more ++ more;
    joined = ap (λ (l : List Call). l ++ more) holds.joined ∙ append_assoc holds.own holds.more more;
    goes_on = subst (λ (n : ℕ). GoesOn messages first holds.own (drop n holds.body)) (sym place) holds.goes_on;
    behind = more_bodies holds.bodies body holds.more more last some holds.behind is;
  }

  -- ---- the first record of a body

  -- what is told once the head of a body's first record was read
  abbrev pub ReadsHead : QueueState → List ℕ → Call → List Call → Type 0
  ReadsHead queue body first own = (queue.head ≡ header_of first) × (queue.place ≤ length body) × GoesOn messages first own (drop queue.place body)

  holds_first : (queue : QueueState) (body : List ℕ) (bodies : List (List ℕ)) (first : Call) (own more : List Call) → queue.bodies ≡ body ∷ bodies → ReadsHead queue body first own → AreBodies messages tick bodies more
      → HoldsFirst messages tick queue first (own ++ more)
  holds_first queue body bodies first own more bodies_are (head, within, goes_on) behind = record {
    body = body;
    bodies = bodies;
    bodies_are = bodies_are;
    head_is = head;
    within = within;
    own = own;
    more = more;
    joined = refl;
    goes_on = goes_on;
    behind = behind;
  }

  -- where its head is read, the queue has the records of the bodies from this place of the first one on
  holds_rest : (queue : QueueState) (body : List ℕ) (bodies : List (List ℕ)) (before last place : ℕ) (own more : List Call) → queue.bodies ≡ body ∷ bodies → drop place body ≢ [] → IsBody messages before last own (drop place body) → AreBodies messages tick bodies more
      → ((first : Call) (others : List Call) → IsBody messages before last (first ∷ others) (drop place body) → ReadsHead queue body first others) → HoldsRecords messages tick queue (own ++ more)
  holds_rest queue body bodies before last place own more bodies_are some is behind reads =
      let (first, others, are) = some_records messages before last own (drop place body) is some in
      subst (λ (l : List Call). HoldsRecords messages tick queue (l ++ more)) (sym are)
      (holds_first queue body bodies first others more bodies_are (reads first others (subst (λ (l : List Call). IsBody messages before last l (drop place body)) are is)) behind)

  -- a body is the first one
  pub added_first : (old new : QueueState) (body : List ℕ) (records more : List Call) (last : ℕ) → body ≢ [] → old.bodies ≡ [] → new.bodies ≡ body ∷ [] → HoldsRecords messages tick old records → IsBody messages tick last more body
      → ((first : Call) (others : List Call) → IsBody messages tick last (first ∷ others) body → ReadsHead new body first others) → HoldsRecords messages tick new (records ++ more)
  added_first old new body records more last some empty bodies_are holds is reads =
      subst (λ (l : List Call). HoldsRecords messages tick new (l ++ more)) (sym (holds_none old records holds empty))
      (subst (HoldsRecords messages tick new) (append-nil more) (holds_rest new body [] tick last 0 more [] bodies_are some is refl reads))

  -- a body without bytes has no records
  pub none_added : (queue : QueueState) (body : List ℕ) (records more : List Call) (last : ℕ) → body ≡ [] → HoldsRecords messages tick queue records → IsBody messages tick last more body → HoldsRecords messages tick queue (records ++ more)
  none_added queue body records more last none holds is =
      subst (HoldsRecords messages tick queue) (sym (ap (λ (l : List Call). records ++ l) (no_records messages tick last more (subst (IsBody messages tick last more) none is)) ∙ append-nil records)) holds

  module _ {old : QueueState} {first : Call} {others : List Call} (holds : HoldsFirst messages tick old first others) where
    abbrev back : List ℕ
    back = holds.goes_on.back

    -- the first record is taken, behind which stands another one of its body
    pub next_of_body : (new : QueueState) (before place : ℕ) → new.bodies ≡ old.bodies → 1 ≤ length back → before ≡ old.head.stamp → place ≡ length holds.body - length back
        → ((body : List ℕ) (bodies : List (List ℕ)) (next : Call) (own : List Call) (last : ℕ) → old.bodies ≡ body ∷ bodies → IsBody messages before last (next ∷ own) (drop place body) → ReadsHead new body next own) → HoldsRecords messages tick new others
    next_of_body new before place kept some from at reads =
        let stamp : first.stamp ≡ before = sym (from ∙ ap (λ (h : RecordHeader). h.stamp) holds.head_is) in
        let is : drop place holds.body ≡ back = ap (λ (n : ℕ). drop n holds.body) at ∙ behind_front holds.body holds.goes_on.front back old.place holds.within holds.goes_on.joined in
        subst (HoldsRecords messages tick new) (sym holds.joined)
        (holds_rest new holds.body holds.bodies before first.stamp place holds.own holds.more (kept ∙ holds.bodies_are) (λ none. omega (arith, some, ap length (sym is ∙ none)))
        (subst (λ (b : List ℕ). IsBody messages before first.stamp holds.own b) (sym is) (subst (λ (n : ℕ). IsBody messages n first.stamp holds.own back) stamp holds.goes_on.behind)) holds.behind
        (λ next own. reads holds.body holds.bodies next own first.stamp holds.bodies_are))

    -- it is the last one of its body
    pub next_body : (new : QueueState) → new.bodies ≡ drop 1 old.bodies → length back ≡ 0
        → ((body : List ℕ) (bodies : List (List ℕ)) (next : Call) (own : List Call) (last : ℕ) → drop 1 old.bodies ≡ body ∷ bodies → IsBody messages tick last (next ∷ own) body → ReadsHead new body next own) → HoldsRecords messages tick new others
    next_body new less none reads =
        let left : drop 1 old.bodies ≡ holds.bodies = ap (drop 1) holds.bodies_are in
        let own_none : holds.own ≡ [] = no_records messages first.stamp first.stamp holds.own (subst (IsBody messages first.stamp first.stamp holds.own) (nil_from_length back none) holds.goes_on.behind) in
        subst (HoldsRecords messages tick new) (sym (holds.joined ∙ ap (λ (l : List Call). l ++ holds.more) own_none)) (from holds.bodies holds.more (less ∙ left) left holds.behind)
      where
        from : (bodies : List (List ℕ)) (more : List Call) → new.bodies ≡ bodies → drop 1 old.bodies ≡ bodies → AreBodies messages tick bodies more → HoldsRecords messages tick new more
        from [] more bodies_are left empty = subst (HoldsRecords messages tick new) (sym empty) bodies_are
        from (body ∷ bodies) more bodies_are left (next, own, rest, last, joined, is, behind) =
            subst (HoldsRecords messages tick new) (sym joined) (holds_first new body bodies next own rest bodies_are (reads body bodies next own last left is) behind)

  -- ---- the queues of all writers

  pub held_set : {queues : List QueueState} {records : List (List Call)} → AreHeld messages tick queues records → (writer : ℕ) (queue : QueueState) (own : List Call) → writer < length records → HoldsRecords messages tick queue own
      → AreHeld messages tick (slice_set queues writer queue) (slice_set records writer own)
  held_set {queues} {records} held writer queue own within holds = record {
    many = length-set queues writer queue ∙ held.many ∙ sym (length-set records writer own);
    each = λ w known. elim (eqb_tells w writer) [
      | inl one ↦
          subst (λ (v : ℕ). HoldsRecords messages tick (queue_at (slice_set queues writer queue) v) (records_at (slice_set records writer own) v)) (sym one.1)
          (subst (HoldsRecords messages tick (queue_at (slice_set queues writer queue) writer)) (sym (get_or-set_same records writer own [] within))
          (subst (λ (q : QueueState). HoldsRecords messages tick q own) (sym (get_or-set_same queues writer queue no_queue (omega (arith, within, held.many)))) holds))
      | inr apart ↦
          subst (HoldsRecords messages tick (queue_at (slice_set queues writer queue) w)) (sym (get_or-set_other records writer w own [] apart.1))
          (subst (λ (q : QueueState). HoldsRecords messages tick q (records_at records w)) (sym (get_or-set_other queues writer w queue no_queue apart.1))
          (held.each w (omega (arith, known, length-set records writer own))))
    ];
  }

  -- with the queue of one writer as it was
  pub held_same : {queues : List QueueState} {records : List (List Call)} → AreHeld messages tick queues records → (writer : ℕ) → writer < length records → (default : QueueState) → HoldsRecords messages tick (get_or queues writer default) (records_at records writer)
  held_same {queues} {records} held writer within default =
      subst (λ (q : QueueState). HoldsRecords messages tick q (records_at records writer)) (sym (get_or_default queues writer default no_queue (omega (arith, within, held.many)))) (held.each writer within)

-- ---- more messages

module _ (messages more : List Message) (tick : ℕ) where
  grown_bodies : (bodies : List (List ℕ)) (records : List Call) → AreBodies messages tick bodies records → AreBodies (messages ++ more) tick bodies records
  grown_bodies [] records none = none
  grown_bodies (body ∷ bodies) records (first, own, rest, last, joined, is, behind) =
      (first, own, rest, last, joined, still_body messages more tick last (first ∷ own) body is, grown_bodies bodies rest behind)

  grown_queue : (queue : QueueState) (records : List Call) → HoldsRecords messages tick queue records → HoldsRecords (messages ++ more) tick queue records
  grown_queue queue [] none = none
  grown_queue queue (first ∷ others) holds = record {
    body = holds.body;
    bodies = holds.bodies;
    bodies_are = holds.bodies_are;
    head_is = holds.head_is;
    within = holds.within;
    own = holds.own;
    more = holds.more;
    joined = holds.joined;
    goes_on = still_goes_on messages more first holds.own (drop queue.place holds.body) holds.goes_on;
    behind = grown_bodies holds.bodies holds.more holds.behind;
  }

  grown : (queues : List QueueState) (records : List (List Call)) → AreHeld messages tick queues records → AreHeld (messages ++ more) tick queues records
  grown queues records held = record { many = held.many; each = λ writer within. grown_queue (queue_at queues writer) (records_at records writer) (held.each writer within) }

-- where more messages come the same is shown
pub shown_on : (closed : ℕ → Bool) (old new : ReaderState) (queues : List QueueState) (lists : List ListState) (records : List (List Call)) → new.header ≡ old.header → take (length old.messages) new.messages ≡ old.messages
    → AreShown closed old queues lists records → AreShown closed new queues lists records
shown_on closed old new queues lists records same kept shown =
    let grows : old.messages ++ drop (length old.messages) new.messages ≡ new.messages = ap (λ (l : List Message). l ++ drop (length old.messages) new.messages) (sym kept) ∙ take-append-drop (length old.messages) new.messages in
    record {
      held = subst (λ (h : Header). AreHeld new.messages h.clock.tick queues records) (sym same)
          (subst (λ (l : List Message). AreHeld l old.header.clock.tick queues records) grows (grown old.messages (drop (length old.messages) new.messages) old.header.clock.tick queues records shown.held));
      heads = shown.heads;
    }

-- what follows where a call succeeded
pub on_ok : {T E : Type 0} {A B : Type 0} (r : Result T E) → (A → B) → OnOk r A → OnOk r B
on_ok (Ok x) then a = then a
on_ok (Err e) then a = tt
