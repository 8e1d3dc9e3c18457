-- The records of blocks: how many there can be, and what one block more adds to the totals.
use Rattle.std.proofs.Common.{◌≡◌, ℕ, ◌+◌, ◌<◌, ◌≤◌, List, [], ◌∷◌, ◌++◌, length, Option, Some, None, Ok, Err, ℤ, refl, ap, sym, subst, ◌∙◌, append_assoc, arith}
use Rattle.std.specs.List.{filter_map, cons_option}
use Rattle.std.proofs.lemmas.List.{append-nil, length-append}
use Rattle.std.proofs.lemmas.List.Elements.{filter_map-append}
use Rattle.nibble_pack.specs.Parsing.{Parse}
use Rattle.log_dictionary.specs.declared.message.Message.{Message}
use Rattle.arg_records.specs.declared.call.Call.{Call}
use Rattle.arg_records.specs.Calls.{NeverFalls}
use Rattle.buffer_extent.specs.declared.fault.BodyCause.{BodyCause}
use Rattle.buffer_extent.specs.Bodies.{IsBody, BeginsWithRecord}
use Rattle.buffer_extent.specs.Reading.{record_at}
use Rattle.buffer_extent.proofs.lemmas.BodyLaws.{read_or_broken, begins_with, IsBody-unique}
use Rattle.checkpoint_io.specs.Blocks.{Block, block_calls, all_records}
use Rattle.checkpoint_io.proofs.lemmas.ValidityLaws.{all_records-push}
use Rattle.aggregation.specs.declared.totals.Totals.{Totals}
use Rattle.aggregation.specs.Totals.{totals_of, number_in, numbers_in, IsWithin, Adds}
use Rattle.aggregation.proofs.Sums.{adds_none}

-- ---- no more numbers than records

one_more : {Y : Type 0} (found : Option Y) (others : List Y) (n : ℕ) → length others ≤ n → length (cons_option found others) ≤ n + 1
one_more None others n short = omega (arith, short)
one_more (Some y) others n short = omega (arith, short)

filter_map_short : {X Y : Type 0} (h : X → Option Y) (xs : List X) → length (filter_map h xs) ≤ length xs
filter_map_short h [] = omega arith
filter_map_short h (x ∷ xs) = omega (arith, one_more (h x) (filter_map h xs) (length xs) (filter_map_short h xs))

pub numbers_few : (id nth : ℕ) (records : List Call) → length (numbers_in id nth records) ≤ length records
numbers_few id nth records = filter_map_short (number_in id nth) records

-- ---- one block more

pub numbers-push : (id nth : ℕ) (blocks : List Block) (block : Block) → numbers_in id nth (all_records (blocks ++ block ∷ [])) ≡ numbers_in id nth (all_records blocks) ++ numbers_in id nth (block_calls block)
numbers-push id nth blocks block = ap (numbers_in id nth) (all_records-push blocks block) ∙ filter_map-append (number_in id nth) (all_records blocks) (block_calls block)

-- ---- records that are taken one after the other

pub adds_more : (first middle last : Totals) (id nth : ℕ) (seen : List Call) (call : Call) → Adds first middle (numbers_in id nth seen) (length seen) → Adds middle last (numbers_in id nth (call ∷ [])) 1
    → Adds first last (numbers_in id nth (seen ++ call ∷ [])) (length (seen ++ call ∷ []))
adds_more first middle last id nth seen call before here = record {
  totals = λ numbers are. here.totals (numbers ++ numbers_in id nth seen) (before.totals numbers are)
      ∙ ap totals_of (append_assoc numbers (numbers_in id nth seen) (numbers_in id nth (call ∷ [])) ∙ ap (λ (l : List ℤ). numbers ++ l) (sym (filter_map-append (number_in id nth) seen (call ∷ []))));
  count = omega (arith, before.count, here.count, length-append seen (call ∷ []));
  within = here.within;
}

-- ---- records that are unpacked from a body one after the other

-- a body has one list of records, whatever the stamps may not be below
from_zero : (least : ℕ) (records : List Call) → NeverFalls least records → NeverFalls 0 records
from_zero least [] rising = tt
from_zero least (call ∷ records) rising = (omega arith, rising.1)

one_list : (messages : List Message) (base a b : ℕ) (xs ys : List Call) (body : List ℕ) → IsBody messages base a xs body → IsBody messages base b ys body → xs ≡ ys
one_list messages base a b xs ys body p q =
    IsBody-unique messages base 0 xs ys body (record { spelled = p.spelled; right = p.right; rising = from_zero a xs p.rising }) (record { spelled = q.spelled; right = q.right; rising = from_zero b ys q.rising })

-- The numbers of some records of the body were taken, and this is the body of the others.
pub record AreCounted (messages : List Message) (base : ℕ) (body : List ℕ) (id nth : ℕ) (old : Totals) (before : ℕ) (rest : List ℕ) (totals : Totals) : Type 0 where
  pub seen : List Call
  pub others : List Call
  pub last : ℕ
  pub whole : IsBody messages base last (seen ++ others) body
  pub few : old.count + length (seen ++ others) ≤ 134217728
  pub least : ℕ
  pub left : IsBody messages before least others rest
  pub adds : Adds old totals (numbers_in id nth seen) (length seen)

pub none_counted : (messages : List Message) (base : ℕ) (body : List ℕ) (id nth : ℕ) (totals : Totals) → (last : ℕ) × (records : List Call) × IsBody messages base last records body × (totals.count + length records ≤ 134217728) → IsWithin totals.count totals.sum → AreCounted messages base body id nth totals base body totals
none_counted messages base body id nth totals (last, records, is, few) within = record {
  seen = [];
  others = records;
  last = last;
  whole = is;
  few = few;
  least = last;
  left = is;
  adds = adds_none totals [] 0 within refl;
}

-- no record is read of no bytes
no_record : (messages : List Message) (before least : ℕ) (bytes back : List ℕ) (call : Call) → bytes ≡ [] → record_at messages before least bytes ≡ Ok (call, back) → ⊥
no_record messages before least bytes back call none is =
    let clash : record_at messages before least [] ≡ Ok (call, back) = ap (record_at messages before least) (sym none) ∙ is in cc

-- the first of the others is read, whatever the least stamp was
first_of : (messages : List Message) (before : ℕ) (first : Call) (more : List Call) (rest : List ℕ) → (begins : BeginsWithRecord messages before first more rest) → record_at messages before before rest ≡ Ok (first, begins.back)
first_of messages before first more rest begins =
    ap (record_at messages before before) begins.joined
    ∙ ap (λ (ms : List Message). record_at ms before before (begins.front ++ begins.back)) (sym (append-nil messages))
    ∙ begins.again [] before begins.back begins.not_before

-- it takes a byte
takes_byte : (messages : List Message) (before : ℕ) (first : Call) (more : List Call) (rest : List ℕ) → (begins : BeginsWithRecord messages before first more rest) → length begins.back < length rest
takes_byte messages before first more rest begins = by_front begins.front refl
  where
    by_front : (front : List ℕ) → front ≡ begins.front → length begins.back < length rest
    by_front [] is = absurd (no_record (messages ++ []) before before (begins.front ++ []) [] first (ap (λ (f : List ℕ). f ++ []) (sym is)) (begins.again [] before [] begins.not_before))
    by_front (byte ∷ front) is = omega (arith, ap length is, ap length begins.joined, length-append begins.front begins.back)

same_read : (a b : Call) (x y : List ℕ) → ◌≡◌ {A = Parse BodyCause Call} (Ok (a, x)) (Ok (b, y)) → (a ≡ b) × (x ≡ y)
same_read a b x y same = (ap read_call same, ap read_back same)
  where
    read_call : Parse BodyCause Call → Call
    read_call (Ok pair) = pair.0
    read_call (Err cause) = a

    read_back : Parse BodyCause Call → List ℕ
    read_back (Ok pair) = pair.1
    read_back (Err cause) = x

-- the record that was read is the first of the others
record NextIs (messages : List Message) (call : Call) (others : List Call) (back rest : List ℕ) : Type 0 where
  more : List Call
  is : others ≡ call ∷ more
  behind : IsBody messages call.stamp call.stamp more back
  shorter : length back < length rest

next_is : (messages : List Message) (before least : ℕ) (others : List Call) (rest back : List ℕ) (call : Call) → IsBody messages before least others rest → record_at messages before before rest ≡ Ok (call, back) → NextIs messages call others back rest
next_is messages before least [] rest back call left is = absurd (no_record messages before before rest back call left.spelled is)
next_is messages before least (first ∷ more) rest back call left is =
    let begins = begins_with messages before least first more rest left in
    let (same, same_back) = same_read first call begins.back back (sym (first_of messages before first more rest begins) ∙ is) in
    record {
      more = more;
      is = ap (λ (c : Call). c ∷ more) same;
      behind = subst (IsBody messages call.stamp call.stamp more) same_back (subst (λ (c : Call). IsBody messages c.stamp c.stamp more begins.back) same begins.behind);
      shorter = subst (λ (b : List ℕ). length b < length rest) same_back (takes_byte messages before first more rest begins);
    }

module _ (messages : List Message) (base : ℕ) (body : List ℕ) (id nth : ℕ) (old : Totals) (before : ℕ) (rest : List ℕ) (totals : Totals) (so_far : AreCounted messages base body id nth old before rest totals) where
  module _ (call : Call) (back : List ℕ) (read : record_at messages before before rest ≡ Ok (call, back)) where
    next : NextIs messages call so_far.others back rest
    next = next_is messages before so_far.least so_far.others rest back call so_far.left read

    joined : so_far.seen ++ so_far.others ≡ (so_far.seen ++ call ∷ []) ++ next.more
    joined = ap (λ (l : List Call). so_far.seen ++ l) next.is ∙ sym (append_assoc so_far.seen (call ∷ []) next.more)

    pub one_counted : (changed : Totals) → Adds totals changed (numbers_in id nth (call ∷ [])) 1 → AreCounted messages base body id nth old call.stamp back changed
    one_counted changed here = record {
      seen = so_far.seen ++ call ∷ [];
      others = next.more;
      last = so_far.last;
      whole = subst (λ (l : List Call). IsBody messages base so_far.last l body) joined so_far.whole;
      few = subst (λ (l : List Call). old.count + length l ≤ 134217728) joined so_far.few;
      least = call.stamp;
      left = next.behind;
      adds = adds_more old totals changed id nth so_far.seen call so_far.adds here;
    }

    pub falls : length back < length rest
    falls = next.shorter

  -- where no record stands, none is left
  none_left : (others : List Call) (cause : BodyCause) → IsBody messages before so_far.least others rest → record_at messages before before rest ≡ Err cause → others ≡ []
  none_left [] cause left breaks = refl
  none_left (first ∷ more) cause left breaks =
      let begins = begins_with messages before so_far.least first more rest left in
      absurd (read_or_broken (record_at messages before before rest) first begins.back cause (first_of messages before first more rest begins) breaks)

  pub all_counted : (cause : BodyCause) → record_at messages before before rest ≡ Err cause → (last : ℕ) (records : List Call) → IsBody messages base last records body → Adds old totals (numbers_in id nth records) (length records)
  all_counted cause breaks last records is =
      let all : so_far.seen ++ so_far.others ≡ so_far.seen = ap (λ (l : List Call). so_far.seen ++ l) (none_left so_far.others cause so_far.left breaks) ∙ append-nil so_far.seen in
      let same : so_far.seen ≡ records = sym all ∙ one_list messages base so_far.last last (so_far.seen ++ so_far.others) records body so_far.whole is in
      subst (λ (l : List Call). Adds old totals (numbers_in id nth l) (length l)) same so_far.adds
