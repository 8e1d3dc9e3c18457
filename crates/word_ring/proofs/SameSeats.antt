-- Seats that stay the same.
use Rattle.std.proofs.Common.{◌≡◌, ℕ, ◌+◌, sym, ap, ◌∙◌}
use Rattle.atomic_table.specs.declared.owned.Table.{Table}
use Rattle.word_ring.specs.declared.known.Known.{Known}
use Rattle.word_ring.specs.declared.places.TheConstants.{DATA}
use Rattle.atomic_table.specs.Seated.{TableId}
use Rattle.word_ring.specs.Ends.{numbers_of}
use Rattle.word_ring.specs.Seats.{RingSeat, IsSameSeat, IsSeatOf}

-- the same seat is one of the same table
pub still_seat : {P A : Type 0} (size now : ℕ) (table : Table (Unit {0}) Known ℕ P A) (old new : RingSeat) → IsSeatOf size table old → IsSameSeat old new → now ≡ size → IsSeatOf now table new
still_seat size now table old new h same e = record {
  one = same.one ∙ h.one;
  words = h.words ∙ ap (λ (n : ℕ). DATA + n) (sym e);
  holds = same.holds;
}

pub same_then : (a b c : RingSeat) → IsSameSeat a b → IsSameSeat b c → IsSameSeat a c
same_then a b c first second = record { one = second.one ∙ first.one; number = second.number ∙ first.number; holds = second.holds }

-- the numbers tell which table it is
pub same_table : (a b : TableId) → numbers_of a ≡ numbers_of b → a ≡ b
same_table a b e =
    let words : a.words ≡ b.words = cc e in
    let slots : a.slots ≡ b.slots = cc e in
    let views_name : a.views_name ≡ b.views_name = cc e in
    let atom : a.atom ≡ b.atom = cc e in
    let block : a.block ≡ b.block = cc e in
    let offset : a.offset ≡ b.offset = cc e in
    let slot_names : a.slot_names ≡ b.slot_names = cc e in
    λ i. record {
      words = words i;
      slots = slots i;
      views_name = views_name i;
      atom = atom i;
      block = block i;
      offset = offset i;
      slot_names = slot_names i;
    }
