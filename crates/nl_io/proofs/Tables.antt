-- The finite map of a list of entries, after a change of one entry.
use Rattle.std.proofs.Common.{◌≡◌, ◌≢◌, ℕ, Bool, true, false, cond, List, [], ◌∷◌, Option, Some, None, Result, IfOk, refl, sym, ap, ◌∙◌}
use Rattle.std.proofs.Common.{Bor, MutBor}
use Rattle.std.specs.Prelude.{option_map, is_some, option_copied}
use Rattle.std.specs.Option.{option_copied_mut}
use Rattle.std.specs.declared.cmp.Ordering.{Ordering}
use Rattle.std.specs.Ordering.{nat_cmp, is_eq, eq_by_cmp}
use Rattle.std.specs.Cmp.{IsTotalOrder, eq_by_cmp_equiv, nat_cmp_total}
use Rattle.std.specs.Map.{lookup}
use Rattle.std.specs.BTreeMap as tree
use Rattle.std.specs.BTreeMap.{BTreeMap}
use Rattle.std.specs.FinMap as map
use Rattle.std.proofs.lemmas.Result.{IfOk-weaker}
use Rattle.nl_io.specs.Content.{Told, without_front}
use Rattle.nl_io.proofs.lemmas.DeskLaws.{same_key}
use Rattle.nl_io.specs.Tables.{as_map, by_id}
use Rattle.nl_io.specs.Untold.{ids_in}

option_map-cond : {V X : Type 0} (f : V → X) (b : Bool) (v : Option V) (o : Option V) → option_map f (cond b v o) ≡ cond b (option_map f v) (option_map f o)
option_map-cond f true v o = refl
option_map-cond f false v o = refl

module _ {K L V X : Type 0} {R : L → L → Ordering} (total : IsTotalOrder R) (key : K → L) (value : V → X) where
  -- the first value under a key
  abbrev pub found : List (K × V) → L → Option V
  found es q = lookup (λ k. is_eq (R q (key k))) es

  pub get-as_map : (es : List (K × V)) (q : L) → map.get (as_map {R = R} key value es) q ≡ option_map value (found es q)
  get-as_map [] q = map.get-empty R q
  get-as_map (e ∷ es) q =
      map.get-insert total (as_map key value es) (key e.0) (value e.1) q
      ∙ ap (cond (eq_by_cmp R q (key e.0)) (Some (value e.1))) (get-as_map es q)
      ∙ sym (option_map-cond value (is_eq (R q (key e.0))) (Some e.1) (found es q))

  -- one entry was put
  pub as_map-insert : map.IsAntisymmetric R → (old new : List (K × V)) (k : L) (v : V) → ((q : L) → found new q ≡ cond (eq_by_cmp R k q) (Some v) (found old q))
      → as_map {R = R} key value new ≡ map.insert (as_map key value old) k (value v)
  as_map-insert same old new k v h = map.same_map total same _ _ (λ q.
      get-as_map new q ∙ ap (option_map value) (h q) ∙ option_map-cond value (eq_by_cmp R k q) (Some v) (found old q)
      ∙ ap (λ (b : Bool). cond b (Some (value v)) (option_map value (found old q))) ((eq_by_cmp_equiv total).symm k q)
      ∙ sym (map.get-insert total (as_map key value old) k (value v) q ∙ ap (cond (eq_by_cmp R q k) (Some (value v))) (get-as_map old q)))

  -- one key was taken out
  pub as_map-remove : map.IsAntisymmetric R → (old new : List (K × V)) (k : L) → ((q : L) → found new q ≡ cond (eq_by_cmp R k q) None (found old q))
      → as_map {R = R} key value new ≡ map.remove (as_map key value old) k
  as_map-remove same old new k h = map.same_map total same _ _ (λ q.
      get-as_map new q ∙ ap (option_map value) (h q) ∙ option_map-cond value (eq_by_cmp R k q) None (found old q)
      ∙ ap (λ (b : Bool). cond b None (option_map value (found old q))) ((eq_by_cmp_equiv total).symm k q)
      ∙ sym (map.get-remove total (as_map key value old) k q ∙ ap (cond (eq_by_cmp R q k) None) (get-as_map old q)))

-- each way of a test leads to the same
either_way : {A : Type 0} (b : Bool) (x y : A) → (b ≡ true → x ≡ y) → cond b x y ≡ y
either_way true x y h = h refl
either_way false x y h = refl

-- what was put and taken out is as it was
skipped : {X : Type 0} (b : Bool) (o w u : Option X) → o ≡ cond b w u → (b ≡ true → None ≡ u) → cond b None o ≡ u
skipped true o w u is h = h refl
skipped false o w u is h = is

module _ {L X : Type 0} {R : L → L → Ordering} (total : IsTotalOrder R) (same : map.IsAntisymmetric R) where
  -- what a key has, put there again, changes nothing
  pub insert-same : (m : map.FinMap R X) (k : L) (v : X) → map.get m k ≡ Some v → map.insert m k v ≡ m
  insert-same m k v has = map.same_map total same _ _ (λ q. map.get-insert total m k v q
      ∙ either_way (eq_by_cmp R q k) (Some v) (map.get m q) (λ e. sym has ∙ ap (map.get m) (sym (same_key same q k e))))

  -- a key that is put and taken out again
  pub remove-insert : (m : map.FinMap R X) (k : L) (v : X) → map.get m k ≡ None → map.remove (map.insert m k v) k ≡ m
  remove-insert m k v none = map.same_map total same _ _ (λ q. map.get-remove total (map.insert m k v) k q
      ∙ skipped (eq_by_cmp R q k) _ _ (map.get m q) (map.get-insert total m k v q) (λ e. sym none ∙ ap (map.get m) (sym (same_key same q k e))))

is_there : {V : Type 0} (told : V → Told) (o : Option V) → option_map told o ≢ None → is_some o ≡ true
is_there told None has = absurd (has refl)
is_there told (Some v) has = refl

module _ {V : Type 0} (told : V → Told) where
  pub get-by_id : (m : BTreeMap ℕ V) (id : ℕ) → map.get (by_id told m.entries) id ≡ option_map told (tree.get nat_cmp m id)
  get-by_id m id = get-as_map nat_cmp_total (λ k. k) told m.entries id

  pub by_id-insert : (m n : BTreeMap ℕ V) (id : ℕ) (v : V) → tree.UpdatesBy nat_cmp (nat_cmp id) m n (Some v) → by_id told n.entries ≡ map.insert (by_id told m.entries) id (told v)
  by_id-insert m n id v updates = as_map-insert nat_cmp_total (λ k. k) told map.nat_cmp-IsAntisymmetric m.entries n.entries id v updates.0

  pub by_id-remove : (m n : BTreeMap ℕ V) (id : ℕ) → tree.UpdatesBy nat_cmp (nat_cmp id) m n None → by_id told n.entries ≡ map.remove (by_id told m.entries) id
  by_id-remove m n id updates = as_map-remove nat_cmp_total (λ k. k) told map.nat_cmp-IsAntisymmetric m.entries n.entries id updates.0

  pub by_id-unused : (m : BTreeMap ℕ V) (id : ℕ) → tree.get nat_cmp m id ≡ None → map.get (by_id told m.entries) id ≡ None
  by_id-unused m id none = get-by_id m id ∙ ap (option_map told) none

  pub by_id-put : {E : Type 0} (r : Result ℕ E) (m n : BTreeMap ℕ V) (v : V) → IfOk r (λ id. tree.UpdatesBy nat_cmp (nat_cmp id) m n (Some v))
      → IfOk r (λ id. by_id told n.entries ≡ map.insert (by_id told m.entries) id (told v))
  by_id-put r m n v updates = IfOk-weaker r _ _ (λ id. by_id-insert m n id v) updates

  pub by_id-free : {E : Type 0} (r : Result ℕ E) (m : BTreeMap ℕ V) → IfOk r (λ id. tree.get nat_cmp m id ≡ None) → IfOk r (λ id. map.get (by_id told m.entries) id ≡ None)
  by_id-free r m free = IfOk-weaker r _ _ (λ id. by_id-unused m id) free

  pub by_id-has : (m : BTreeMap ℕ V) (id : ℕ) → map.get (by_id told m.entries) id ≢ None → is_some (tree.get nat_cmp m id) ≡ true
  by_id-has m id has = is_there told (tree.get nat_cmp m id) (λ none. has (get-by_id m id ∙ none))

  pub by_id-content : (m : BTreeMap ℕ V) (id : ℕ) (v : V) (content : Told) → tree.get nat_cmp m id ≡ Some v → map.get (by_id told m.entries) id ≡ Some content → content ≡ told v
  by_id-content m id v content found is = let both : Some content ≡ Some (told v) = sym is ∙ get-by_id m id ∙ ap (option_map told) found in cc

-- a reference was found
pub found_mut : {V : Type 0} (r : Option (MutBor V)) (o : Option V) → option_copied_mut r ≡ o → is_some o ≡ true → is_some r ≡ true
found_mut None o is has = ap is_some is ∙ has
found_mut (Some x) o is has = refl

pub found_ref : {V : Type 0} (r : Option (Bor V)) (o : Option V) → option_copied r ≡ o → is_some o ≡ true → is_some r ≡ true
found_ref None o is has = ap is_some is ∙ has
found_ref (Some x) o is has = refl

-- a value was written over, of which the same is told
pub by_id-written : {V : Type 0} (told : V → Told) (m n : BTreeMap ℕ V) (id : ℕ) (old new : V) → tree.get nat_cmp m id ≡ Some old → tree.UpdatesBy nat_cmp (nat_cmp id) m n (Some new) → told new ≡ told old
    → by_id told n.entries ≡ by_id told m.entries
by_id-written told m n id old new found updates same =
    by_id-insert told m n id new updates ∙ ap (map.insert (by_id told m.entries) id) same
    ∙ insert-same nat_cmp_total map.nat_cmp-IsAntisymmetric (by_id told m.entries) id (told old) (get-by_id told m id ∙ ap (option_map told) found)

untold_none : {V : Type 0} (o : Option V) (content : Told) → option_map {U = Told} (λ _. None) o ≡ Some content → content ≡ None
untold_none None content is = absurd cc
untold_none (Some v) content is = cc

-- nothing is told of an open file
pub ids_in-content : {V : Type 0} (m : BTreeMap ℕ V) (id : ℕ) (content : Told) → map.get (ids_in m) id ≡ Some content → content ≡ None
ids_in-content m id content is = untold_none (tree.get nat_cmp m id) content (sym (get-by_id (λ _. None) m id) ∙ is)

-- it was taken from, and still nothing is told of it
pub ids_in-taken : {V : Type 0} (m n : BTreeMap ℕ V) (id count : ℕ) (content : Told) → map.get (ids_in m) id ≡ Some content → ids_in n ≡ ids_in m → ids_in n ≡ map.insert (ids_in m) id (without_front count content)
ids_in-taken m n id count content is same =
    same ∙ sym (insert-same nat_cmp_total map.nat_cmp-IsAntisymmetric (ids_in m) id content is)
    ∙ ap (map.insert (ids_in m) id) (ids_in-content m id content is ∙ sym (ap (without_front count) (ids_in-content m id content is)))
