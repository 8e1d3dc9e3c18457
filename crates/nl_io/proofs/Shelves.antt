-- Maps from names, as `String`s, seen as the finite maps of what the names hold.
use Rattle.std.proofs.Common.{◌≡◌, ℕ, Bool, cond, List, [], ◌++◌, Option, Some, None, Result, Ok, Err, OnOk, OnErr, sym, ap, ◌∙◌}
use Rattle.std.specs.Prelude.{option_map, unwrap_or}
use Rattle.std.specs.Result.{is_ok}
use Rattle.std.specs.Ordering.{nat_cmp}
use Rattle.std.specs.Cmp.Lexicographic.{slice_cmp, nat_list_cmp_total}
use Rattle.std.specs.String.{string_bytes, string_cmp}
use Rattle.std.specs.declared.string.String.{String}
use Rattle.std.specs.BTreeMap as tree
use Rattle.std.specs.BTreeMap.{BTreeMap, get_by_text}
use Rattle.std.proofs.lemmas.Map.Text.{btree_map_updates_text, is_eq-slice_cmp}
use Rattle.std.specs.FinMap as map
use Rattle.nl_io.specs.Desk.{Held, held_at}
use Rattle.nl_io.specs.Tables.{as_map}
use Rattle.nl_io.proofs.Tables.{get-as_map, as_map-insert, insert-same}

pub names_apart : map.IsAntisymmetric (slice_cmp nat_cmp)
names_apart = map.slice_cmp-IsAntisymmetric map.nat_cmp-IsAntisymmetric

module _ {Y V : Type 0} (value : V → List ℕ) where
  -- what the names hold
  abbrev pub texts : BTreeMap (String Y) V → Held
  texts m = as_map string_bytes value m.entries

  pub get-texts : (m : BTreeMap (String Y) V) (name : List ℕ) → map.get (texts m) name ≡ option_map value (get_by_text m name)
  get-texts m name = get-as_map nat_list_cmp_total string_bytes value m.entries name

  pub texts-put : (name : List ℕ) (m n : BTreeMap (String Y) V) (v : V) → tree.UpdatesBy string_cmp (λ k. slice_cmp nat_cmp name (string_bytes k)) m n (Some v)
      → texts n ≡ map.insert (texts m) name (value v)
  texts-put name m n v updates = as_map-insert nat_list_cmp_total string_bytes value names_apart m.entries n.entries name v (λ q.
      btree_map_updates_text name m n (Some v) updates q ∙ ap (λ (b : Bool). cond b (Some v) (get_by_text m q)) (sym (is_eq-slice_cmp name q)))

  held_at-found : (name : List ℕ) (m : BTreeMap (String Y) V) (v : V) → Some v ≡ get_by_text m name → held_at (texts m) name ≡ value v
  held_at-found name m v is = ap (λ (o : Option (List ℕ)). unwrap_or o []) (get-texts m name ∙ ap (option_map value) (sym is))

  pub held_at-missing : (name : List ℕ) (m : BTreeMap (String Y) V) → None ≡ get_by_text m name → held_at (texts m) name ≡ []
  held_at-missing name m is = ap (λ (o : Option (List ℕ)). unwrap_or o []) (get-texts m name ∙ ap (option_map value) (sym is))

  -- bytes were put at the end of what a name holds
  pub texts-appended : {T E : Type 0} (r : Result T E) (name more : List ℕ) (m n : BTreeMap (String Y) V) (old new : V) → Some old ≡ get_by_text m name
      → tree.UpdatesBy string_cmp (λ k. slice_cmp nat_cmp name (string_bytes k)) m n (Some new) → value new ≡ cond (is_ok r) (value old ++ more) (value old)
      → OnOk r (texts n ≡ map.insert (texts m) name (held_at (texts m) name ++ more))
  texts-appended (Ok x) name more m n old new is updates items =
      texts-put name m n new updates ∙ ap (map.insert (texts m) name) (items ∙ ap (λ (bs : List ℕ). bs ++ more) (sym (held_at-found name m old is)))
  texts-appended (Err e) name more m n old new is updates items = tt

  pub texts-kept : {T E : Type 0} (r : Result T E) (name more : List ℕ) (m n : BTreeMap (String Y) V) (old new : V) → Some old ≡ get_by_text m name
      → tree.UpdatesBy string_cmp (λ k. slice_cmp nat_cmp name (string_bytes k)) m n (Some new) → value new ≡ cond (is_ok r) (value old ++ more) (value old)
      → OnErr r (texts n ≡ texts m)
  texts-kept (Ok x) name more m n old new is updates items = tt
  texts-kept (Err e) name more m n old new is updates items =
      texts-put name m n new updates ∙ ap (map.insert (texts m) name) items
      ∙ insert-same nat_list_cmp_total names_apart (texts m) name (value old) (get-texts m name ∙ ap (option_map value) (sym is))
