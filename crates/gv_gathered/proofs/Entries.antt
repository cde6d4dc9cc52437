-- What stands in entries after a key is put that is new, or that is there.
use Rattle.std.proofs.Common.{◌≡◌, Bool, true, false, cond, if◌then◌else◌, List, [], ◌∷◌, ◌++◌, Option, None, Some, is_some, unwrap_or, option_map, refl, ap, ◌∙◌}
use Rattle.std.specs.Map.{lookup, set_value}
use Rattle.indexmap.specs.IndexMap.{insert_entry}
use Rattle.gv_base.specs.declared.value.Value.{Value}
use Rattle.gv_heap.specs.Entries.{has_key, with_entry}
use Rattle.gv_heap.specs.Keys.{same_key}
use Rattle.gv_heap.specs.declared.entries.Slot.{Slot}
use Rattle.gv_heap.specs.declared.key.MapKey.{MapKey}

pub is_none : {X : Type 0} (o : Option X) → is_some o ≡ false → o ≡ None
is_none None h = refl
is_none (Some x) h = cc

module _ {X : Type 0} (k : MapKey) (x : X) where
  -- a new key goes last
  pub insert_new : (es : List (MapKey × X)) → lookup (same_key k) es ≡ None → insert_entry same_key es k x ≡ es ++ (k, x) ∷ []
  insert_new [] h = refl
  insert_new (e ∷ es) h = by (insert_new es) (same_key k e.0) h
    where
      by : (lookup (same_key k) es ≡ None → insert_entry same_key es k x ≡ es ++ (k, x) ∷ []) → (b : Bool) → cond b (Some e.1) (lookup (same_key k) es) ≡ None → (if b then (e.0, x) ∷ es else e ∷ insert_entry same_key es k x) ≡ e ∷ (es ++ (k, x) ∷ [])
      by rest true h = cc
      by rest false h = ap (λ more. e ∷ more) (rest h)

  -- a key that is there takes another value
  pub insert_known : (es : List (MapKey × X)) (y : X) → lookup (same_key k) es ≡ Some y → insert_entry same_key es k x ≡ set_value (same_key k) es x
  insert_known [] y h = cc
  insert_known (e ∷ es) y h = by (insert_known es y) (same_key k e.0) h
    where
      by : (lookup (same_key k) es ≡ Some y → insert_entry same_key es k x ≡ set_value (same_key k) es x) → (b : Bool) → cond b (Some e.1) (lookup (same_key k) es) ≡ Some y → (if b then (e.0, x) ∷ es else e ∷ insert_entry same_key es k x) ≡ cond b ((e.0, x) ∷ es) (e ∷ set_value (same_key k) es x)
      by rest true h = refl
      by rest false h = ap (λ more. e ∷ more) (rest h)

pub entry_new : (es : List (MapKey × Slot)) (k : MapKey) (shown value : Value) → has_key es k ≡ false → with_entry es k shown value ≡ es ++ (k, record { shown = shown; value = value }) ∷ []
entry_new es k shown value h =
    let none = is_none (lookup (same_key k) es) h in
    ap (λ found. insert_entry same_key es k (record { shown = unwrap_or (option_map (λ slot. slot.shown) found) shown; value = value })) none
    ∙ insert_new k (record { shown = shown; value = value }) es none
