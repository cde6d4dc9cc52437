-- Entries that are put in one after another, in a heap.
use Rattle.std.proofs.Common.{◌≡◌, ℕ, zero, suc, ◌+◌, ◌-◌, ◌≤◌, List, [], ◌∷◌, ◌++◌, length, slice_get, slice_set, Some, refl, ap, sym, subst, ◌∙◌, arith}
use Rattle.gv_heap.specs.Entries.{with_entry}
use Rattle.gv_heap.specs.Heap.{HeapState, object_at, map_at, pay, with_map, with_new}
use Rattle.gv_heap.specs.Kinds.{IsMapObject, entries_of}
use Rattle.gv_heap.specs.Prices.{entry_price}
use Rattle.gv_heap.specs.declared.entries.Slot.{Slot}
use Rattle.gv_heap.specs.declared.key.MapKey.{MapKey}
use Rattle.gv_heap.specs.declared.object.Object.{Object}
use Rattle.gv_heap.specs.declared.object.Object.TheVariants.{Map as MapObject}
use Rattle.gv_heap.proofs.CallerLemmas.{object_at-with_map, object_at-with_new, slice_set-slice_set}
use Rattle.gv_maps.specs.Joining.{joined, join_price, joined_heap}
use Rattle.gv_maps.proofs.Counts.{length_joined}

-- ---- none

map_again : (objects : List Object) (id : ℕ) → IsMapObject (slice_get objects id) → slice_set objects id (MapObject (entries_of (slice_get objects id))) ≡ objects
map_again [] id h = refl
map_again (MapObject entries ∷ objects) zero h = refl
map_again (object ∷ objects) zero h = absurd h
map_again (object ∷ objects) (suc id) h = ap (λ rest. object ∷ rest) (map_again objects id h)

pub joined_none : (heap : HeapState) (id : ℕ) → IsMapObject (object_at heap id) → joined_heap heap id [] ≡ heap
joined_none heap id h =
    ap (λ objects. pay (record heap { objects = objects }) 0) (map_again heap.objects id h)
    ∙ ap (λ cells. record heap { cells = cells }) (omega arith)

-- ---- one more

module _ (heap : HeapState) (id : ℕ) (e : MapKey × Slot) (others : List (MapKey × Slot)) (is_map : IsMapObject (object_at heap id)) where
  abbrev pub entries : List (MapKey × Slot)
  entries = with_entry (map_at heap id) e.0 e.1.shown e.1.value

  abbrev pub put : HeapState
  put = pay (with_map heap id entries) (entry_price (map_at heap id) e.0)

  object_there : object_at put id ≡ Some (MapObject entries)
  object_there = object_at-with_map heap id entries is_map

  kind_next : IsMapObject (object_at put id)
  kind_next = subst IsMapObject (sym object_there) tt

  there : map_at put id ≡ entries
  there = ap entries_of object_there

  fits_next : join_price (map_at heap id) (e ∷ others) ≤ heap.cells → join_price (map_at put id) others ≤ put.cells
  fits_next h = rw there (omega arith)

  joined_next : joined_heap put id others ≡ joined_heap heap id (e ∷ others)
  joined_next =
      let cells : heap.cells - entry_price (map_at heap id) e.0 - join_price entries others ≡ heap.cells - (entry_price (map_at heap id) e.0 + join_price entries others) = omega arith in
      ap (λ es. pay (with_map put id (joined es others)) (join_price es others)) there
      ∙ ap (λ objects. pay (record put { objects = objects }) (join_price entries others)) (slice_set-slice_set heap.objects id (MapObject entries) (MapObject (joined entries others)))
      ∙ ap (λ n. record (with_map heap id (joined entries others)) { cells = n }) cells

-- an item is put in, and the others are left
pub put_fits : (heap : HeapState) (id : ℕ) (e : MapKey × Slot) (rest others : List (MapKey × Slot)) → join_price (map_at heap id) rest ≤ heap.cells → rest ≡ e ∷ others → entry_price (map_at heap id) e.0 ≤ heap.cells
put_fits heap id e rest others fits r =
    let here : join_price (map_at heap id) (e ∷ others) ≤ heap.cells = subst (λ xs. join_price (map_at heap id) xs ≤ heap.cells) r fits in
    omega arith

pub put_next : (heap new : HeapState) (id : ℕ) (e : MapKey × Slot) (rest others : List (MapKey × Slot)) → IsMapObject (object_at heap id) → join_price (map_at heap id) rest ≤ heap.cells → rest ≡ e ∷ others
    → new ≡ pay (with_map heap id (with_entry (map_at heap id) e.0 e.1.shown e.1.value)) (entry_price (map_at heap id) e.0)
    → IsMapObject (object_at new id) × (join_price (map_at new id) others ≤ new.cells) × (joined_heap new id others ≡ joined_heap heap id rest)
put_next heap new id e rest others is_map fits r n =
    let here : join_price (map_at heap id) (e ∷ others) ≤ heap.cells = subst (λ xs. join_price (map_at heap id) xs ≤ heap.cells) r fits in (
      subst (λ h. IsMapObject (object_at h id)) (sym n) (kind_next heap id e others is_map),
      subst (λ h. join_price (map_at h id) others ≤ h.cells) (sym n) (fits_next heap id e others is_map here),
      ap (λ h. joined_heap h id others) n ∙ joined_next heap id e others is_map ∙ ap (joined_heap heap id) (sym r),
    )

pub none_left : (items : List (MapKey × Slot)) → length items ≡ 0 → items ≡ []
none_left [] h = refl
none_left (e ∷ items) h = absurd (omega arith)

-- ---- into a new map

last_set : (objects : List Object) (x y : Object) → slice_set (objects ++ x ∷ []) (length objects) y ≡ objects ++ y ∷ []
last_set [] x y = refl
last_set (object ∷ objects) x y = ap (λ rest. object ∷ rest) (last_set objects x y)

module _ (heap : HeapState) (others : List (MapKey × Slot)) where
  abbrev pub made : HeapState
  made = pay (with_new heap (MapObject [])) 1

  made_object : object_at made (length heap.objects) ≡ Some (MapObject [])
  made_object = object_at-with_new heap (MapObject [])

  kind_made : IsMapObject (object_at made (length heap.objects))
  kind_made = subst IsMapObject (sym made_object) tt

  made_map : map_at made (length heap.objects) ≡ []
  made_map = ap entries_of made_object

  joined_made : joined_heap made (length heap.objects) others ≡ pay (with_new heap (MapObject (joined [] others))) (1 + length (joined [] others))
  joined_made =
      let all = length_joined [] others in
      let cells : heap.cells - 1 - join_price [] others ≡ heap.cells - (1 + length (joined [] others)) = omega arith in
      ap (λ es. pay (with_map made (length heap.objects) (joined es others)) (join_price es others)) made_map
      ∙ ap (λ objects. pay (record made { objects = objects }) (join_price [] others)) (last_set heap.objects (MapObject []) (MapObject (joined [] others)))
      ∙ ap (λ n. record (with_new heap (MapObject (joined [] others))) { cells = n }) cells

  price_made : join_price (map_at made (length heap.objects)) others ≡ join_price [] others
  price_made = ap (λ es. join_price es others) made_map

  pub made_next : (new : HeapState) (id : ℕ) → id ≡ length heap.objects → new ≡ made → 1 + length (joined [] others) ≤ heap.cells
      → IsMapObject (object_at new id) × (join_price (map_at new id) others ≤ new.cells) × (joined_heap new id others ≡ pay (with_new heap (MapObject (joined [] others))) (1 + length (joined [] others)))
  made_next new id i n h =
      let all = length_joined [] others in
      let price = price_made in
      let fits : join_price (map_at made (length heap.objects)) others ≤ made.cells = omega arith in
      subst (λ k. IsMapObject (object_at new k) × (join_price (map_at new k) others ≤ new.cells) × (joined_heap new k others ≡ pay (with_new heap (MapObject (joined [] others))) (1 + length (joined [] others)))) (sym i)
      (subst (λ g. IsMapObject (object_at g (length heap.objects)) × (join_price (map_at g (length heap.objects)) others ≤ g.cells) × (joined_heap g (length heap.objects) others ≡ pay (with_new heap (MapObject (joined [] others))) (1 + length (joined [] others)))) (sym n)
      (kind_made, fits, joined_made))
