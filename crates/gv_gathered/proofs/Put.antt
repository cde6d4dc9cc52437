-- Entries that are put into a new map one after another.
use Rattle.std.proofs.Common.{◌≡◌, ℕ, suc, ◌+◌, ◌-◌, zero, ◌≤◌, false, if◌then◌else◌, List, [], ◌∷◌, ◌++◌, length, append_assoc, slice_get, slice_set, Some, refl, ap, sym, subst, ◌∙◌, arith}
use Rattle.std.proofs.lemmas.List.{append-nil}
use Rattle.std.specs.List.{IsDistinct}
use Rattle.std.specs.Map.{keys_of}
use Rattle.gv_heap.specs.Entries.{has_key, with_entry}
use Rattle.gv_heap.specs.Heap.{HeapState, object_at, map_at, pay, with_map, with_new}
use Rattle.gv_heap.specs.Keys.{same_key}
use Rattle.gv_heap.specs.Kinds.{IsMapObject, entries_of}
use Rattle.gv_heap.specs.Prices.{entry_price}
use Rattle.gv_heap.specs.declared.entries.Slot.{Slot}
use Rattle.gv_heap.specs.declared.key.MapKey.{MapKey}
use Rattle.gv_heap.specs.declared.object.Object.{Object}
use Rattle.gv_heap.specs.declared.object.Object.TheVariants.{Map as MapObject}
use Rattle.gv_heap.proofs.CallerLemmas.{object_at-with_map, slice_set-slice_set}
use Rattle.gv_gathered.proofs.Apart.{apart_new, apart_next}
use Rattle.gv_gathered.proofs.Entries.{entry_new}

-- a new key is put, for a cell
pub put_new : (heap new : HeapState) (map : ℕ) (e : MapKey × Slot) → has_key (map_at heap map) e.0 ≡ false
    → new ≡ pay (with_map heap map (with_entry (map_at heap map) e.0 e.1.shown e.1.value)) (entry_price (map_at heap map) e.0)
    → new ≡ pay (with_map heap map (map_at heap map ++ e ∷ [])) 1
put_new heap new map e unknown h =
    h ∙ ap (λ b. pay (with_map heap map (with_entry (map_at heap map) e.0 e.1.shown e.1.value)) (if b then 0 else 1)) unknown
    ∙ ap (λ entries. pay (with_map heap map entries) 1) (entry_new (map_at heap map) e.0 e.1.shown e.1.value unknown)

-- the heap whose map has these entries behind its own
abbrev pub appended : HeapState → ℕ → List (MapKey × Slot) → HeapState
appended heap map entries = pay (with_map heap map (map_at heap map ++ entries)) (length entries)

module _ (heap : HeapState) (map : ℕ) (e : MapKey × Slot) (others : List (MapKey × Slot)) (is_map : IsMapObject (object_at heap map)) where
  abbrev pub entries : List (MapKey × Slot)
  entries = map_at heap map ++ e ∷ []

  abbrev pub put : HeapState
  put = pay (with_map heap map entries) 1

  object_there : object_at put map ≡ Some (MapObject entries)
  object_there = object_at-with_map heap map entries is_map

  kind_next : IsMapObject (object_at put map)
  kind_next = subst IsMapObject (sym object_there) tt

  there : map_at put map ≡ entries
  there = ap entries_of object_there

  appended_next : appended put map others ≡ appended heap map (e ∷ others)
  appended_next =
      let cells : heap.cells - 1 - length others ≡ heap.cells - suc (length others) = omega arith in
      ap (λ es. pay (with_map put map (es ++ others)) (length others)) there
      ∙ ap (λ es. pay (with_map put map es) (length others)) (append_assoc (map_at heap map) (e ∷ []) others)
      ∙ ap (λ objects. pay (record put { objects = objects }) (length others)) (slice_set-slice_set heap.objects map (MapObject entries) (MapObject (map_at heap map ++ e ∷ others)))
      ∙ ap (λ n. record (with_map heap map (map_at heap map ++ e ∷ others)) { cells = n }) cells

-- what is known between two entries
pub record Left (heap : HeapState) (map : ℕ) (rest : List (MapKey × Slot)) (end : HeapState) : Type 0 where
  pub kind : IsMapObject (object_at heap map)
  pub fits : length rest ≤ heap.cells
  pub apart : IsDistinct same_key (keys_of (map_at heap map) ++ keys_of rest)
  pub left : appended heap map rest ≡ end

pub left_first : (heap : HeapState) (map : ℕ) (all : List (MapKey × Slot)) → object_at heap map ≡ Some (MapObject []) → length all ≤ heap.cells → IsDistinct same_key (keys_of all) → Left heap map all (pay (with_map heap map all) (length all))
left_first heap map all empty fits apart =
    let none : map_at heap map ≡ [] = ap entries_of empty in record {
      kind = subst IsMapObject (sym empty) tt;
      fits = fits;
      apart = subst (λ es. IsDistinct same_key (keys_of es ++ keys_of all)) (sym none) apart;
      left = ap (λ es. pay (with_map heap map (es ++ all)) (length all)) none;
    }

pub left_unknown : (heap : HeapState) (map : ℕ) (e : MapKey × Slot) (rest others : List (MapKey × Slot)) (end : HeapState) → Left heap map rest end → rest ≡ e ∷ others → has_key (map_at heap map) e.0 ≡ false
left_unknown heap map e rest others end l r = apart_new (map_at heap map) e.0 (keys_of others) (subst (λ es. IsDistinct same_key (keys_of (map_at heap map) ++ keys_of es)) r l.apart)

pub left_fits : (heap : HeapState) (map : ℕ) (e : MapKey × Slot) (rest others : List (MapKey × Slot)) (end : HeapState) → Left heap map rest end → rest ≡ e ∷ others → 1 ≤ heap.cells
left_fits heap map e rest others end l r =
    let fits : suc (length others) ≤ heap.cells = subst (λ es. length es ≤ heap.cells) r l.fits in
    omega arith

pub left_next : (heap new : HeapState) (map : ℕ) (e : MapKey × Slot) (rest others : List (MapKey × Slot)) (end : HeapState) → Left heap map rest end → rest ≡ e ∷ others → new ≡ pay (with_map heap map (map_at heap map ++ e ∷ [])) 1 → Left new map others end
left_next heap new map e rest others end l r n =
    let fits : suc (length others) ≤ heap.cells = subst (λ es. length es ≤ heap.cells) r l.fits in
    let apart = subst (λ es. IsDistinct same_key (keys_of (map_at heap map) ++ keys_of es)) r l.apart in
    let entries_there = there heap map e others l.kind in
    subst (λ h. Left h map others end) (sym n) (record {
      kind = kind_next heap map e others l.kind;
      fits = omega arith;
      apart = subst (λ es. IsDistinct same_key (keys_of es ++ keys_of others)) (sym entries_there) (apart_next (map_at heap map) e (keys_of others) apart);
      left = appended_next heap map e others l.kind ∙ ap (appended heap map) (sym r) ∙ l.left;
    })

-- ---- the end

map_again : (objects : List Object) (map : ℕ) → IsMapObject (slice_get objects map) → slice_set objects map (MapObject (entries_of (slice_get objects map) ++ [])) ≡ objects
map_again [] map h = refl
map_again (MapObject entries ∷ objects) zero h = ap (λ es. MapObject es ∷ objects) (append-nil entries)
map_again (object ∷ objects) zero h = absurd h
map_again (object ∷ objects) (suc map) h = ap (λ rest. object ∷ rest) (map_again objects map h)

appended_none : (heap : HeapState) (map : ℕ) → IsMapObject (object_at heap map) → appended heap map [] ≡ heap
appended_none heap map h =
    ap (λ objects. pay (record heap { objects = objects }) 0) (map_again heap.objects map h)
    ∙ ap (λ cells. record heap { cells = cells }) (omega arith)

pub left_none : (heap : HeapState) (map : ℕ) (rest : List (MapKey × Slot)) (end : HeapState) → Left heap map rest end → rest ≡ [] → heap ≡ end
left_none heap map rest end l r = sym (appended_none heap map l.kind) ∙ ap (appended heap map) (sym r) ∙ l.left

-- ---- a new map

last_set : (objects : List Object) (x y : Object) → slice_set (objects ++ x ∷ []) (length objects) y ≡ objects ++ y ∷ []
last_set [] x y = refl
last_set (object ∷ objects) x y = ap (λ rest. object ∷ rest) (last_set objects x y)

pub made_all : (heap made new : HeapState) (map : ℕ) (entries : List (MapKey × Slot)) → map ≡ length heap.objects → made ≡ pay (with_new heap (MapObject [])) 1 → new ≡ pay (with_map made map entries) (length entries) → new ≡ pay (with_new heap (MapObject entries)) (1 + length entries)
made_all heap made new map entries at m n =
    let cells : heap.cells - 1 - length entries ≡ heap.cells - (1 + length entries) = omega arith in
    n ∙ ap (λ h. pay (with_map h map entries) (length entries)) m
    ∙ ap (λ i. pay (with_map (pay (with_new heap (MapObject [])) 1) i entries) (length entries)) at
    ∙ ap (λ objects. pay (record (pay (with_new heap (MapObject [])) 1) { objects = objects }) (length entries)) (last_set heap.objects (MapObject []) (MapObject entries))
    ∙ ap (λ n. record (with_new heap (MapObject entries)) { cells = n }) cells
