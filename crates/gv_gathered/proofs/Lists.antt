-- The lists of groups that are made one after another.
use Rattle.std.proofs.Common.{◌≡◌, ℕ, ◌+◌, ◌-◌, ◌≤◌, List, [], ◌∷◌, ◌++◌, length, length-append, append_assoc, Result, Ok, Err, refl, ap, sym, subst, ◌∙◌, arith}
use Rattle.std.proofs.lemmas.List.{append-nil}
use Rattle.std.specs.List.{IsDistinct}
use Rattle.std.specs.Map.{keys_of}
use Rattle.gv_base.specs.declared.value.Value.TheVariants.{Obj}
use Rattle.gv_heap.specs.Heap.{HeapState, pay, with_new}
use Rattle.gv_heap.specs.Keys.{same_key}
use Rattle.gv_heap.specs.Prices.{filled_price}
use Rattle.gv_heap.specs.declared.entries.Slot.{Slot}
use Rattle.gv_heap.specs.declared.error.HeapError.{HeapError}
use Rattle.gv_heap.specs.declared.error.HeapError.TheVariants.{CellsSpent, OutOfMemory}
use Rattle.gv_heap.specs.declared.key.MapKey.{MapKey}
use Rattle.gv_heap.specs.declared.object.Object.TheVariants.{List as ListObject, Map as MapObject}
use Rattle.gv_gathered.specs.Making.{with_all, with_group, with_list_of, group_lists, group_entries, group_objects, groups_price, lists_price, map_price, MakesGroups, MakesMap}
use Rattle.gv_gathered.specs.declared.groups.Members.{Members}
use Rattle.gv_gathered.proofs.Apart.{apart_new, apart_next}
use Rattle.gv_gathered.proofs.Entries.{entry_new}

-- the heap with the lists of the groups that are left, and the map of all
abbrev pub finished : HeapState → List (MapKey × Slot) → List (MapKey × Members) → HeapState
finished heap entries groups =
    pay (with_all heap (group_lists groups ++ MapObject (entries ++ group_entries (length heap.objects) groups) ∷ [])) (lists_price groups + (1 + (length entries + length groups)))

-- what is known between two groups
pub record Left (heap : HeapState) (entries : List (MapKey × Slot)) (rest : List (MapKey × Members)) (last : ℕ) (end : HeapState) : Type 0 where
  pub fits : lists_price rest + (1 + (length entries + length rest)) ≤ heap.cells
  pub apart : IsDistinct same_key (keys_of entries ++ keys_of rest)
  pub last_id : length heap.objects + length rest ≡ last
  pub left : finished heap entries rest ≡ end

pub left_first : (heap : HeapState) (all : List (MapKey × Members)) → groups_price all ≤ heap.cells → IsDistinct same_key (keys_of all)
    → Left heap [] all (length heap.objects + length all) (pay (with_all heap (group_objects (length heap.objects) all)) (groups_price all))
left_first heap all fits apart =
    let none : 0 + length all ≡ length all = omega arith in record {
      fits = omega arith;
      apart = apart;
      last_id = refl;
      left = ap (λ n. pay (with_all heap (group_objects (length heap.objects) all)) (lists_price all + (1 + n))) none;
    }

module _ (heap : HeapState) (entries : List (MapKey × Slot)) (group : MapKey × Members) (others : List (MapKey × Members)) where
  abbrev pub made : HeapState
  made = with_list_of heap group.1

  abbrev pub id : ℕ
  id = length heap.objects

  abbrev pub entry : MapKey × Slot
  entry = (group.0, record { shown = group.1.shown; value = Obj id })

  longer : length made.objects ≡ id + 1
  longer = length-append heap.objects (ListObject group.1.elements ∷ [])

  entries_longer : length (entries ++ entry ∷ []) ≡ length entries + 1
  entries_longer = length-append entries (entry ∷ [])

  fits_next : lists_price (group ∷ others) + (1 + (length entries + length (group ∷ others))) ≤ heap.cells → lists_price others + (1 + (length (entries ++ entry ∷ []) + length others)) ≤ made.cells
  fits_next h = let l = entries_longer in omega arith

  finished_next : finished made (entries ++ entry ∷ []) others ≡ finished heap entries (group ∷ others)
  finished_next =
      let l = entries_longer in
      let cells : heap.cells - filled_price group.1.elements - (lists_price others + (1 + (length (entries ++ entry ∷ []) + length others))) ≡ heap.cells - (lists_price (group ∷ others) + (1 + (length entries + length (group ∷ others)))) = omega arith in
      ap (λ es. record (with_all made (group_lists others ++ MapObject es ∷ [])) { cells = made.cells - (lists_price others + (1 + (length (entries ++ entry ∷ []) + length others))) })
      (append_assoc entries (entry ∷ []) (group_entries (length made.objects) others) ∙ ap (λ n. entries ++ entry ∷ group_entries n others) longer)
      ∙ ap (λ objects. record heap { objects = objects; cells = made.cells - (lists_price others + (1 + (length (entries ++ entry ∷ []) + length others))) })
      (append_assoc heap.objects (ListObject group.1.elements ∷ []) (group_lists others ++ MapObject (entries ++ entry ∷ group_entries (id + 1) others) ∷ []))
      ∙ ap (λ n. record (with_all heap (group_lists (group ∷ others) ++ MapObject (entries ++ group_entries id (group ∷ others)) ∷ [])) { cells = n }) cells

pub left_next : (heap new : HeapState) (entries more : List (MapKey × Slot)) (group : MapKey × Members) (rest others : List (MapKey × Members)) (last : ℕ) (end : HeapState)
    → Left heap entries rest last end → rest ≡ group ∷ others → new ≡ with_list_of heap group.1 → more ≡ with_group entries (length heap.objects) group → Left new more others last end
left_next heap new entries more group rest others last end l r n m =
    let here : Left heap entries (group ∷ others) last end = subst (λ gs. Left heap entries gs last end) r l in
    let unknown = apart_new entries group.0 (keys_of others) here.apart in
    let put : more ≡ entries ++ entry heap entries group others ∷ [] = m ∙ entry_new entries group.0 group.1.shown (Obj (length heap.objects)) unknown in
    let size = longer heap entries group others in
    let at = here.last_id in
    subst (λ es. Left new es others last end) (sym put) (subst (λ h. Left h (entries ++ entry heap entries group others ∷ []) others last end) (sym n) (record {
      fits = fits_next heap entries group others here.fits;
      apart = apart_next entries (entry heap entries group others) (keys_of others) here.apart;
      last_id = omega arith;
      left = finished_next heap entries group others ∙ here.left;
    }))

-- behind the last one
pub left_none : (heap : HeapState) (entries : List (MapKey × Slot)) (rest : List (MapKey × Members)) (last : ℕ) (end : HeapState) → Left heap entries rest last end → rest ≡ []
    → (map_price entries ≤ heap.cells) × (length heap.objects ≡ last) × (pay (with_new heap (MapObject entries)) (map_price entries) ≡ end)
left_none heap entries rest last end l r =
    let here : Left heap entries [] last end = subst (λ gs. Left heap entries gs last end) r l in
    let fits = here.fits in
    let at = here.last_id in
    let price : 0 + (1 + (length entries + 0)) ≡ map_price entries = omega arith in (
      omega arith,
      omega arith,
      ap (λ es. pay (with_new heap (MapObject es)) (map_price entries)) (sym (append-nil entries)) ∙ ap (pay (with_new heap (MapObject (entries ++ [])))) (sym price) ∙ here.left,
    )

pub finish : (old heap new : HeapState) (entries : List (MapKey × Slot)) (groups : List (MapKey × Members)) (result : Result ℕ HeapError)
    → groups_price groups ≤ old.cells
    → (map_price entries ≤ heap.cells) × (length heap.objects ≡ length old.objects + length groups) × (pay (with_new heap (MapObject entries)) (map_price entries) ≡ pay (with_all old (group_objects (length old.objects) groups)) (groups_price groups))
    → MakesMap heap entries result new → MakesGroups old groups result new
finish old heap new entries groups (Ok id) fits last h = (fits, h.1 ∙ last.1, h.2 ∙ last.2)
finish old heap new entries groups (Err CellsSpent) fits last h = let spent = h.0 in let left = last.0 in absurd (omega arith)
finish old heap new entries groups (Err OutOfMemory) fits last h = tt
