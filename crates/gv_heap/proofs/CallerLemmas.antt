-- What a caller finds in a heap after it wrote there. `heap_steps` has them for `grind`.
use Rattle.std.specs.Prelude.{◌≡◌, ℕ, suc, zero, ◌<◌, List, [], ◌∷◌, ◌++◌, length, slice_get, slice_set, Some, refl}
use Rattle.std.proofs.Common.{ap, arith}
use Rattle.gv_base.specs.declared.value.Value.{Value}
use Rattle.gv_heap.specs.Heap.{HeapState, object_at, with_list, with_map, with_new}
use Rattle.gv_heap.specs.Kinds.{IsListObject, IsMapObject}
use Rattle.gv_heap.specs.declared.entries.Slot.{Slot}
use Rattle.gv_heap.specs.declared.key.MapKey.{MapKey}
use Rattle.gv_heap.specs.declared.object.Object.{Object}
use Rattle.gv_heap.specs.declared.object.Object.TheVariants.{List as ListObject, Map as MapObject}

module _ {X : Type 0} where
  pub slice_get-slice_set : (xs : List X) (i : ℕ) (x : X) → i < length xs → slice_get (slice_set xs i x) i ≡ Some x
  slice_get-slice_set [] i x h = absurd (omega arith)
  slice_get-slice_set (y ∷ ys) zero x h = refl
  slice_get-slice_set (y ∷ ys) (suc i) x h = slice_get-slice_set ys i x (omega arith)

  pub slice_set-slice_set : (xs : List X) (i : ℕ) (x z : X) → slice_set (slice_set xs i x) i z ≡ slice_set xs i z
  slice_set-slice_set [] i x z = refl
  slice_set-slice_set (y ∷ ys) zero x z = refl
  slice_set-slice_set (y ∷ ys) (suc i) x z = ap (λ rest. y ∷ rest) (slice_set-slice_set ys i x z)

  pub slice_get-append : (xs : List X) (x : X) → slice_get (xs ++ x ∷ []) (length xs) ≡ Some x
  slice_get-append [] x = refl
  slice_get-append (y ∷ ys) x = slice_get-append ys x

  pub slice_get-append-before : (xs : List X) (x : X) (i : ℕ) → i < length xs → slice_get (xs ++ x ∷ []) i ≡ slice_get xs i
  slice_get-append-before [] x i h = absurd (omega arith)
  slice_get-append-before (y ∷ ys) x zero h = refl
  slice_get-append-before (y ∷ ys) x (suc i) h = slice_get-append-before ys x i (omega arith)

-- an object of a kind is there
pub list-within : (objects : List Object) (id : ℕ) → IsListObject (slice_get objects id) → id < length objects
list-within [] id h = absurd h
list-within (x ∷ xs) zero h = omega arith
list-within (x ∷ xs) (suc id) h = let within = list-within xs id h in omega arith

pub map-within : (objects : List Object) (id : ℕ) → IsMapObject (slice_get objects id) → id < length objects
map-within [] id h = absurd h
map-within (x ∷ xs) zero h = omega arith
map-within (x ∷ xs) (suc id) h = let within = map-within xs id h in omega arith

-- a list that was written has these elements, and a map these entries
pub object_at-with_list : (heap : HeapState) (id : ℕ) (elements : List Value) → IsListObject (object_at heap id) → object_at (with_list heap id elements) id ≡ Some (ListObject elements)
object_at-with_list heap id elements h = slice_get-slice_set heap.objects id (ListObject elements) (list-within heap.objects id h)

pub object_at-with_map : (heap : HeapState) (id : ℕ) (entries : List (MapKey × Slot)) → IsMapObject (object_at heap id) → object_at (with_map heap id entries) id ≡ Some (MapObject entries)
object_at-with_map heap id entries h = slice_get-slice_set heap.objects id (MapObject entries) (map-within heap.objects id h)

-- a new object has the next number, and the others stay
pub object_at-with_new : (heap : HeapState) (object : Object) → object_at (with_new heap object) (length heap.objects) ≡ Some object
object_at-with_new heap object = slice_get-append heap.objects object

pub object_at-before-new : (heap : HeapState) (object : Object) (id : ℕ) → id < length heap.objects → object_at (with_new heap object) id ≡ object_at heap id
object_at-before-new heap object id h = slice_get-append-before heap.objects object id h

pub ruleset heap_steps = (object_at-with_list, object_at-with_map, object_at-with_new, object_at-before-new, slice_set-slice_set)
