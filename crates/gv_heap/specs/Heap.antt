-- A heap: its objects and places in the order of their numbers, and the cells left.
use Rattle.std.specs.Prelude.{◌≡◌, ℕ, ◌-◌, ◌<◌, ◌≤◌, List, [], ◌∷◌, ◌++◌, length, slice_get, slice_set, Option, Some, Result, MatchResult}
use Rattle.gv_base.specs.declared.value.Value.{Value}
use Rattle.gv_heap.specs.Kinds.{elements_of, entries_of}
use Rattle.gv_heap.specs.Prices.{closure_price}
use Rattle.gv_heap.specs.declared.entries.Slot.{Slot}
use Rattle.gv_heap.specs.declared.error.HeapError.{HeapError}
use Rattle.gv_heap.specs.declared.error.HeapError.TheVariants.{CellsSpent, OutOfMemory}
use Rattle.gv_heap.specs.declared.key.MapKey.{MapKey}
use Rattle.gv_heap.specs.declared.closure.Closure.{Closure}
use Rattle.gv_heap.specs.declared.object.Instance.{Instance}
use Rattle.gv_heap.specs.declared.object.Object.{Object}
use Rattle.gv_heap.specs.declared.object.Object.TheVariants.{List as ListObject, Map as MapObject, Closure as ClosureObject, Instance as InstanceObject}

pub record HeapState : Type 0 where
  pub objects : List Object
  pub places : List Value
  pub cells : ℕ

-- the heap after a price is paid
abbrev pub pay : HeapState → ℕ → HeapState
pay heap price = record heap { cells = heap.cells - price }

-- a call is refused for want of cells exactly where its price exceeds those left; a refusal changes nothing
abbrev pub Refuses : HeapState → ℕ → HeapError → HeapState → Type 0
Refuses old price CellsSpent new = (old.cells < price) × (new ≡ old)
Refuses old price OutOfMemory new = (price ≤ old.cells) × (new ≡ old)

-- the heap becomes what it grows to and pays for it, or the call is refused
abbrev pub Grows : HeapState → HeapState → ℕ → Result (Unit {0}) HeapError → HeapState → Type 0
Grows old grown price result new = MatchResult result
    (λ _. (price ≤ old.cells) × (new ≡ pay grown price))
    (λ error. Refuses old price error new)

-- the heap with one more object, or one more place
abbrev pub with_new : HeapState → Object → HeapState
with_new heap object = record heap { objects = heap.objects ++ object ∷ [] }

abbrev pub with_new_place : HeapState → Value → HeapState
with_new_place heap value = record heap { places = heap.places ++ value ∷ [] }

-- an object, or a place, is made for its price, and its number is the next one; or the call is refused
abbrev pub Makes : HeapState → Object → ℕ → Result ℕ HeapError → HeapState → Type 0
Makes old object price result new = MatchResult result
    (λ id. (price ≤ old.cells) × (id ≡ length old.objects) × (new ≡ pay (with_new old object) price))
    (λ error. Refuses old price error new)

abbrev pub MakesPlace : HeapState → Value → ℕ → Result ℕ HeapError → HeapState → Type 0
MakesPlace old value price result new = MatchResult result
    (λ id. (price ≤ old.cells) × (id ≡ length old.places) × (new ≡ pay (with_new_place old value) price))
    (λ error. Refuses old price error new)

-- the object of a number, if it is there
abbrev pub object_at : HeapState → ℕ → Option Object
object_at heap id = slice_get heap.objects id

-- the elements of the list, and the entries of the map, of a number
abbrev pub list_at : HeapState → ℕ → List Value
list_at heap id = elements_of (object_at heap id)

abbrev pub map_at : HeapState → ℕ → List (MapKey × Slot)
map_at heap id = entries_of (object_at heap id)

-- the heap with another object of this number, with other elements of the list, with other entries of the map
abbrev pub with_object : HeapState → ℕ → Object → HeapState
with_object heap id object = record heap { objects = slice_set heap.objects id object }

abbrev pub with_list : HeapState → ℕ → List Value → HeapState
with_list heap id elements = with_object heap id (ListObject elements)

abbrev pub with_map : HeapState → ℕ → List (MapKey × Slot) → HeapState
with_map heap id entries = with_object heap id (MapObject entries)

-- the heap with its list or map of this number empty
abbrev pub cleared_as : HeapState → ℕ → Option Object → HeapState
cleared_as heap id (Some (MapObject entries)) = with_map heap id []
cleared_as heap id object = with_list heap id []

abbrev pub cleared : HeapState → ℕ → HeapState
cleared heap id = cleared_as heap id (object_at heap id)

-- the heap with its closure, or its instance, of this number changed
abbrev pub closure_changed_as : HeapState → ℕ → (Closure → Closure) → Option Object → HeapState
closure_changed_as heap id f (Some (ClosureObject closure)) = with_object heap id (ClosureObject (f closure))
closure_changed_as heap id f object = heap

abbrev pub closure_changed : HeapState → ℕ → (Closure → Closure) → HeapState
closure_changed heap id f = closure_changed_as heap id f (object_at heap id)

abbrev pub instance_changed_as : HeapState → ℕ → (Instance → Instance) → Option Object → HeapState
instance_changed_as heap id f (Some (InstanceObject instance)) = with_object heap id (InstanceObject (f instance))
instance_changed_as heap id f object = heap

abbrev pub instance_changed : HeapState → ℕ → (Instance → Instance) → HeapState
instance_changed heap id f = instance_changed_as heap id f (object_at heap id)

-- a copy of the closure is made, with a delegate and a strategy of its own
abbrev pub Copies : HeapState → Option Object → Value → ℕ → Result ℕ HeapError → HeapState → Type 0
Copies old (Some (ClosureObject closure)) delegate strategy result new =
    Makes old (ClosureObject (record closure { delegate = delegate; strategy = strategy })) (closure_price closure.origin) result new
Copies old object delegate strategy result new = ⊥
