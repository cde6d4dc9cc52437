-- What is made of what was gathered, and what it costs.
use Rattle.std.specs.Prelude.{◌≡◌, ℕ, ◌+◌, ◌^◌, ◌<◌, ◌≤◌, List, [], ◌∷◌, ◌++◌, length, Option, Some, None, Result, MatchResult}
use Rattle.gv_base.specs.declared.value.Value.TheVariants.{Obj}
use Rattle.gv_heap.specs.Entries.{with_entry}
use Rattle.gv_heap.specs.Heap.{HeapState, pay, with_new}
use Rattle.gv_heap.specs.Prices.{filled_price}
use Rattle.gv_heap.specs.declared.entries.Slot.{Slot}
use Rattle.gv_heap.specs.declared.error.HeapError.{HeapError}
use Rattle.gv_heap.specs.declared.error.HeapError.TheVariants.{CellsSpent, OutOfMemory}
use Rattle.gv_heap.specs.declared.key.MapKey.{MapKey}
use Rattle.gv_heap.specs.declared.object.Object.{Object}
use Rattle.gv_heap.specs.declared.object.Object.TheVariants.{List as ListObject, Map as MapObject}
use Rattle.gv_gathered.specs.declared.groups.Members.{Members}

-- objects are made behind those of a heap, and the last one's number is answered, for a price that is asked as a whole;
-- a refusal for want of cells changes nothing, and want of memory may leave more in the heap
abbrev pub Leaves : HeapState → ℕ → HeapError → HeapState → Type 0
Leaves old price CellsSpent new = (old.cells < price) × (new ≡ old)
Leaves old price OutOfMemory new = Unit {0}

abbrev pub with_all : HeapState → List Object → HeapState
with_all heap objects = record heap { objects = heap.objects ++ objects }

-- ---- a map

abbrev pub map_price : List (MapKey × Slot) → ℕ
map_price entries = 1 + length entries

abbrev pub MakesMap : HeapState → List (MapKey × Slot) → Result ℕ HeapError → HeapState → Type 0
MakesMap old entries result new = MatchResult result
    (λ id. (map_price entries ≤ old.cells) × (id ≡ length old.objects) × (new ≡ pay (with_new old (MapObject entries)) (map_price entries)))
    (λ error. Leaves old (map_price entries) error new)

-- ---- groups

-- the lists of the groups, in order
abbrev pub group_lists : List (MapKey × Members) → List Object
group_lists [] = []
group_lists (group ∷ groups) = ListObject group.1.elements ∷ group_lists groups

-- the entries of the groups, whose lists have the numbers from this one on
abbrev pub group_entries : ℕ → List (MapKey × Members) → List (MapKey × Slot)
group_entries id [] = []
group_entries id (group ∷ groups) = (group.0, record { shown = group.1.shown; value = Obj id }) ∷ group_entries (id + 1) groups

-- what the lists cost
abbrev pub lists_price : List (MapKey × Members) → ℕ
lists_price [] = 0
lists_price (group ∷ groups) = filled_price group.1.elements + lists_price groups

-- and the map of them with them
abbrev pub groups_price : List (MapKey × Members) → ℕ
groups_price groups = lists_price groups + (1 + length groups)

-- the lists, and the map of them
abbrev pub group_objects : ℕ → List (MapKey × Members) → List Object
group_objects id groups = group_lists groups ++ MapObject (group_entries id groups) ∷ []

abbrev pub MakesGroups : HeapState → List (MapKey × Members) → Result ℕ HeapError → HeapState → Type 0
MakesGroups old groups result new = MatchResult result
    (λ id. (groups_price groups ≤ old.cells) × (id ≡ length old.objects + length groups) × (new ≡ pay (with_all old (group_objects (length old.objects) groups)) (groups_price groups)))
    (λ error. Leaves old (groups_price groups) error new)

-- ---- as the code says it

-- a price, or none where it is more than can be counted
abbrev pub IsPrice : Option ℕ → ℕ → Type 0
IsPrice None price = 2 ^ 64 ≤ price
IsPrice (Some counted) price = counted ≡ price

-- a group's list is made, and put at the group's key
abbrev pub with_list_of : HeapState → Members → HeapState
with_list_of heap members = pay (with_new heap (ListObject members.elements)) (filled_price members.elements)

abbrev pub with_group : List (MapKey × Slot) → ℕ → MapKey × Members → List (MapKey × Slot)
with_group entries id group = with_entry entries group.0 group.1.shown (Obj id)
