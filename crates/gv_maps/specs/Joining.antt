-- What the rows of Map do that put the entries of another map in.
use Rattle.std.specs.Prelude.{◌≡◌, ℕ, ◌+◌, ◌<◌, ◌≤◌, List, [], ◌∷◌, ◌++◌, length, Result, MatchResult}
use Rattle.gv_base.specs.declared.value.Value.{Value}
use Rattle.gv_base.specs.declared.value.Value.TheVariants.{Null, Obj}
use Rattle.gv_heap.specs.Entries.{with_entry}
use Rattle.gv_heap.specs.Heap.{HeapState, map_at, pay, with_map, with_new}
use Rattle.gv_heap.specs.Prices.{entry_price}
use Rattle.gv_heap.specs.declared.entries.Slot.{Slot}
use Rattle.gv_heap.specs.declared.error.HeapError.{HeapError}
use Rattle.gv_heap.specs.declared.error.HeapError.TheVariants.{CellsSpent, OutOfMemory}
use Rattle.gv_heap.specs.declared.key.MapKey.{MapKey}
use Rattle.gv_heap.specs.declared.object.Object.TheVariants.{Map as MapObject}
use Rattle.gv_rows.specs.Reply.{Reply, Answers}

-- ---- the entries

-- with others put in, in order: a key that is there keeps its place and is shown as before
abbrev pub joined : List (MapKey × Slot) → List (MapKey × Slot) → List (MapKey × Slot)
joined entries [] = entries
joined entries (e ∷ others) = joined (with_entry entries e.0 e.1.shown e.1.value) others

-- a cell for each key that is new
abbrev pub join_price : List (MapKey × Slot) → List (MapKey × Slot) → ℕ
join_price entries [] = 0
join_price entries (e ∷ others) = entry_price entries e.0 + join_price (with_entry entries e.0 e.1.shown e.1.value) others

-- the entries of a map and over them those of another, in a map of its own
abbrev pub summed : List (MapKey × Slot) → List (MapKey × Slot) → List (MapKey × Slot)
summed entries others = joined [] (entries ++ others)

-- ---- the rows

-- the entries that an argument has
abbrev pub entries_in : HeapState → Value → List (MapKey × Slot)
entries_in heap (Obj id) = map_at heap id
entries_in heap value = []

abbrev pub joining : HeapState → ℕ → List (MapKey × Slot) → Value → Reply
joining heap id others answer = Answers answer (join_price (map_at heap id) others) (with_map heap id (joined (map_at heap id) others))

abbrev pub put_all_reply : HeapState → ℕ → Value → Reply
put_all_reply heap id m = joining heap id (entries_in heap m) Null

abbrev pub left_shift_reply : HeapState → ℕ → Value → Reply
left_shift_reply heap id m = joining heap id (entries_in heap m) (Obj id)

-- a new map, for a cell and one for each entry
abbrev pub new_map : HeapState → List (MapKey × Slot) → Reply
new_map heap entries = Answers (Obj (length heap.objects)) (1 + length entries) (with_new heap (MapObject entries))

abbrev pub plus_reply : HeapState → ℕ → Value → Reply
plus_reply heap id m = new_map heap (summed (map_at heap id) (entries_in heap m))

-- ---- the heap

-- the heap whose map of this number has others put in and paid
abbrev pub joined_heap : HeapState → ℕ → List (MapKey × Slot) → HeapState
joined_heap heap id others = pay (with_map heap id (joined (map_at heap id) others)) (join_price (map_at heap id) others)

-- a refusal for want of cells changes nothing; want of memory may leave more in the heap
abbrev pub Leaves : HeapState → ℕ → HeapError → HeapState → Type 0
Leaves old price CellsSpent new = (old.cells < price) × (new ≡ old)
Leaves old price OutOfMemory new = Unit {0}

abbrev pub Joins : HeapState → ℕ → List (MapKey × Slot) → Result (Unit {0}) HeapError → HeapState → Type 0
Joins old id others result new = MatchResult result
    (λ _. (join_price (map_at old id) others ≤ old.cells) × (new ≡ joined_heap old id others))
    (λ error. Leaves old (join_price (map_at old id) others) error new)

-- a new map of these entries
abbrev pub MakesMap : HeapState → List (MapKey × Slot) → Result ℕ HeapError → HeapState → Type 0
MakesMap old entries result new = MatchResult result
    (λ id. (1 + length entries ≤ old.cells) × (id ≡ length old.objects) × (new ≡ pay (with_new old (MapObject entries)) (1 + length entries)))
    (λ error. Leaves old (1 + length entries) error new)
