-- A list with other elements.
use Rattle.std.specs.Prelude.{◌≡◌, ℕ, ◌-◌, ◌<◌, ◌≤◌, Bool, true, false, List, ◌++◌, length, drop, take, Option, Some, Result, Ok, Err}
use Rattle.gv_base.specs.declared.value.Value.{Value}
use Rattle.gv_heap.specs.Heap.{HeapState, list_at, object_at, pay, with_list}
use Rattle.gv_heap.specs.declared.error.HeapError.{HeapError}
use Rattle.gv_heap.specs.declared.error.HeapError.TheVariants.{CellsSpent, OutOfMemory}
use Rattle.gv_heap.specs.declared.object.Object.{Object}
use Rattle.gv_heap.specs.declared.object.Object.TheVariants as object

-- by how many elements the list grows
abbrev pub growth : HeapState → ℕ → List Value → ℕ
growth heap id elements = length elements - length (list_at heap id)

-- the heap with these elements in place of all those of a list, and a cell paid for each by which it grows
abbrev pub refilled : HeapState → ℕ → List Value → HeapState
refilled heap id elements = pay (with_list heap id elements) (growth heap id elements)

-- it is refused exactly where the cells aren't left; want of memory ends the run, and says nothing of the heap
abbrev pub ListRefills : HeapState → ℕ → List Value → Result (Unit {0}) HeapError → HeapState → Type 0
ListRefills old id elements (Ok done) new = (growth old id elements ≤ old.cells) × (new ≡ refilled old id elements)
ListRefills old id elements (Err CellsSpent) new = (old.cells < growth old id elements) × (new ≡ old)
ListRefills old id elements (Err OutOfMemory) new = growth old id elements ≤ old.cells

-- what is no list stays
abbrev pub Stays : HeapState → Result (Unit {0}) HeapError → HeapState → Type 0
Stays old (Ok done) new = new ≡ old
Stays old (Err error) new = ⊥

abbrev pub ObjectRefills : HeapState → ℕ → List Value → Option Object → Result (Unit {0}) HeapError → HeapState → Type 0
ObjectRefills old id elements (Some (object.List items)) result new = ListRefills old id elements result new
ObjectRefills old id elements other result new = Stays old result new

abbrev pub Refills : HeapState → ℕ → List Value → Result (Unit {0}) HeapError → HeapState → Type 0
Refills old id elements result new = ObjectRefills old id elements (object_at old id) result new

-- ---- on the way

-- the heap with so many of these in place of as many first elements of a list
abbrev pub begun : HeapState → ℕ → List Value → ℕ → HeapState
begun heap id elements count = with_list heap id (take count elements ++ drop count (list_at heap id))

-- the heap with so many first elements of a list
abbrev pub shortened : HeapState → ℕ → ℕ → HeapState
shortened heap id count = with_list heap id (take count (list_at heap id))

-- the heap with these last in a list, and a cell paid for each
abbrev pub grown : HeapState → ℕ → List Value → HeapState
grown heap id last = pay (with_list heap id (list_at heap id ++ last)) (length last)

abbrev pub is_list : Option Object → Bool
is_list (Some (object.List items)) = true
is_list other = false
