-- The folds with which methods begin.
use Rattle.std.specs.Prelude.{ℕ, pos, ◌-ℤ◌, Bool, false, List, [], ◌∷◌, codes, bytes_eq, if◌then◌else◌}
use Rattle.gv_base.specs.declared.value.Value.{Value}
use Rattle.gv_base.specs.declared.value.Value.TheVariants.{Null, Int, Long, Obj}
use Rattle.gv_elements.specs.Elements.{values_between}
use Rattle.gv_heap.specs.Heap.{HeapState, map_at}
use Rattle.gv_heap.specs.declared.entries.Slot.{Slot}
use Rattle.gv_heap.specs.declared.key.MapKey.{MapKey}
use Rattle.gv_rows.specs.Values.{sequence_at}
use Rattle.gv_folds.specs.declared.fold.Fold.{Fold}
use Rattle.gv_folds.specs.declared.fold.Keeping.{Keeping}
use Rattle.gv_folds.specs.declared.fold.Keeping.TheVariants.{Each, Collected, Found, FoundAll, Any, Every, Injected, Counted}
use Rattle.gv_folds.specs.declared.fold.Pending.TheVariants.{Answer}
use Rattle.gv_folds.specs.declared.source.Handed.TheVariants.{Nothing}
use Rattle.gv_folds.specs.declared.source.Source.{Source}
use Rattle.gv_folds.specs.declared.source.Source.TheVariants.{Plain, Indexed, Entries}

abbrev pub new_fold : Value → Source → Keeping → Fold
new_fold closure source keeping = record { closure = closure; source = source; keeping = keeping; handed = Nothing; pending = Answer }

-- what a method keeps, by its name; `each` answers its receiver
abbrev pub keeping : List ℕ → Value → Value → Keeping
keeping name receiver first =
    if bytes_eq name (codes "collect") then Collected []
    else if bytes_eq name (codes "find") then Found
    else if bytes_eq name (codes "findAll") then FoundAll []
    else if bytes_eq name (codes "any") then Any
    else if bytes_eq name (codes "every") then Every
    else if bytes_eq name (codes "inject") then Injected first
    else if bytes_eq name (codes "count") then Counted 0
    else Each receiver

-- the closure is the last argument
abbrev pub closure_of : List Value → Value
closure_of [] = Null
closure_of (x ∷ []) = x
closure_of (x ∷ y ∷ more) = y

abbrev pub first_of : List Value → Value
first_of [] = Null
first_of (x ∷ xs) = x

-- ---- lists and ranges

abbrev pub list_source : List ℕ → List Value → Source
list_source name elements = if bytes_eq name (codes "eachWithIndex") then Indexed 0 elements else Plain elements

abbrev pub list_fold : HeapState → List ℕ → ℕ → List Value → Fold
list_fold heap name id args = new_fold (closure_of args) (list_source name (sequence_at heap id)) (keeping name (Obj id) (first_of args))

-- ---- maps

-- each key as it was put
abbrev pub shown_entries : List (MapKey × Slot) → List (Value × Value)
shown_entries [] = []
shown_entries (e ∷ es) = (e.1.shown, e.1.value) ∷ shown_entries es

abbrev pub map_fold : HeapState → List ℕ → ℕ → Bool → Value → Fold
map_fold heap name id takes_two closure = new_fold closure (Entries takes_two (shown_entries (map_at heap id))) (keeping name (Obj id) Null)

-- ---- numbers

-- the numbers below one, from 0 on
abbrev pub below : Value → List Value
below (Int n) = values_between (Int (pos 0)) (Int (n -ℤ pos 1)) false
below (Long n) = values_between (Long (pos 0)) (Long (n -ℤ pos 1)) false
below v = []

abbrev pub times_fold : Value → Value → Fold
times_fold count closure = new_fold closure (Plain (below count)) (Each Null)

abbrev pub range_fold : Value → Value → Bool → Value → Fold
range_fold first last down closure = new_fold closure (Plain (values_between first last down)) (Each Null)
