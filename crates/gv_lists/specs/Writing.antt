-- What the rows of a List do that change it. Each takes a cell for an element that is new.
use Rattle.std.specs.Prelude.{ℕ, ℤ, ◌-◌, ◌==◌, true, not, nat_lt, nat_le, List, [], ◌∷◌, ◌++◌, length, insert, remove, replicate, slice_set, Option, Some, None, if◌then◌else◌}
use Rattle.gv_base.specs.declared.value.Value.{Value}
use Rattle.gv_base.specs.declared.value.Value.TheVariants.{Null, Bool as Truth, Int, Obj}
use Rattle.gv_heap.specs.Heap.{HeapState, list_at, pay, with_list}
use Rattle.gv_rows.specs.Reply.{Reply, Answers, just}
use Rattle.gv_rows.specs.Values.{from_end, natural, sequence_at}
use Rattle.gv_lists.specs.Reading.{last_of}
use Rattle.gv_lists.specs.Throwing.{outside, of_empty}

-- ---- at the end

-- the heap with these last in a list, and a cell for each
abbrev pub grown : HeapState → ℕ → List Value → HeapState
grown heap id new = pay (with_list heap id (list_at heap id ++ new)) (length new)

-- these go last, and it answers a value
abbrev pub appended : HeapState → ℕ → List Value → Value → Reply
appended heap id new value = Answers value (length new) (with_list heap id (list_at heap id ++ new))

abbrev pub add_reply : HeapState → ℕ → Value → Reply
add_reply heap id x = appended heap id (x ∷ []) (Truth true)

abbrev pub shift_reply : HeapState → ℕ → Value → Reply
shift_reply heap id x = appended heap id (x ∷ []) (Obj id)

-- the elements of a List or a Range as they are at the start
abbrev pub elements_in_value : HeapState → Value → List Value
elements_in_value heap (Obj id) = sequence_at heap id
elements_in_value heap value = []

abbrev pub add_all_reply : HeapState → ℕ → List Value → Reply
add_all_reply heap id new = appended heap id new (Truth (not (length new == 0)))

-- the last goes
abbrev pub pop_of : HeapState → ℕ → List ℕ → Option Value → Reply
pop_of heap id name None = of_empty name
pop_of heap id name (Some item) = Answers item 0 (with_list heap id (remove (list_at heap id) (length (list_at heap id) - 1)))

abbrev pub pop_reply : HeapState → ℕ → List ℕ → Reply
pop_reply heap id name = pop_of heap id name (last_of (list_at heap id))

-- ---- at a place

-- the element at a place; past the end it goes last, behind nulls for the places between
abbrev pub put_in : HeapState → ℕ → ℕ → Value → Reply
put_in heap id at x =
    if nat_lt at (length (list_at heap id)) then Answers Null 0 (with_list heap id (slice_set (list_at heap id) at x))
    else appended heap id (replicate (at - length (list_at heap id)) Null ++ x ∷ []) Null

-- `given` is the place as the message has it
abbrev pub put_at : HeapState → ℕ → ℤ → Value → Option ℕ → Reply
put_at heap id given x None = outside given (length (list_at heap id))
put_at heap id given x (Some at) = put_in heap id at x

abbrev pub put_reply : HeapState → ℕ → Value → Value → Reply
put_reply heap id (Int n) x = put_at heap id n x (natural (from_end (length (list_at heap id)) n))
put_reply heap id value x = just heap Null

abbrev pub insert_at : HeapState → ℕ → ℤ → Value → Option ℕ → Reply
insert_at heap id given x None = outside given (length (list_at heap id))
insert_at heap id given x (Some at) =
    if nat_le at (length (list_at heap id)) then Answers Null 1 (with_list heap id (insert (list_at heap id) at x))
    else outside given (length (list_at heap id))

abbrev pub insert_reply : HeapState → ℕ → Value → Value → Reply
insert_reply heap id (Int n) x = insert_at heap id n x (natural n)
insert_reply heap id value x = just heap Null

-- ---- all go

abbrev pub clear_reply : HeapState → ℕ → Reply
clear_reply heap id = Answers Null 0 (with_list heap id [])
