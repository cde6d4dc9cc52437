-- What a call of a row of List does.
use Rattle.std.specs.Prelude.{◌≡◌, ℕ, Bool, true, ◌&&◌, ◌||◌, List, [], ◌∷◌, codes, bytes_eq, if◌then◌else◌}
use Rattle.gv_base.specs.declared.value.Value.{Value}
use Rattle.gv_base.specs.declared.value.Value.TheVariants.{Null, Obj}
use Rattle.gv_heap.specs.Heap.{HeapState, object_at}
use Rattle.gv_natives.specs.Table.{Method}
use Rattle.gv_rows.specs.Reply.{Reply, just, unless_null, unless_range}
use Rattle.gv_rows.specs.Takes.{is_range, is_sequence, lacks_one}
use Rattle.gv_rows.specs.Values.{number_in, sequence_at}
use Rattle.gv_lists.specs.Joining.{plus_reply, multiply_reply}
use Rattle.gv_lists.specs.Reading.{size_reply, empty_reply, first_of, last_of, end_reply, tail_reply, take_reply, drop_reply, reverse_reply, list_copy, get_reply}
use Rattle.gv_lists.specs.Writing.{add_reply, shift_reply, elements_in_value, add_all_reply, pop_reply, put_reply, insert_reply, clear_reply}

-- ---- the receiver

-- a List or a Range that is there
abbrev pub IsReceiver : HeapState → Value → Type 0
IsReceiver heap (Obj id) = is_sequence (object_at heap id) ≡ true
IsReceiver heap value = ⊥

-- the number of the object that a value is
abbrev pub object_of : Value → ℕ
object_of (Obj id) = id
object_of value = 0

-- ---- the rows by their names

-- the rows that change their list
abbrev pub writes : List ℕ → Bool
writes name = bytes_eq name (codes "putAt") || bytes_eq name (codes "add") || bytes_eq name (codes "push") || bytes_eq name (codes "addAll")
    || bytes_eq name (codes "leftShift") || bytes_eq name (codes "pop") || bytes_eq name (codes "clear")

-- without an argument
abbrev pub row_alone : HeapState → List ℕ → ℕ → Reply
row_alone heap name id =
    if bytes_eq name (codes "size") then size_reply heap (sequence_at heap id)
    else if bytes_eq name (codes "isEmpty") then empty_reply heap (sequence_at heap id)
    else if bytes_eq name (codes "first") then end_reply heap name (first_of (sequence_at heap id))
    else if bytes_eq name (codes "head") then end_reply heap name (first_of (sequence_at heap id))
    else if bytes_eq name (codes "last") then end_reply heap name (last_of (sequence_at heap id))
    else if bytes_eq name (codes "tail") then tail_reply heap name (sequence_at heap id)
    else if bytes_eq name (codes "reverse") then reverse_reply heap (sequence_at heap id)
    else if bytes_eq name (codes "toList") then list_copy heap (sequence_at heap id)
    else if bytes_eq name (codes "pop") then pop_reply heap id name
    else if bytes_eq name (codes "clear") then clear_reply heap id
    else just heap Null

-- with one argument
abbrev pub row_with : HeapState → List ℕ → ℕ → Value → Reply
row_with heap name id x =
    if bytes_eq name (codes "getAt") then get_reply heap (sequence_at heap id) x
    else if bytes_eq name (codes "take") then take_reply heap (sequence_at heap id) (number_in x)
    else if bytes_eq name (codes "drop") then drop_reply heap (sequence_at heap id) (number_in x)
    else if bytes_eq name (codes "plus") then plus_reply heap (sequence_at heap id) x
    else if bytes_eq name (codes "multiply") then multiply_reply heap (sequence_at heap id) (number_in x)
    else if bytes_eq name (codes "add") then add_reply heap id x
    else if bytes_eq name (codes "push") then add_reply heap id x
    else if bytes_eq name (codes "leftShift") then shift_reply heap id x
    else if bytes_eq name (codes "addAll") then add_all_reply heap id (elements_in_value heap x)
    else just heap Null

-- with two arguments
abbrev pub row_at_place : HeapState → List ℕ → ℕ → Value → Value → Reply
row_at_place heap name id place x =
    if bytes_eq name (codes "putAt") then put_reply heap id place x
    else if bytes_eq name (codes "add") then insert_reply heap id place x
    else just heap Null

abbrev pub row_reply : HeapState → List ℕ → ℕ → List Value → Reply
row_reply heap name id [] = row_alone heap name id
row_reply heap name id (x ∷ []) = row_with heap name id x
row_reply heap name id (x ∷ y ∷ more) = row_at_place heap name id x y

-- null arguments first, then the rows that write on a range, then the row's own conditions
abbrev pub list_reply : HeapState → Method → ℕ → List Value → Reply
list_reply heap row id args =
    unless_null row.name (lacks_one row args)
    (unless_range row.name (writes row.name && is_range (object_at heap id)) (row_reply heap row.name id args))
