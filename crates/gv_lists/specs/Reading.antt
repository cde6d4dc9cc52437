-- What the rows of a list answer that only read it. Its elements are those of a List or of a Range.
use Rattle.std.specs.Prelude.{◌≡◌, ℕ, ℤ, pos, negsuc, Bool, ◌-◌, ◌==◌, List, [], ◌∷◌, length, map, take, drop, reverse, slice_get, Option, Some, None, unwrap_or}
use Rattle.std.specs.Option.{option_or}
use Rattle.gv_base.specs.declared.value.Value.{Value}
use Rattle.gv_base.specs.declared.value.Value.TheVariants.{Null, Bool as Truth, Int, Obj}
use Rattle.gv_heap.specs.Heap.{HeapState, object_at}
use Rattle.gv_heap.specs.declared.object.Object.{Object}
use Rattle.gv_heap.specs.declared.object.Object.TheVariants as object
use Rattle.gv_rows.specs.Reply.{Reply, just, new_list}
use Rattle.gv_rows.specs.Values.{from_end, integer_of, natural, number_in, numbers, walked}
use Rattle.gv_lists.specs.Throwing.{outside, of_empty, bad_places}
use Rattle.gv_lists.specs.declared.faults.Fault.{Fault}
use Rattle.gv_lists.specs.declared.faults.Fault.TheVariants.{NoNumber, Before}

-- ---- how many there are

abbrev pub size_reply : HeapState → List Value → Reply
size_reply heap items = just heap (integer_of (length items))

abbrev pub empty_reply : HeapState → List Value → Reply
empty_reply heap items = just heap (Truth (length items == 0))

-- ---- the ends

abbrev pub first_of : List Value → Option Value
first_of items = slice_get items 0

abbrev pub last_of : List Value → Option Value
last_of items = slice_get items (length items - 1)

-- the first or the last element, where there is one
abbrev pub end_reply : HeapState → List ℕ → Option Value → Reply
end_reply heap name None = of_empty name
end_reply heap name (Some item) = just heap item

-- all but the first
abbrev pub tail_reply : HeapState → List ℕ → List Value → Reply
tail_reply heap name [] = of_empty name
tail_reply heap name (x ∷ rest) = new_list heap rest

-- ---- a part

-- how many elements a number means: none where it is negative
abbrev pub count_of : ℤ → ℕ
count_of n = unwrap_or (natural n) 0

-- the first so many, and all but these: all, or none, where there are fewer
abbrev pub taken : List Value → ℤ → List Value
taken items n = take (count_of n) items

abbrev pub dropped : List Value → ℤ → List Value
dropped items n = drop (count_of n) items

abbrev pub take_reply : HeapState → List Value → Option ℤ → Reply
take_reply heap items None = just heap Null
take_reply heap items (Some n) = new_list heap (taken items n)

abbrev pub drop_reply : HeapState → List Value → Option ℤ → Reply
drop_reply heap items None = just heap Null
drop_reply heap items (Some n) = new_list heap (dropped items n)

abbrev pub reverse_reply : HeapState → List Value → Reply
reverse_reply heap items = new_list heap (reverse items)

abbrev pub list_copy : HeapState → List Value → Reply
list_copy heap items = new_list heap items

-- ---- the element at a place

-- null past the end
abbrev pub element_or_null : List Value → ℕ → Value
element_or_null items at = unwrap_or (slice_get items at) Null

-- and null before the start, where it is asked for
abbrev pub or_null : List Value → Option ℕ → Value
or_null items None = Null
or_null items (Some at) = element_or_null items at

-- `given` is the place as the message has it
abbrev pub place_reply : HeapState → List Value → ℤ → Option ℕ → Reply
place_reply heap items given None = outside given (length items)
place_reply heap items given (Some at) = just heap (element_or_null items at)

-- ---- the elements at several places

-- what is read at a place that isn't before the start
abbrev pub element : List Value → ℤ → Value
element items n = or_null items (natural n)

-- a place before the start
abbrev pub before : ℤ → Option ℕ → Option Fault
before given None = Some (Before given)
before given (Some at) = None

-- an item is a number, and counts from the end where it is negative
abbrev pub item_fault : ℕ → Option ℤ → Option Fault
item_fault size None = Some NoNumber
item_fault size (Some n) = before n (natural (from_end size n))

abbrev pub item_element : List Value → Value → Value
item_element items item = element items (from_end (length items) (unwrap_or (number_in item) (pos 0)))

-- the first item, and the first place of a walk, that can't be read
abbrev pub first_fault : ℕ → List Value → Option Fault
first_fault size [] = None
first_fault size (item ∷ rest) = option_or (item_fault size (number_in item)) (first_fault size rest)

abbrev pub walk_fault : List ℤ → Option Fault
walk_fault [] = None
walk_fault (n ∷ rest) = option_or (before n (natural n)) (walk_fault rest)

-- places one after the other, up or down
abbrev pub IsRun : List ℤ → Type 0
IsRun places = (count : ℕ) × (down : Bool) × (first : ℤ) × (places ≡ numbers count down first)

-- the first fault of a run from its first place to its last: behind its first place it comes to -1 first
abbrev pub fault_between : ℤ → ℤ → Option Fault
fault_between first last = option_or (before first (natural first)) (before (negsuc 0) (natural last))

-- what a fault among so many elements throws; it decides before anything is read
abbrev pub fault_reply : ℕ → Fault → Reply
fault_reply size NoNumber = bad_places
fault_reply size (Before given) = outside given size

abbrev pub unless_fault : ℕ → Option Fault → Reply → Reply
unless_fault size None reply = reply
unless_fault size (Some fault) reply = fault_reply size fault

abbrev pub items_reply : HeapState → List Value → List Value → Reply
items_reply heap items places =
    unless_fault (length items) (first_fault (length items) places) (new_list heap (map (item_element items) places))

abbrev pub walk_reply : HeapState → List Value → List ℤ → Reply
walk_reply heap items places =
    unless_fault (length items) (walk_fault places) (new_list heap (map (element items) places))

-- ---- getAt

abbrev pub get_by : HeapState → List Value → Option Object → Reply
get_by heap items (Some (object.List places)) = items_reply heap items places
get_by heap items (Some (object.Range range)) = walk_reply heap items (walked (length items) range.first range.last range.open_end)
get_by heap items other = just heap Null

abbrev pub get_reply : HeapState → List Value → Value → Reply
get_reply heap items (Int n) = place_reply heap items n (natural (from_end (length items) n))
get_reply heap items (Obj id) = get_by heap items (object_at heap id)
get_reply heap items value = just heap Null
