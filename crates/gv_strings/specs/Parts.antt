-- What the rows of a string answer that are new Strings of some of its characters.
use Rattle.std.specs.Prelude.{ℕ, ℤ, pos, ◌&&◌, nat_le, nat_lt, List, [], ◌∷◌, length, map, Option, Some, None, option_and_then, slice_get, unwrap_or, if◌then◌else◌}
use Rattle.std.specs.Option.{option_or}
use Rattle.std.specs.Str.{chars}
use Rattle.gv_base.specs.declared.value.Value.{Value}
use Rattle.gv_base.specs.declared.value.Value.TheVariants.{Null, Int, Obj}
use Rattle.gv_chars.specs.Chars as char
use Rattle.gv_heap.specs.Heap.{HeapState, object_at}
use Rattle.gv_heap.specs.declared.object.Object.{Object}
use Rattle.gv_heap.specs.declared.object.Object.TheVariants as object
use Rattle.gv_rows.specs.Reply.{Reply, just}
use Rattle.gv_rows.specs.Values.{from_end, natural, number_in, walked}
use Rattle.gv_strings.specs.Making.{new_chars}
use Rattle.gv_strings.specs.Throwing.{bad_places, out_of_range}
use Rattle.gv_strings.specs.declared.faults.Fault.{Fault}
use Rattle.gv_strings.specs.declared.faults.Fault.TheVariants.{NoNumber, Outside}

-- ---- the characters between two places

-- a place that is within these
abbrev pub bound_at : ℕ → ℕ → ℕ → Option ℕ
bound_at least greatest at = if nat_le least at && nat_le at greatest then Some at else None

abbrev pub bound : ℕ → ℕ → ℤ → Option ℕ
bound least greatest n = option_and_then (bound_at least greatest) (natural n)

-- from a place on
abbrev pub rest_from : HeapState → List ℕ → ℤ → Option ℕ → Reply
rest_from heap text i None = out_of_range i
rest_from heap text i (Some from) = new_chars heap (char.part from (length (chars text)) (chars text))

abbrev pub rest_reply : HeapState → List ℕ → Option ℤ → Reply
rest_reply heap text None = just heap Null
rest_reply heap text (Some i) = rest_from heap text i (bound 0 (length (chars text)) i)

-- up to before another
abbrev pub part_to : HeapState → List ℕ → ℕ → ℤ → Option ℕ → Reply
part_to heap text from j None = out_of_range j
part_to heap text from j (Some to) = new_chars heap (char.part from to (chars text))

abbrev pub part_from : HeapState → List ℕ → ℤ → ℤ → Option ℕ → Reply
part_from heap text i j None = out_of_range i
part_from heap text i j (Some from) = part_to heap text from j (bound from (length (chars text)) j)

abbrev pub part_reply : HeapState → List ℕ → Option ℤ → Option ℤ → Reply
part_reply heap text None j = just heap Null
part_reply heap text (Some i) None = just heap Null
part_reply heap text (Some i) (Some j) = part_from heap text i j (bound 0 (length (chars text)) i)

-- ---- the character at a place

-- a place that is in a text of so many characters
abbrev pub inside : ℕ → Option ℕ → Option ℕ
inside size None = None
inside size (Some at) = if nat_lt at size then Some at else None

-- `given` is the place as the message has it
abbrev pub char_or : HeapState → ℤ → Option ℕ → Reply
char_or heap given None = out_of_range given
char_or heap given (Some c) = new_chars heap (c ∷ [])

-- the character at a place, which counts from the end where it is negative
abbrev pub char_from : List ℕ → ℤ → Option ℕ
char_from cs n = option_and_then (slice_get cs) (natural (from_end (length cs) n))

abbrev pub char_reply : HeapState → List ℕ → ℤ → Reply
char_reply heap text n = char_or heap n (char_from (chars text) n)

-- ---- the characters at several places

-- a place that isn't in the text
abbrev pub outside : ℤ → Option ℕ → Option Fault
outside given None = Some (Outside given)
outside given (Some at) = None

-- an item is a number, and counts from the end where it is negative
abbrev pub item_fault : ℕ → Option ℤ → Option Fault
item_fault size None = Some NoNumber
item_fault size (Some n) = outside n (inside size (natural (from_end size n)))

-- the first item, and the first place of a walk, that can't be read
abbrev pub first_fault : ℕ → List Value → Option Fault
first_fault size [] = None
first_fault size (item ∷ rest) = option_or (item_fault size (number_in item)) (first_fault size rest)

abbrev pub walk_fault : ℕ → List ℤ → Option Fault
walk_fault size [] = None
walk_fault size (n ∷ rest) = option_or (outside n (inside size (natural n))) (walk_fault size rest)

-- the place that an item, or a step of a walk, means where it can be read
abbrev pub item_place : ℕ → Value → ℕ
item_place size item = unwrap_or (natural (from_end size (unwrap_or (number_in item) (pos 0)))) 0

abbrev pub walk_place : ℤ → ℕ
walk_place n = unwrap_or (natural n) 0

-- what a fault throws; it decides before anything is read
abbrev pub fault_reply : Fault → Reply
fault_reply NoNumber = bad_places
fault_reply (Outside given) = out_of_range given

abbrev pub unless_fault : Option Fault → Reply → Reply
unless_fault None reply = reply
unless_fault (Some fault) reply = fault_reply fault

abbrev pub items_reply : HeapState → List ℕ → List Value → Reply
items_reply heap text places =
    unless_fault (first_fault (length (chars text)) places)
    (new_chars heap (char.picked (map (item_place (length (chars text))) places) (chars text)))

abbrev pub walk_reply : HeapState → List ℕ → List ℤ → Reply
walk_reply heap text places =
    unless_fault (walk_fault (length (chars text)) places)
    (new_chars heap (char.picked (map walk_place places) (chars text)))

-- ---- getAt

abbrev pub get_by : HeapState → List ℕ → Option Object → Reply
get_by heap text (Some (object.List places)) = items_reply heap text places
get_by heap text (Some (object.Range range)) =
    walk_reply heap text (walked (length (chars text)) range.first range.last range.open_end)
get_by heap text other = just heap Null

abbrev pub get_reply : HeapState → List ℕ → Value → Reply
get_reply heap text (Int n) = char_reply heap text n
get_reply heap text (Obj id) = get_by heap text (object_at heap id)
get_reply heap text value = just heap Null
