-- What a call of a row of Map does.
use Rattle.std.specs.Prelude.{◌≡◌, ℕ, true, List, [], ◌∷◌, codes, bytes_eq, if◌then◌else◌}
use Rattle.gv_base.specs.declared.value.Value.{Value}
use Rattle.gv_base.specs.declared.value.Value.TheVariants.{Null, Obj}
use Rattle.gv_classes.specs.declared.declared.Declared.{Declared}
use Rattle.gv_heap.specs.Heap.{HeapState, object_at}
use Rattle.gv_heap.specs.declared.key.MapKey.{MapKey}
use Rattle.gv_natives.specs.Table.{Method}
use Rattle.gv_rows.specs.Reply.{Reply, just, unless_null}
use Rattle.gv_rows.specs.Takes.{is_map, lacks_one}
use Rattle.gv_maps.specs.Joining.{put_all_reply, plus_reply, left_shift_reply}
use Rattle.gv_maps.specs.Keys.{with_key}
use Rattle.gv_maps.specs.Reading.{size_reply, empty_reply, get_reply, contains_reply, keys_reply, values_reply}
use Rattle.gv_maps.specs.Writing.{put_reply, put_at_reply, get_or_put_reply, remove_reply, clear_reply}

-- ---- the receiver

-- a Map that is there
abbrev pub IsReceiver : HeapState → Value → Type 0
IsReceiver heap (Obj id) = is_map (object_at heap id) ≡ true
IsReceiver heap value = ⊥

-- the number of the object that a value is
abbrev pub object_of : Value → ℕ
object_of (Obj id) = id
object_of value = 0

-- ---- the rows by their names; there are no others, and null stands for those

-- without an argument
abbrev pub row_alone : HeapState → List ℕ → ℕ → Reply
row_alone heap name id =
    if bytes_eq name (codes "size") then size_reply heap id
    else if bytes_eq name (codes "isEmpty") then empty_reply heap id
    else if bytes_eq name (codes "clear") then clear_reply heap id
    else if bytes_eq name (codes "keySet") then keys_reply heap id
    else if bytes_eq name (codes "values") then values_reply heap id
    else just heap Null

-- with a key
abbrev pub row_with_key : HeapState → List ℕ → ℕ → MapKey → Reply
row_with_key heap name id key =
    if bytes_eq name (codes "get") then get_reply heap id key
    else if bytes_eq name (codes "getAt") then get_reply heap id key
    else if bytes_eq name (codes "containsKey") then contains_reply heap id key
    else if bytes_eq name (codes "remove") then remove_reply heap id key
    else just heap Null

-- with one argument: a map, or a key
abbrev pub row_with : List (List ℕ) → List Declared → HeapState → List ℕ → ℕ → Value → Reply
row_with names classes heap name id x =
    if bytes_eq name (codes "putAll") then put_all_reply heap id x
    else if bytes_eq name (codes "plus") then plus_reply heap id x
    else if bytes_eq name (codes "leftShift") then left_shift_reply heap id x
    else with_key names classes heap x (λ key. row_with_key heap name id key)

-- with a key that x shows, and a value
abbrev pub row_with_value : HeapState → List ℕ → ℕ → MapKey → Value → Value → Reply
row_with_value heap name id key x y =
    if bytes_eq name (codes "get") then get_or_put_reply heap id key x y
    else if bytes_eq name (codes "put") then put_reply heap id key x y
    else if bytes_eq name (codes "putAt") then put_at_reply heap id key x y
    else just heap Null

abbrev pub row_reply : List (List ℕ) → List Declared → HeapState → List ℕ → ℕ → List Value → Reply
row_reply names classes heap name id [] = row_alone heap name id
row_reply names classes heap name id (x ∷ []) = row_with names classes heap name id x
row_reply names classes heap name id (x ∷ y ∷ more) = with_key names classes heap x (λ key. row_with_value heap name id key x y)

-- null where a map is written first, then the row itself
abbrev pub map_reply : List (List ℕ) → List Declared → HeapState → Method → ℕ → List Value → Reply
map_reply names classes heap row id args = unless_null row.name (lacks_one row args) (row_reply names classes heap row.name id args)
