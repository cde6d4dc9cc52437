-- What the rows of Map do that only read it.
use Rattle.std.specs.Prelude.{ℕ, ◌==◌, List, map, length, unwrap_or}
use Rattle.gv_base.specs.declared.value.Value.{Value}
use Rattle.gv_base.specs.declared.value.Value.TheVariants.{Null, Bool as Truth}
use Rattle.gv_heap.specs.Entries.{value_at, has_key}
use Rattle.gv_heap.specs.Heap.{HeapState, map_at}
use Rattle.gv_heap.specs.declared.entries.Slot.{Slot}
use Rattle.gv_heap.specs.declared.key.MapKey.{MapKey}
use Rattle.gv_rows.specs.Reply.{Reply, just, new_list}
use Rattle.gv_rows.specs.Values.{integer_of}

-- ---- the entries

abbrev pub has_none : List (MapKey × Slot) → Value
has_none entries = Truth (length entries == 0)

-- the value at a key, or null
abbrev pub value_or_null : List (MapKey × Slot) → MapKey → Value
value_or_null entries key = unwrap_or (value_at entries key) Null

-- the keys as they are shown, and the values, in order
abbrev pub shown_keys : List (MapKey × Slot) → List Value
shown_keys entries = map (λ e. e.1.shown) entries

abbrev pub values_of : List (MapKey × Slot) → List Value
values_of entries = map (λ e. e.1.value) entries

-- ---- the rows

abbrev pub size_reply : HeapState → ℕ → Reply
size_reply heap id = just heap (integer_of (length (map_at heap id)))

abbrev pub empty_reply : HeapState → ℕ → Reply
empty_reply heap id = just heap (has_none (map_at heap id))

abbrev pub get_reply : HeapState → ℕ → MapKey → Reply
get_reply heap id key = just heap (value_or_null (map_at heap id) key)

abbrev pub contains_reply : HeapState → ℕ → MapKey → Reply
contains_reply heap id key = just heap (Truth (has_key (map_at heap id) key))

abbrev pub keys_reply : HeapState → ℕ → Reply
keys_reply heap id = new_list heap (shown_keys (map_at heap id))

abbrev pub values_reply : HeapState → ℕ → Reply
values_reply heap id = new_list heap (values_of (map_at heap id))
