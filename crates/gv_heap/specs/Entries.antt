-- The entries of a map, in the order in which their keys came.
use Rattle.std.specs.Prelude.{Bool, List, Option, option_map, is_some, unwrap_or}
use Rattle.std.specs.Map.{lookup}
use Rattle.indexmap.specs.IndexMap.{insert_entry, shift_remove_entry}
use Rattle.gv_base.specs.declared.value.Value.{Value}
use Rattle.gv_heap.specs.Keys.{same_key}
use Rattle.gv_heap.specs.declared.key.MapKey.{MapKey}
use Rattle.gv_heap.specs.declared.entries.Slot.{Slot}

-- the value at a key, and whether the key is there
abbrev pub value_at : List (MapKey × Slot) → MapKey → Option Value
value_at entries key = option_map (λ slot. slot.value) (lookup (same_key key) entries)

abbrev pub has_key : List (MapKey × Slot) → MapKey → Bool
has_key entries key = is_some (lookup (same_key key) entries)

-- how a key that is there is shown
abbrev pub shown_at : List (MapKey × Slot) → MapKey → Option Value
shown_at entries key = option_map (λ slot. slot.shown) (lookup (same_key key) entries)

-- with a value at a key: a key that is there keeps its place and is shown as before, and a new one goes last
abbrev pub with_entry : List (MapKey × Slot) → MapKey → Value → Value → List (MapKey × Slot)
with_entry entries key shown value = insert_entry same_key entries key (record { shown = unwrap_or (shown_at entries key) shown; value = value })

-- without a key: the other entries keep their order
abbrev pub without_key : List (MapKey × Slot) → MapKey → List (MapKey × Slot)
without_key entries key = shift_remove_entry (same_key key) entries
