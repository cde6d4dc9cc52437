-- What the rows of Map do that change it by one key. A key that is new takes a cell.
use Rattle.std.specs.Prelude.{ℕ, [], Option, Some, None}
use Rattle.gv_base.specs.declared.value.Value.{Value}
use Rattle.gv_base.specs.declared.value.Value.TheVariants.{Null}
use Rattle.gv_heap.specs.Entries.{value_at, with_entry, without_key}
use Rattle.gv_heap.specs.Heap.{HeapState, map_at, with_map}
use Rattle.gv_heap.specs.Prices.{entry_price}
use Rattle.gv_heap.specs.declared.key.MapKey.{MapKey}
use Rattle.gv_rows.specs.Reply.{Reply, Answers, just}
use Rattle.gv_maps.specs.Reading.{value_or_null}

-- the value y is put at a key that x shows, and it answers so
abbrev pub putting : HeapState → ℕ → MapKey → Value → Value → Value → Reply
putting heap id key x y answer = Answers answer (entry_price (map_at heap id) key) (with_map heap id (with_entry (map_at heap id) key x y))

abbrev pub put_reply : HeapState → ℕ → MapKey → Value → Value → Reply
put_reply heap id key x y = putting heap id key x y (value_or_null (map_at heap id) key)

abbrev pub put_at_reply : HeapState → ℕ → MapKey → Value → Value → Reply
put_at_reply heap id key x y = putting heap id key x y y

-- the value that is there, or y, which is put there
abbrev pub found_or_put : HeapState → ℕ → MapKey → Value → Value → Option Value → Reply
found_or_put heap id key x y None = putting heap id key x y y
found_or_put heap id key x y (Some value) = just heap value

abbrev pub get_or_put_reply : HeapState → ℕ → MapKey → Value → Value → Reply
get_or_put_reply heap id key x y = found_or_put heap id key x y (value_at (map_at heap id) key)

abbrev pub remove_reply : HeapState → ℕ → MapKey → Reply
remove_reply heap id key = Answers (value_or_null (map_at heap id) key) 0 (with_map heap id (without_key (map_at heap id) key))

abbrev pub clear_reply : HeapState → ℕ → Reply
clear_reply heap id = Answers Null 0 (with_map heap id [])
