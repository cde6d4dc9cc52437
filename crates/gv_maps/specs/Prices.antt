-- How the entries that are new are counted before one is put in: the keys that aren't known, each once.
use Rattle.std.specs.Prelude.{ℕ, List, [], ◌∷◌, length, if◌then◌else◌}
use Rattle.indexmap.specs.IndexSet.{insert_key}
use Rattle.gv_heap.specs.Entries.{has_key}
use Rattle.gv_heap.specs.Keys.{same_key}
use Rattle.gv_heap.specs.declared.entries.Slot.{Slot}
use Rattle.gv_heap.specs.declared.key.MapKey.{MapKey}

-- with a key that is noted where the entries haven't it
abbrev pub noted : List (MapKey × Slot) → List MapKey → MapKey → List MapKey
noted entries keys key = if has_key entries key then keys else insert_key same_key keys key

-- how many keys are noted in the end
abbrev pub count_noted : List (MapKey × Slot) → List MapKey → List (MapKey × Slot) → ℕ
count_noted entries keys [] = length keys
count_noted entries keys (e ∷ others) = count_noted entries (noted entries keys e.0) others
